-- The first cell of a column.
use Rattle.std.proofs.Common.{◌≡◌, ℕ, Bool, true, false, List, [], ◌∷◌, Some, cond, refl}
use Rattle.std.specs.Prelude.{option_map}
use Rattle.std.specs.List.{find}
use Rattle.std.specs.Map.{keys_of}
use Rattle.std.proofs.lemmas.List.Elements.{All-head, All-tail}
use Rattle.bt_types.specs.declared.mutation.Mutation.TheVariants.{DeleteColumn}
use Rattle.bt_types.specs.Mutations.{is_in_column}
use Rattle.bt_row.specs.declared.cell_key.CellKey.{CellKey}
use Rattle.bt_row.specs.declared.extent.Extent.{Extent}
use Rattle.bt_row.specs.Extents.{AreTimed, Covers, IsTimed, is_covered}
use Rattle.bt_row.specs.Keys.{Keyed, cell_at, cells_of}

-- the first entry that an extent of a column covers is the first cell of the column
pub cell_found : (family qualifier : List ℕ) (start end : ℕ) (d : Extent) → Covers d (DeleteColumn family qualifier start end) → (es : Keyed) → AreTimed (keys_of es)
    → option_map (λ (e : CellKey × List ℕ). cell_at e.0 e.1) (find (λ (e : CellKey × List ℕ). is_covered d e.0) es) ≡ find (is_in_column family qualifier start end) (cells_of es)
cell_found family qualifier start end d covers [] timed = refl
cell_found family qualifier start end d covers (e ∷ es) timed =
    rw (covers e.0 (All-head IsTimed e.0 (keys_of es) timed)) (by (is_in_column family qualifier start end (cell_at e.0 e.1)) (cell_found family qualifier start end d covers es (All-tail IsTimed e.0 (keys_of es) timed)))
  where
    by : (t : Bool) → option_map (λ (e : CellKey × List ℕ). cell_at e.0 e.1) (find (λ (e : CellKey × List ℕ). is_covered d e.0) es) ≡ find (is_in_column family qualifier start end) (cells_of es)
        → option_map (λ (e : CellKey × List ℕ). cell_at e.0 e.1) (cond t (Some e) (find (λ (e : CellKey × List ℕ). is_covered d e.0) es)) ≡ cond t (Some (cell_at e.0 e.1)) (find (is_in_column family qualifier start end) (cells_of es))
    by true rest = refl
    by false rest = rest
