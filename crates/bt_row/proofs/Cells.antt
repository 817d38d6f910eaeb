-- The cells of keys in order.
use Rattle.std.proofs.Common.{◌≡◌, ℕ, List, [], ◌∷◌, None, refl, arith}
use Rattle.std.specs.Prelude.{All}
use Rattle.std.specs.List.{AllByRecursion}
use Rattle.std.specs.Map.{keys_of}
use Rattle.std.specs.declared.cmp.Ordering.TheVariants.{Less}
use Rattle.std.proofs.lemmas.List.Elements.{All-cons}
use Rattle.std.proofs.lemmas.Map.Keys.{sorted_head, sorted_tail}
use Rattle.bt_types.specs.declared.cell.Cell.{Cell}
use Rattle.bt_types.specs.Cells.{cell_cmp, AreOrdered, IsRow}
use Rattle.bt_row.specs.declared.cell_key.CellKey.{CellKey}
use Rattle.bt_row.specs.Keys.{AreSorted, Keyed, cell_at, cells_of, key_cmp}

none_all : (P : Cell → Type 0) → All P []
none_all P = λ k d lt. absurd (omega (arith, lt))

later_cells : (k : CellKey) (v : List ℕ) (es : Keyed) → AllByRecursion (λ q. key_cmp k q ≡ Less) (keys_of es) → All (λ d. cell_cmp (cell_at k v) d ≡ Less) (cells_of es)
later_cells k v [] below = none_all (λ d. cell_cmp (cell_at k v) d ≡ Less)
later_cells k v (e ∷ es) below = All-cons (λ d. cell_cmp (cell_at k v) d ≡ Less) (cell_at e.0 e.1) (cells_of es) below.0 (later_cells k v es below.1)

cells_ordered : (es : Keyed) → AreSorted es → AreOrdered (cells_of es)
cells_ordered [] sorted = tt
cells_ordered (e ∷ es) sorted = (later_cells e.0 e.1 es (sorted_head key_cmp e.0 (keys_of es) sorted), cells_ordered es (sorted_tail key_cmp e.0 (keys_of es) sorted))

cells_unlabelled : (es : Keyed) → All (λ (c : Cell). c.label ≡ None) (cells_of es)
cells_unlabelled [] = none_all (λ c. c.label ≡ None)
cells_unlabelled (e ∷ es) = All-cons (λ (c : Cell). c.label ≡ None) (cell_at e.0 e.1) (cells_of es) refl (cells_unlabelled es)

-- the cells of keys in order are a row
pub row_of_sorted : (es : Keyed) → AreSorted es → IsRow (cells_of es)
row_of_sorted es sorted = record { ordered = cells_ordered es sorted; unlabelled = cells_unlabelled es }
