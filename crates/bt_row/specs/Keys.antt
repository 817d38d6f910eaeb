-- The cells of a row by their keys.
use Rattle.std.specs.Prelude.{ℕ, List, map}
use Rattle.std.specs.Ordering.{nat_cmp, ordering_then}
use Rattle.std.specs.declared.cmp.Ordering.{Ordering}
use Rattle.std.specs.Cmp.{IsTotalOrder}
use Rattle.std.specs.List.Sorted.{IsStrictlySortedBy}
use Rattle.std.specs.Map.{keys_of}
use Rattle.std.specs.Cmp.Lexicographic.{slice_cmp}
use Rattle.std.proofs.lemmas.Cmp.{then_total, on_total, back_total, nat_cmp_total, nat_list_cmp_total}
use Rattle.bt_types.specs.declared.cell.Cell.{Cell}
use Rattle.bt_types.specs.Cells.{plain}
use Rattle.bt_row.specs.declared.cell_key.CellKey.{CellKey}

-- family ascending, qualifier ascending, timestamp descending
abbrev pub key_cmp : CellKey → CellKey → Ordering
key_cmp a b = ordering_then (slice_cmp nat_cmp a.family b.family) (ordering_then (slice_cmp nat_cmp a.qualifier b.qualifier) (nat_cmp b.at a.at))

-- this orders keys totally
pub key_total : IsTotalOrder key_cmp
key_total =
    then_total (on_total (λ (k : CellKey). k.family) nat_list_cmp_total) (then_total (on_total (λ (k : CellKey). k.qualifier) nat_list_cmp_total) (back_total (on_total (λ (k : CellKey). k.at) nat_cmp_total)))

-- the cell of this key and value
abbrev pub cell_at : CellKey → List ℕ → Cell
cell_at k v = plain k.family k.qualifier k.at v

-- values by the keys of their cells, in the order of keys
abbrev pub Keyed : Type 0
Keyed = List (CellKey × List ℕ)

-- the cells that they are
abbrev pub cells_of : Keyed → List Cell
cells_of es = map (λ e. cell_at e.0 e.1) es

-- the key of a cell
abbrev pub key_of : Cell → CellKey
key_of c = record { family = c.family; qualifier = c.qualifier; at = c.at }

-- the values of cells by their keys
abbrev pub keyed : List Cell → Keyed
keyed cs = map (λ c. (key_of c, c.value)) cs

abbrev pub AreSorted : {X : Type 0} → List (CellKey × X) → Type 0
AreSorted es = IsStrictlySortedBy key_cmp (keys_of es)
