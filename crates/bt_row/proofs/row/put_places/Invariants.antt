use Rattle.std.proofs.Common.{◌≡◌, [], Some, cond, true, false}
use Rattle.std.specs.List.{list_any}
use Rattle.std.specs.BTreeMap.{is_at}
use Rattle.std.specs.Vec.Iter.{into_iter_items}
use Rattle.bt_row.specs.declared.cell_key.CellKey.{CellKey}
use Rattle.bt_row.specs.Keys.{AreSorted, key_cmp}
use Rattle.bt_row.specs.Plans.{value_at}
use Rattle.bt_row.proofs.row.put_places.Given as goal

-- the keys that are left are among all; the other ones keep their values; and all have places or get them
abbrev pub invariant-loop-key : goal.invariant-loop-key
invariant-loop-key l =
    (goal.iterator-loop-key).can_next l.key-iterator
    × (goal.iterator-loop-key).is_finite l.key-iterator
    × AreSorted l.cells.entries
    × ((k : CellKey) → list_any (is_at (key_cmp k)) (into_iter_items l.initial.key-iterator) ≡ false → list_any (is_at (key_cmp k)) (into_iter_items l.key-iterator) ≡ false)
    × ((k : CellKey) → list_any (is_at (key_cmp k)) (into_iter_items l.initial.key-iterator) ≡ false → value_at l.cells.entries k ≡ value_at l.initial.cells.entries k)
    × ((k : CellKey) → list_any (is_at (key_cmp k)) (into_iter_items l.initial.key-iterator) ≡ true → cond (list_any (is_at (key_cmp k)) (into_iter_items l.key-iterator)) (Some []) (value_at l.cells.entries k) ≡ Some [])
