use Rattle.std.proofs.Common.{◌≡◌}
use Rattle.std.specs.Vec.Iter.{into_iter_items}
use Rattle.bt_row.specs.declared.cell_key.CellKey.{CellKey}
use Rattle.bt_row.specs.Sound.{IsSound}
use Rattle.bt_row.specs.Plans.{value_at, without}
use Rattle.bt_row.proofs.row.Row.remove.Given as goal

-- removing the keys that are left leads where removing all leads
abbrev pub invariant-loop-key : goal.invariant-loop-key
invariant-loop-key l =
    (goal.iterator-loop-key).can_next l.key-iterator
    × (goal.iterator-loop-key).is_finite l.key-iterator
    × IsSound l.self.cells.entries
    × ((k : CellKey) → without (into_iter_items l.key-iterator) (value_at l.self.cells.entries) k ≡ without (into_iter_items l.initial.key-iterator) (value_at l.initial.self.cells.entries) k)
