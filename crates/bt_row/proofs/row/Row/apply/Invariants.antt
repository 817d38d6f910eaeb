use Rattle.std.proofs.Common.{◌≡◌}
use Rattle.std.specs.Vec.Iter.{into_iter_items}
use Rattle.bt_row.specs.declared.cell_key.CellKey.{CellKey}
use Rattle.bt_row.specs.Sound.{HaveShort, IsSound}
use Rattle.bt_row.specs.Plans.{value_at, values_after}
use Rattle.bt_row.proofs.row.Row.apply.Given as goal

-- the mutations that are left lead where all lead
abbrev pub invariant-loop-mutation : goal.invariant-loop-mutation
invariant-loop-mutation l =
    (goal.iterator-loop-mutation).can_next l.mutation-iterator
    × (goal.iterator-loop-mutation).is_finite l.mutation-iterator
    × HaveShort (into_iter_items l.mutation-iterator)
    × IsSound l.self.cells.entries
    × ((k : CellKey) → values_after (into_iter_items l.mutation-iterator) (value_at l.self.cells.entries) k ≡ values_after (into_iter_items l.initial.mutation-iterator) (value_at l.initial.self.cells.entries) k)
