use Rattle.std.proofs.Common.{◌≡◌}
use Rattle.std.specs.Vec.Iter.{into_iter_items}
use Rattle.bt_row.specs.declared.cell_key.CellKey.{CellKey}
use Rattle.bt_row.specs.Sound.{HaveShort}
use Rattle.bt_row.specs.Plans.{IsPlan, planned, values_after}
use Rattle.bt_row.proofs.plan.Plan.add_all.Given as goal

-- the mutations that are left lead where all lead
abbrev pub invariant-loop-mutation : goal.invariant-loop-mutation
invariant-loop-mutation l =
    (goal.iterator-loop-mutation).can_next l.mutation-iterator
    × (goal.iterator-loop-mutation).is_finite l.mutation-iterator
    × HaveShort (into_iter_items l.mutation-iterator)
    × IsPlan l.self l.cells.entries
    × ((k : CellKey) → values_after (into_iter_items l.mutation-iterator) (planned l.self l.cells.entries) k ≡ values_after (into_iter_items l.initial.mutation-iterator) (planned l.initial.self l.cells.entries) k)
