use Rattle.std.proofs.Common.{◌≡◌}
use Rattle.std.specs.Vec.Iter.{into_iter_items}
use Rattle.bt_row.specs.declared.cell_key.CellKey.{CellKey}
use Rattle.bt_all_contents.specs.AllContents.{AreNewRows, ArePlans, AreShortChanges, RowAt, all_planned, mutations_at}
use Rattle.bt_row.specs.Plans.{values_after}
use Rattle.bt_all_contents.proofs.planned.plan_all.Given as goal

-- the changes that are left lead where all lead
abbrev pub invariant-loop-change : goal.invariant-loop-change
invariant-loop-change l =
    (goal.iterator-loop-change).can_next l.change-iterator
    × (goal.iterator-loop-change).is_finite l.change-iterator
    × AreShortChanges (into_iter_items l.change-iterator)
    × ArePlans l.planned.plans.entries l.tables.entries
    × AreNewRows l.planned.new_rows.entries l.tables.entries
    × ((a : RowAt) (k : CellKey) → values_after (mutations_at (into_iter_items l.change-iterator) a) (all_planned l.planned.plans.entries l.planned.new_rows.entries l.tables.entries a) k ≡ values_after (mutations_at (into_iter_items l.initial.change-iterator) a) (all_planned l.initial.planned.plans.entries l.initial.planned.new_rows.entries l.tables.entries a) k)
