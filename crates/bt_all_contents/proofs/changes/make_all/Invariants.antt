use Rattle.std.proofs.Common.{◌≡◌, Some, false}
use Rattle.std.specs.Prelude.{IfSome}
use Rattle.std.specs.List.Sorted.{IsStrictlySortedBy}
use Rattle.std.specs.Map.{keys_of}
use Rattle.bt_row.specs.declared.cell_key.CellKey.{CellKey}
use Rattle.bt_all_contents.specs.AllContents.{ArePlans, AreTables, RowAt, all_placed, at_cmp, cells_there, is_wanted_there, plan_at}
use Rattle.bt_row.specs.Plans.{value_at}
use Rattle.bt_all_contents.proofs.changes.make_all.Given as goal

-- the plans that are left are among all and for rows as they are; the cells that no plan wants are as they were; and the plans that are left lead where all lead
abbrev pub invariant-loop-at : goal.invariant-loop-at
invariant-loop-at l = (goal.iterator-loop-at).can_next l.at-iterator
    × IsStrictlySortedBy at_cmp (keys_of l.at-iterator)
    × AreTables l.tables.entries
    × ((a : RowAt) → IfSome (plan_at l.at-iterator a) (λ p. plan_at l.plans.entries a ≡ Some p))
    × ArePlans l.at-iterator l.tables.entries
    × ((a : RowAt) (k : CellKey) → is_wanted_there l.plans.entries a k ≡ false → value_at (cells_there l.tables.entries a) k ≡ value_at (cells_there l.initial.tables.entries a) k)
    × ((a : RowAt) (k : CellKey) → all_placed l.at-iterator l.tables.entries a k ≡ all_placed l.initial.at-iterator l.initial.tables.entries a k)
