use Rattle.std.proofs.Common.{◌≡◌}
use Rattle.std.specs.List.Sorted.{IsStrictlySortedBy}
use Rattle.std.specs.Map.{keys_of}
use Rattle.bt_row.specs.declared.cell_key.CellKey.{CellKey}
use Rattle.bt_all_contents.specs.AllContents.{AreAllLawful, AreTables, CanSettleAll, RowAt, all_settled, at_cmp}
use Rattle.bt_all_contents.proofs.changes.settle_all.Given as goal

-- the plans that are left lead where all lead
abbrev pub invariant-loop-at : goal.invariant-loop-at
invariant-loop-at l = (goal.iterator-loop-at).can_next l.at-iterator
    × IsStrictlySortedBy at_cmp (keys_of l.at-iterator)
    × AreTables l.tables.entries
    × AreAllLawful l.at-iterator
    × CanSettleAll l.ending l.at-iterator l.tables.entries
    × ((a : RowAt) (k : CellKey) → all_settled l.ending l.at-iterator l.tables.entries a k ≡ all_settled l.ending l.initial.at-iterator l.initial.tables.entries a k)
