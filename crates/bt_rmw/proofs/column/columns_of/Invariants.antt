use Rattle.std.proofs.Common.{◌≤◌, length, take}
use Rattle.std.specs.Prelude.{All, IsTrue}
use Rattle.std.specs.List.Sorted.{IsStrictlySortedBy}
use Rattle.bt_rmw.specs.Columns.{column_order, has_column}
use Rattle.bt_rmw.specs.Rules.{column_of}
use Rattle.bt_rmw.proofs.column.columns_of.Given as goal

-- the columns of the rules so far are there
abbrev pub invariant-loop-rule : goal.invariant-loop-rule
invariant-loop-rule l = All (λ rule. IsTrue (has_column l.columns.keys (column_of rule))) (take l.rule-index l.rules)
    × IsStrictlySortedBy column_order l.columns.keys
    × (length l.columns.keys ≤ l.rule-index)
    × (l.rule-index ≤ length l.rules)
