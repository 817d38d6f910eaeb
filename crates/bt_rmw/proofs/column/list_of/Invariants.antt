use Rattle.std.proofs.Common.{◌≡◌, ◌++◌}
use Rattle.bt_rmw.proofs.column.list_of.Given as goal

-- the columns that are left are still to come
abbrev pub invariant-loop-column : goal.invariant-loop-column
invariant-loop-column l = (goal.iterator-loop-column).can_next l.column-iterator
    × l.list ++ l.column-iterator ≡ l.initial.column-iterator
