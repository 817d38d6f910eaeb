use Rattle.std.proofs.Common.{◌≡◌, ◌++◌, map}
use Rattle.std.specs.List.{AllByRecursion}
use Rattle.bt_entry.specs.Grammar.{IsSpellableMutation}
use Rattle.bt_rmw.specs.Held.{AreShort, cells_of}
use Rattle.bt_rmw.specs.Modified.{set_of}
use Rattle.bt_rmw.proofs.outcome.written.Given as goal

-- the cells of the columns that are left are still to come
abbrev pub invariant-loop-column : goal.invariant-loop-column
invariant-loop-column l = (goal.iterator-loop-column).can_next l.column-iterator
    × (l.cells ++ cells_of l.column-iterator ≡ cells_of l.initial.column-iterator)
    × (l.mutations ≡ map set_of l.cells)
    × AllByRecursion IsSpellableMutation l.mutations
    × AreShort l.column-iterator
