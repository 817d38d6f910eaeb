use Rattle.std.proofs.Common.{◌≡◌, ◌+◌, drop}
use Rattle.bt_plans.specs.RowEntries.{most_mutations}
use Rattle.bt_row_replies.specs.MutateRows.{mutation_count}
use Rattle.bt_row_replies.proofs.mutate_rows.have_too_many.Given as goal

-- as many may come as there is room for beside those so far
abbrev pub invariant-loop-entry : goal.invariant-loop-entry
invariant-loop-entry l = most_mutations + mutation_count (drop l.entry-index l.entries) ≡ l.left + mutation_count l.entries
