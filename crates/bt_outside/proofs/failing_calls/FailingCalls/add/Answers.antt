use Rattle.std.proofs.lemmas.List.Sorted.{IsNonDecreasingBy-from_sort}
use Rattle.bt_outside.proofs.failing_calls.FailingCalls.add.Goals as goal

pub invariant_of-self-2 : goal.invariant_of-self-2
invariant_of-self-2 c = IsNonDecreasingBy-from_sort (λ x. x) _ c.sort_unstable.ensures.sorted
