use Rattle.std.proofs.Common.{◌≡◌, take, drop}
use Rattle.std.specs.List.{AllByRecursion}
use Rattle.bt_mutation.specs.Checks.{first_refusal, IsResolvable}
use Rattle.bt_mutation.proofs.checks.check_each.Given as goal

-- no mutation so far is refused
abbrev pub invariant-loop-index : goal.invariant-loop-index
invariant-loop-index l =
    (first_refusal l.families 0 l.list ≡ first_refusal l.families l.index (drop l.index l.list))
    × AllByRecursion IsResolvable (take l.index l.list)
