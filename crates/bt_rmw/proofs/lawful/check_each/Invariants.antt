use Rattle.std.proofs.Common.{◌≡◌, take, drop}
use Rattle.std.specs.List.{AllByRecursion}
use Rattle.bt_rmw.specs.Rules.{IsLawfulRule, first_refusal}
use Rattle.bt_rmw.proofs.lawful.check_each.Given as goal

-- no rule so far is refused
abbrev pub invariant-loop-index : goal.invariant-loop-index
invariant-loop-index l =
    (first_refusal l.families 0 l.rules ≡ first_refusal l.families l.index (drop l.index l.rules))
    × AllByRecursion (IsLawfulRule l.families) (take l.index l.rules)
