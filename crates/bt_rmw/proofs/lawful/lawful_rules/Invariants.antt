use Rattle.std.proofs.Common.{◌≡◌, ◌+◌, ◌++◌, length, true}
use Rattle.std.specs.List.{AllByRecursion}
use Rattle.std.specs.Vec.Iter.{into_iter_items}
use Rattle.bt_mutation.specs.Checks.{has_family}
use Rattle.bt_rmw.specs.Rules.{IsLawfulRule, rules_of}
use Rattle.bt_rmw.proofs.lawful.lawful_rules.Given as goal

-- some rules are there, and the rest can be
abbrev pub invariant-loop-rule : goal.invariant-loop-rule
invariant-loop-rule l = (goal.iterator-loop-rule).can_next l.rule-iterator
    × (goal.iterator-loop-rule).is_finite l.rule-iterator
    × (l.lawful ++ rules_of (into_iter_items l.rule-iterator) ≡ rules_of l.fn.rules)
    × (length l.lawful + length (into_iter_items l.rule-iterator) ≡ length l.fn.rules)
    × AllByRecursion (λ rule. has_family l.families rule.family ≡ true) l.lawful
    × AllByRecursion (IsLawfulRule l.families) (into_iter_items l.rule-iterator)
