use Rattle.std.proofs.Common.{◌≡◌, ◌+◌, ◌*◌, ◌-◌, length, map, take}
use Rattle.std.specs.List.{flat_map, sum}
use Rattle.bt_rules.specs.Rules.{count_of}
use Rattle.bt_entry.specs.Spelling.{rule}
use Rattle.bt_entry.proofs.fitting.+behind_rule.Given as goal

abbrev pub decreases-behind_rule : goal.decreases-behind_rule
decreases-behind_rule l = 2 * count_of l.r.now

abbrev pub decreases-behind_rules : goal.decreases-behind_rules
decreases-behind_rules l = 2 * sum (map count_of l.rules.now) + 1

abbrev pub invariant-behind_rules-loop-rule : goal.invariant-behind_rules-loop-rule
invariant-behind_rules-loop-rule l = l.left ≡ l.initial.left - length (flat_map rule (take l.rule-index l.rules))
