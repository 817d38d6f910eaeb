use Rattle.std.proofs.Common.{◌≡◌, take}
use Rattle.bt_rules.proofs.rule.+rule_copy.Given as goal

abbrev pub invariant-list_copy-loop-rule : goal.invariant-list_copy-loop-rule
invariant-list_copy-loop-rule l = l.copy ≡ take l.rule-index l.rules
