use Rattle.std.proofs.Common.{◌≡◌, ◌++◌, drop, map}
use Rattle.serde_json.specs.View.{view}
use Rattle.bt_messages.specs.Responses.{shown_rule}
use Rattle.bt_messages.proofs.rule_value.+rule_value.Given as goal

-- the values so far, and those of the rules that are left
abbrev pub invariant-rules_value-loop-rule : goal.invariant-rules_value-loop-rule
invariant-rules_value-loop-rule l = map view l.items.items ++ map shown_rule (drop l.rule-index l.rules) ≡ map shown_rule l.rules
