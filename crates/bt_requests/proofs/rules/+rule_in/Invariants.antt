use Rattle.std.proofs.Common.{◌≡◌, ◌+◌, ◌*◌, ◌++◌, drop}
use Rattle.bt_json.specs.View.{items_view}
use Rattle.bt_requests.specs.Rules.{parts_in, rule_in}
use Rattle.bt_requests.proofs.rules.+rule_in.Given as goal

abbrev pub decreases-rule_in : goal.decreases-rule_in
decreases-rule_in l = 3 * l.levels

abbrev pub decreases-kind_in : goal.decreases-kind_in
decreases-kind_in l = 3 * l.below + 2

abbrev pub decreases-rules_in : goal.decreases-rules_in
decreases-rules_in l = 3 * l.levels + 1

-- those so far, and those that are left
abbrev pub invariant-rules_in-loop-item : goal.invariant-rules_in-loop-item
invariant-rules_in-loop-item l = l.rules ++ parts_in (rule_in l.levels) (items_view (drop l.item-index l.item-items)) ≡ parts_in (rule_in l.levels) (items_view l.item-items)
