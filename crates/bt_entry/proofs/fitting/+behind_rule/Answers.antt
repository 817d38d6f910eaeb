use Rattle.std.proofs.Common.{◌≤◌, map, get_or, arith}
use Rattle.std.specs.List.{sum}
use Rattle.bt_rules.specs.Rules.{count_of}
use Rattle.bt_entry.proofs.RuleTrees.{part_within, intersection_branch, union_branch}
use Rattle.bt_entry.proofs.fitting.+behind_rule.Goals as goal

pub behind_rule-returns-in-Intersection : goal.behind_rule-returns-in-Intersection
behind_rule-returns-in-Intersection t c =
    rw (c.in-Intersection.is, (intersection_branch c.in-Intersection.rules).spelled, c.behind_rules.ensures, c.saturating_sub-in-Intersection.ensures, c.as_slice.ensures) (omega arith)

pub behind_rule-returns-in-Union : goal.behind_rule-returns-in-Union
behind_rule-returns-in-Union t c =
    rw (c.in-Union.is, (union_branch c.in-Union.rules).spelled, c.behind_rules-in-Union.ensures, c.saturating_sub-in-Union.ensures, c.as_slice-in-Union.ensures) (omega arith)

pub behind_rules-behind_rule-left-requires : goal.behind_rules-behind_rule-left-requires
behind_rules-behind_rule-left-requires t c =
    let within : count_of (get_or c.args.rules.now c.loop-rule.rule-index c.rule-item.result) ≤ sum (map count_of c.args.rules.now) = part_within c.args.rules.now c.loop-rule.rule-index c.rule-item.result c.loop-rule-test.true in
    let item : count_of c.rule-item.result ≤ sum (map count_of c.args.rules.now) = rw c.rule-item.is within in
    (omega (arith, item, c.decreases), tt)
