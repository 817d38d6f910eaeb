use Rattle.std.proofs.Common.{◌≡◌, drop}
use Rattle.bt_rules.specs.Rules as spec
use Rattle.bt_rules.proofs.limits.+nodes_left.Given as goal

abbrev pub invariant-nodes_left_by_all-loop-rule : goal.invariant-nodes_left_by_all-loop-rule
invariant-nodes_left_by_all-loop-rule l = spec.nodes_left_by_all (drop l.rule-index l.rules) l.levels l.left ≡ spec.nodes_left_by_all l.rules l.levels l.nodes
