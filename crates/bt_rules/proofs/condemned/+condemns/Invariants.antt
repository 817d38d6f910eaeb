use Rattle.std.proofs.Common.{◌≡◌, drop, map}
use Rattle.bt_rules.specs.Rules as spec
use Rattle.bt_rules.proofs.condemned.+condemns.Given as goal

abbrev pub invariant-all_condemn-loop-rule : goal.invariant-all_condemn-loop-rule
invariant-all_condemn-loop-rule l = spec.all_of (map (spec.condemns l.place l.at l.moment) (drop l.rule-index l.rules)) ≡ spec.all_of (map (spec.condemns l.place l.at l.moment) l.rules)

abbrev pub invariant-any_condemns-loop-rule : goal.invariant-any_condemns-loop-rule
invariant-any_condemns-loop-rule l = spec.any_of (map (spec.condemns l.place l.at l.moment) (drop l.rule-index l.rules)) ≡ spec.any_of (map (spec.condemns l.place l.at l.moment) l.rules)
