use Rattle.std.proofs.Common.{ℕ, ◌≤◌, [], ◌∷◌, ◌++◌, length, map, get_or, refl, ap, append_assoc, arith}
use Rattle.std.specs.List.{sum}
use Rattle.bt_rules.specs.Rules.{count_of}
use Rattle.bt_entry.proofs.RuleTrees.{length_within, part_within, intersection_branch, union_branch}
use Rattle.bt_entry.proofs.writing_families.+put_rule.Goals as goal

pub put_rules-overflow_cast-rules : goal.put_rules-overflow_cast-rules
put_rules-overflow_cast-rules t c = omega (arith, length_within c.args.rules.now, c.requires)

pub put_rules-loop-rule-init : goal.put_rules-loop-rule-init
put_rules-loop-rule-init t c =
    let small : length c.args.rules.now ≤ 31 = omega (arith, length_within c.args.rules.now, c.requires) in
    record { spelled = rw c.in_ok-push.ensures.items (ap (λ (n : ℕ). c.args.out.now.items ++ (n ∷ [])) (omega arith)); fits = refl }

pub put_rules-put_rule-requires : goal.put_rules-put_rule-requires
put_rules-put_rule-requires t c =
    let within : count_of (get_or c.args.rules.now c.loop-rule.rule-index c.rule-item.result) ≤ sum (map count_of c.args.rules.now) = part_within c.args.rules.now c.loop-rule.rule-index c.rule-item.result c.loop-rule-test.true in
    let item : count_of c.rule-item.result ≤ sum (map count_of c.args.rules.now) = rw c.rule-item.is within in
    (omega (arith, item, c.decreases), omega (arith, item, c.requires))

pub put_rule-returns-in_ok-put_rules-in-Intersection-clause-spelled : goal.put_rule-returns-in_ok-put_rules-in-Intersection-clause-spelled
put_rule-returns-in_ok-put_rules-in-Intersection-clause-spelled t c =
    rw (c.in-Intersection.is, (intersection_branch c.in-Intersection.rules).spelled, c.in_ok-put_rules-in-Intersection.ensures.spelled, c.in_ok-push-in-Intersection.ensures.items, c.as_slice.ensures)
    (simp append_assoc)

pub put_rule-returns-in_ok-put_rules-in-Union-clause-spelled : goal.put_rule-returns-in_ok-put_rules-in-Union-clause-spelled
put_rule-returns-in_ok-put_rules-in-Union-clause-spelled t c =
    rw (c.in-Union.is, (union_branch c.in-Union.rules).spelled, c.in_ok-put_rules-in-Union.ensures.spelled, c.in_ok-push-in-Union.ensures.items, c.as_slice-in-Union.ensures)
    (simp append_assoc)
