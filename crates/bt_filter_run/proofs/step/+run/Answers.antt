use Rattle.std.proofs.Common.{◌≡◌, ◌<◌, ◌∙◌, length, map, ap, sym, subst, arith, rules, true, false}
use Rattle.std.proofs.lemmas.Bool.Decides.{nat_tests}
use Rattle.bt_types.specs.Cells.{AreInOrder}
use Rattle.std.specs.Vec.{with_items}
use Rattle.bt_filter_run.specs.Steps.{filter_of}
use Rattle.bt_filter_run.proofs.Weights.{total_weight, front_lighter, back_lighter}
use Rattle.bt_filter_run.proofs.Runs.{leaf_gave, chain_gave, interleave_gave, matched_gave, unmatched_gave, items_kept, chain_same, interleave_same, chain_one, chain_ordered, chain_joined, interleave_one, interleave_ordered, interleave_joined}
use Rattle.bt_filter_run.proofs.step.+run.Goals as goal

pub run-returns-in-Leaf-clause-given : goal.run-returns-in-Leaf-clause-given
run-returns-in-Leaf-clause-given t c = leaf_gave c.args.step.now c.in-Leaf.leaf _ c.args.key.now c.args.cells c.run.result c.in-Leaf.is c.in-Leaf.leaf-is c.run.ensures.given

pub run-returns-in-Chain-clause-given : goal.run-returns-in-Chain-clause-given
run-returns-in-Chain-clause-given t c =
    chain_gave c.args.step.now c.in-Chain.steps c.as_mut_slice.result.now c.args.key.now c.args.cells c.run_chain.result c.in-Chain.is (c.as_mut_slice.ensures.value ∙ ap (λ v. v.items) c.in-Chain.steps-is) c.run_chain.ensures.given

pub run-returns-in-Chain-clause-same : goal.run-returns-in-Chain-clause-same
run-returns-in-Chain-clause-same t c =
    let kept : map filter_of (with_items c.in-Chain.steps c.run_chain.new.steps).items ≡ map filter_of c.in-Chain.steps.items =
    items_kept c.in-Chain.steps c.as_mut_slice.result.now c.run_chain.new.steps (c.as_mut_slice.ensures.value ∙ ap (λ v. v.items) c.in-Chain.steps-is) c.run_chain.ensures.same in
    search (rules, chain_same, kept)

pub run-returns-in-Interleave-clause-given : goal.run-returns-in-Interleave-clause-given
run-returns-in-Interleave-clause-given t c =
    interleave_gave c.args.step.now c.in-Interleave.steps c.as_mut_slice-in-Interleave.result.now c.args.key.now c.args.cells c.run_interleave.result c.in-Interleave.is (c.as_mut_slice-in-Interleave.ensures.value ∙ ap (λ v. v.items) c.in-Interleave.steps-is) c.run_interleave.ensures.given

pub run-returns-in-Interleave-clause-same : goal.run-returns-in-Interleave-clause-same
run-returns-in-Interleave-clause-same t c =
    let kept : map filter_of (with_items c.in-Interleave.steps c.run_interleave.new.steps).items ≡ map filter_of c.in-Interleave.steps.items =
    items_kept c.in-Interleave.steps c.as_mut_slice-in-Interleave.result.now c.run_interleave.new.steps (c.as_mut_slice-in-Interleave.ensures.value ∙ ap (λ v. v.items) c.in-Interleave.steps-is) c.run_interleave.ensures.same in
    search (rules, interleave_same)

pub run-returns-then-branch-clause-given : goal.run-returns-then-branch-clause-given
run-returns-then-branch-clause-given t c =
    matched_gave c.args.step.now c.in-Condition.predicate c.in-Condition.matched c.in-Condition.unmatched _ _ c.args.key.now c.args.cells c.run_branch.result c.in-Condition.is c.in-Condition.predicate-is c.in-Condition.matched-is
    (sym c.in_ok-gives_some-in-Condition.ensures.answer ∙ c.if-branch.true) c.run_branch.ensures.given

pub run-returns-else-branch-clause-given : goal.run-returns-else-branch-clause-given
run-returns-else-branch-clause-given t c =
    unmatched_gave c.args.step.now c.in-Condition.predicate c.in-Condition.matched c.in-Condition.unmatched _ _ c.args.key.now c.args.cells c.run_branch-else-branch.result c.in-Condition.is c.in-Condition.predicate-is c.in-Condition.unmatched-is
    (sym c.in_ok-gives_some-in-Condition.ensures.answer ∙ c.if-branch.false) c.run_branch-else-branch.ensures.given

pub run_chain-returns-then-steps-eq1-clause-given : goal.run_chain-returns-then-steps-eq1-clause-given
run_chain-returns-then-steps-eq1-clause-given t c =
    chain_one c.args.steps.now c.index-steps-0.result c.args.key.now c.args.cells c.run.result c.if-steps-eq1.true c.requires c.run.ensures.given

pub run_chain-run_chain-requires : goal.run_chain-run_chain-requires
run_chain-run_chain-requires t c =
    let many : 1 < length c.args.steps.now = grind (arith, nat_tests) in
    let lighter : total_weight c.split_at_mut-front.result.0.now < total_weight c.args.steps.now =
    front_lighter c.args.steps.now c.split_at_mut-front.result.0.now c.split_at_mut-front.result.1.now c.split_at_mut-front.ensures.value (omega (arith, many, c.split_at_mut-front.ensures.front_len, c.split_at_mut-front.ensures.back_len)) in
    (omega (arith, lighter, c.decreases), c.requires)

pub run_chain-run_chain-requires-2 : goal.run_chain-run_chain-requires-2
run_chain-run_chain-requires-2 t c =
    let many : 1 < length c.args.steps.now = grind (arith, nat_tests) in
    let lighter : total_weight c.split_at_mut-front.result.1.now < total_weight c.args.steps.now =
    back_lighter c.args.steps.now c.split_at_mut-front.result.0.now c.split_at_mut-front.result.1.now c.split_at_mut-front.ensures.value (omega (arith, many, c.split_at_mut-front.ensures.front_len, c.split_at_mut-front.ensures.back_len)) in
    (omega (arith, lighter, c.decreases), (chain_ordered c.split_at_mut-front.result.0.now c.args.key.now c.args.cells c.in_ok-before.before c.requires c.in_ok-before.ensures.given).0)

pub run_chain-merged-requires-clause-first : goal.run_chain-merged-requires-clause-first
run_chain-merged-requires-clause-first t c = (chain_ordered c.split_at_mut-front.result.0.now c.args.key.now c.args.cells c.in_ok-before.before c.requires c.in_ok-before.ensures.given).1

pub run_chain-merged-requires-clause-second : goal.run_chain-merged-requires-clause-second
run_chain-merged-requires-clause-second t c =
    let before = chain_ordered c.split_at_mut-front.result.0.now c.args.key.now c.args.cells c.in_ok-before.before c.requires c.in_ok-before.ensures.given in
    (chain_ordered c.split_at_mut-front.result.1.now c.args.key.now c.in_ok-before.before.out c.in_ok-after.after before.0 c.in_ok-after.ensures.given).1

pub run_chain-returns-clause-given : goal.run_chain-returns-clause-given
run_chain-returns-clause-given t c =
    chain_joined c.args.steps.now c.split_at_mut-front.result.0.now c.split_at_mut-front.result.1.now c.args.key.now c.args.cells c.in_ok-before.before c.in_ok-after.after c.in_ok-merged.field-0
    c.split_at_mut-front.ensures.value c.requires c.in_ok-before.ensures.given c.in_ok-after.ensures.given c.in_ok-merged.ensures

pub run_interleave-returns-then-steps-eq1-clause-given : goal.run_interleave-returns-then-steps-eq1-clause-given
run_interleave-returns-then-steps-eq1-clause-given t c =
    interleave_one c.args.steps.now c.index-steps-0.result c.args.key.now c.args.cells c.run.result c.if-steps-eq1.true c.requires c.run.ensures.given

pub run_interleave-run_interleave-requires : goal.run_interleave-run_interleave-requires
run_interleave-run_interleave-requires t c =
    let many : 1 < length c.args.steps.now = grind (arith, nat_tests) in
    let lighter : total_weight c.split_at_mut-front.result.0.now < total_weight c.args.steps.now =
    front_lighter c.args.steps.now c.split_at_mut-front.result.0.now c.split_at_mut-front.result.1.now c.split_at_mut-front.ensures.value (omega (arith, many, c.split_at_mut-front.ensures.front_len, c.split_at_mut-front.ensures.back_len)) in
    (omega (arith, lighter, c.decreases), subst AreInOrder (sym c.in_ok-copy.ensures) c.requires)

pub run_interleave-run_interleave-requires-2 : goal.run_interleave-run_interleave-requires-2
run_interleave-run_interleave-requires-2 t c =
    let many : 1 < length c.args.steps.now = grind (arith, nat_tests) in
    let lighter : total_weight c.split_at_mut-front.result.1.now < total_weight c.args.steps.now =
    back_lighter c.args.steps.now c.split_at_mut-front.result.0.now c.split_at_mut-front.result.1.now c.split_at_mut-front.ensures.value (omega (arith, many, c.split_at_mut-front.ensures.front_len, c.split_at_mut-front.ensures.back_len)) in
    (omega (arith, lighter, c.decreases), c.requires)

pub run_interleave-merged-requires-clause-first : goal.run_interleave-merged-requires-clause-first
run_interleave-merged-requires-clause-first t c = (interleave_ordered c.split_at_mut-front.result.0.now c.args.key.now c.in_ok-copy.copy c.in_ok-one.one (subst AreInOrder (sym c.in_ok-copy.ensures) c.requires) c.in_ok-one.ensures.given).0

pub run_interleave-merged-requires-clause-second : goal.run_interleave-merged-requires-clause-second
run_interleave-merged-requires-clause-second t c = (interleave_ordered c.split_at_mut-front.result.1.now c.args.key.now c.args.cells c.in_ok-other.other c.requires c.in_ok-other.ensures.given).0

pub run_interleave-merged-requires-2-clause-first : goal.run_interleave-merged-requires-2-clause-first
run_interleave-merged-requires-2-clause-first t c = (interleave_ordered c.split_at_mut-front.result.0.now c.args.key.now c.in_ok-copy.copy c.in_ok-one.one (subst AreInOrder (sym c.in_ok-copy.ensures) c.requires) c.in_ok-one.ensures.given).1

pub run_interleave-merged-requires-2-clause-second : goal.run_interleave-merged-requires-2-clause-second
run_interleave-merged-requires-2-clause-second t c = (interleave_ordered c.split_at_mut-front.result.1.now c.args.key.now c.args.cells c.in_ok-other.other c.requires c.in_ok-other.ensures.given).1

pub run_interleave-returns-clause-given : goal.run_interleave-returns-clause-given
run_interleave-returns-clause-given t c =
    interleave_joined c.args.steps.now c.split_at_mut-front.result.0.now c.split_at_mut-front.result.1.now c.args.key.now c.args.cells c.in_ok-copy.copy c.in_ok-one.one c.in_ok-other.other c.in_ok-merged.field-0 c.in_ok-merged-2.field-0
    c.split_at_mut-front.ensures.value c.requires c.in_ok-copy.ensures c.in_ok-one.ensures.given c.in_ok-other.ensures.given c.in_ok-merged.ensures c.in_ok-merged-2.ensures
