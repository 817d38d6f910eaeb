use Rattle.std.proofs.Common.{◌∙◌}
use Rattle.std.proofs.lemmas.Map.Keys.{sorted_tail}
use Rattle.bt_row.specs.Keys.{key_cmp}
use Rattle.bt_row.specs.Plans.{value_at}
use Rattle.bt_row.proofs.Plans.{taken_new, taken_old}
use Rattle.bt_row.proofs.plan.Plan.take_back.Goals as goal

pub loop-key-preserved-then-outcome : goal.loop-key-preserved-then-outcome
loop-key-preserved-then-outcome c =
    let step = c.in-Some.ensures.steps in
    let sorted = rw step at c.loop-key.invariant.1 in (
      tt,
      sorted_tail key_cmp _ _ sorted,
      c.settle.ensures.sorted,
      λ k. taken_new (c.in-Some.key.now, c.in-Some.outcome.now) c.next.new.self sorted (value_at c.loop-key.cells.entries) (value_at c.settle.new.cells.entries) c.if-outcome.true c.settle.ensures.value k ∙ (rw step at c.loop-key.invariant.3) k,
    )

pub loop-key-preserved : goal.loop-key-preserved
loop-key-preserved c =
    let step = c.in-Some.ensures.steps in
    let sorted = rw step at c.loop-key.invariant.1 in (
      tt,
      sorted_tail key_cmp _ _ sorted,
      c.loop-key.invariant.2,
      λ k. taken_old (c.in-Some.key.now, c.in-Some.outcome.now) c.next.new.self sorted (value_at c.loop-key.cells.entries) (value_at c.loop-key.cells.entries) c.if-outcome.false k ∙ (rw step at c.loop-key.invariant.3) k,
    )
