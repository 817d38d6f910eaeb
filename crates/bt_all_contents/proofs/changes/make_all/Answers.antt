use Rattle.std.proofs.Common.{◌≡◌, ◌<◌, ◌∙◌, Some, length, refl, subst, sym}
use Rattle.std.proofs.lemmas.Map.Keys.{sorted_tail}
use Rattle.bt_row.specs.declared.plan.Plan.{Plan}
use Rattle.bt_all_contents.specs.AllContents.{RowAt, at_cmp, cells_there, plan_at}
use Rattle.bt_row.specs.Keys.{Keyed}
use Rattle.bt_row.specs.Plans.{IsPlan}
use Rattle.bt_all_contents.proofs.AllRows.{agree_first, holds_first, holds_later, placed_one, unwanted_kept}
use Rattle.bt_all_contents.proofs.changes.make_all.Goals as goal

pub loop-at-init : goal.loop-at-init
loop-at-init c =
    let e = c.into_iter-at-iterator.ensures.into_iter_gives in
    rw e.0 (tt, e.5, c.requires.tables, agree_first c.args.plans.now.entries, c.requires.plans, λ a k unwanted. refl, λ a k. refl)

pub make_there-requires-clause-tables : goal.make_there-requires-clause-tables
make_there-requires-clause-tables c = c.loop-at.invariant.2

pub make_there-requires-clause-there : goal.make_there-requires-clause-there
make_there-requires-clause-there c =
    let step = c.in-Some.ensures.steps in
    (holds_first {X = Plan} (c.in-Some.at.now, c.in-Some.plan.now) c.next.new.self (rw step at c.loop-at.invariant.1) (λ a p. IsPlan p (cells_there c.loop-at.tables.entries a) × (0 < length (cells_there c.loop-at.tables.entries a))) (rw step at c.loop-at.invariant.4)).1

pub make_there-requires-clause-plan : goal.make_there-requires-clause-plan
make_there-requires-clause-plan c =
    let step = c.in-Some.ensures.steps in
    (holds_first {X = Plan} (c.in-Some.at.now, c.in-Some.plan.now) c.next.new.self (rw step at c.loop-at.invariant.1) (λ a p. IsPlan p (cells_there c.loop-at.tables.entries a) × (0 < length (cells_there c.loop-at.tables.entries a))) (rw step at c.loop-at.invariant.4)).0

-- the plan at hand has its places
pub loop-at-preserved : goal.loop-at-preserved
loop-at-preserved c =
    let step = c.in-Some.ensures.steps in
    let e : RowAt × Plan = (c.in-Some.at.now, c.in-Some.plan.now) in
    let rest = c.next.new.self in
    let sorted = rw step at c.loop-at.invariant.1 in
    let old = c.loop-at.tables.entries in
    let new = c.make_there.new.tables.entries in
    let apart = c.in_ok-make_there.ensures.elsewhere in
    let values = c.in_ok-make_there.ensures.values in
    let all = c.args.plans.now.entries in
    let agrees = holds_first {X = Plan} e rest sorted (λ a p. plan_at all a ≡ Some p) (rw step at c.loop-at.invariant.3) in (
      tt,
      sorted_tail at_cmp _ _ sorted,
      c.make_there.ensures.tables,
      holds_later {X = Plan} e rest sorted (λ a p. plan_at all a ≡ Some p) (λ a p. plan_at all a ≡ Some p) (λ a p other agrees. agrees) (rw step at c.loop-at.invariant.3),
      holds_later {X = Plan} e rest sorted (λ a p. IsPlan p (cells_there old a) × (0 < length (cells_there old a))) (λ a p. IsPlan p (cells_there new a) × (0 < length (cells_there new a))) (λ a p other is. subst (λ (es : Keyed). IsPlan p es × (0 < length es)) (sym (apart a other)) is) (rw step at c.loop-at.invariant.4),
      unwanted_kept e rest sorted old new apart all c.args.tables.now.entries agrees values c.loop-at.invariant.5,
      λ a k. placed_one e rest sorted old new apart values a k ∙ (rw step at c.loop-at.invariant.6) a k,
    )
