use Rattle.std.proofs.Common.{◌∙◌, subst, sym}
use Rattle.std.proofs.lemmas.Map.Keys.{sorted_tail}
use Rattle.bt_row.specs.declared.plan.Plan.{Plan}
use Rattle.bt_all_contents.specs.AllContents.{RowAt, at_cmp, cells_there}
use Rattle.bt_row.specs.Plans.{AreLawful, CanSettle}
use Rattle.bt_all_contents.proofs.AllRows.{holds_first, holds_later, settled_one}
use Rattle.bt_all_contents.proofs.changes.settle_all.Goals as goal

pub settle_there-requires-clause-tables : goal.settle_there-requires-clause-tables
settle_there-requires-clause-tables c = c.loop-at.invariant.2

pub settle_there-requires-clause-lawful : goal.settle_there-requires-clause-lawful
settle_there-requires-clause-lawful c =
    let step = c.in-Some.ensures.steps in
    holds_first {X = Plan} (c.in-Some.at, c.in-Some.plan) c.next.new.self (rw step at c.loop-at.invariant.1) (λ a p. AreLawful p.outcomes.entries) (rw step at c.loop-at.invariant.3)

pub settle_there-requires-clause-can : goal.settle_there-requires-clause-can
settle_there-requires-clause-can c =
    let step = c.in-Some.ensures.steps in
    holds_first {X = Plan} (c.in-Some.at, c.in-Some.plan) c.next.new.self (rw step at c.loop-at.invariant.1) (λ a p. CanSettle c.args.ending p (cells_there c.loop-at.tables.entries a)) (rw step at c.loop-at.invariant.4)

-- the plan at hand has ended
pub loop-at-preserved : goal.loop-at-preserved
loop-at-preserved c =
    let step = c.in-Some.ensures.steps in
    let e : RowAt × Plan = (c.in-Some.at, c.in-Some.plan) in
    let rest = c.next.new.self in
    let sorted = rw step at c.loop-at.invariant.1 in
    let old = c.loop-at.tables.entries in
    let new = c.settle_there.new.tables.entries in
    let ending = c.args.ending in (
      tt,
      sorted_tail at_cmp _ _ sorted,
      c.settle_there.ensures.tables,
      holds_later {X = Plan} e rest sorted (λ a p. AreLawful p.outcomes.entries) (λ a p. AreLawful p.outcomes.entries) (λ a p other lawful. lawful) (rw step at c.loop-at.invariant.3),
      holds_later {X = Plan} e rest sorted (λ a p. CanSettle ending p (cells_there old a)) (λ a p. CanSettle ending p (cells_there new a)) (λ a p other can. subst (CanSettle ending p) (sym (c.settle_there.ensures.elsewhere a other)) can) (rw step at c.loop-at.invariant.4),
      λ a k. settled_one e rest sorted old new c.settle_there.ensures.elsewhere ending c.settle_there.ensures.values a k ∙ (rw step at c.loop-at.invariant.5) a k,
    )
