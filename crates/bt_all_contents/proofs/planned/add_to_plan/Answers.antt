use Rattle.std.proofs.Common.{◌≡◌, ◌∙◌, List, Some, cond, ap, sym, rules}
use Rattle.std.specs.Map.{set_value}
use Rattle.std.specs.BTreeMap.{is_at}
use Rattle.std.specs.Option.{option_copied_mut}
use Rattle.std.proofs.lemmas.Result.{on_ok_weaker}
use Rattle.bt_row.specs.declared.plan.Plan.{Plan}
use Rattle.bt_all_contents.specs.AllContents.{RowAt, at_cmp, plan_at}
use Rattle.bt_all_contents.proofs.AllRows.{put_apart, written_over}
use Rattle.bt_all_contents.proofs.planned.add_to_plan.Goals as goal

-- the others stay
pub returns-in-Some-clause-others : goal.returns-in-Some-clause-others
returns-in-Some-clause-others c =
    let olds = c.args.plans.now.entries in
    let at : RowAt = c.args.at in
    let new = c.add_all.new.self in
    let found : plan_at olds at ≡ Some c.in-Some.plan.now = sym c.get_mut.ensures.value ∙ ap option_copied_mut c.in-Some.is in
    let written : (c.get_mut.follows.lender new).entries ≡ set_value (is_at (at_cmp at)) olds new = search rules in
    on_ok_weaker c.add_all.result (λ _. λ (a : RowAt) other. rw written (put_apart {X = Plan} at new olds (set_value (is_at (at_cmp at)) olds new) (written_over at new olds c.in-Some.plan.now found) a other)) c.add_all.ensures.ok

pub returns-in_ok-insert-in-None-clause-others : goal.returns-in_ok-insert-in-None-clause-others
returns-in_ok-insert-in-None-clause-others c =
    let olds = c.args.plans.now.entries in
    let at : RowAt = c.args.at in
    let new = c.add_all-in-None.new.self in
    let unchanged : (c.get_mut.follows.lender-at-none).entries ≡ olds = search rules in
    let put : (a : RowAt) → plan_at c.insert.new.self.entries a ≡ cond (is_at (at_cmp at) a) (Some new) (plan_at olds a) = λ a. c.in_ok-insert-in-None.ensures.updates.0 a ∙ ap (λ (ps : List (RowAt × Plan)). cond (is_at (at_cmp at) a) (Some new) (plan_at ps a)) unchanged in
    put_apart {X = Plan} at new olds c.insert.new.self.entries put
