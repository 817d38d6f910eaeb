use Rattle.std.proofs.Common.{ℕ, false, List, rules, sym, subst}
use Rattle.bt_messages.specs.declared.refusal.Refusal.TheVariants.{OutOfMemory}
use Rattle.bt_plans.specs.declared.answer.Answer.TheVariants.{Refused}
use Rattle.bt_replies.proofs.Replying.{some_reply}
use Rattle.bt_replies.specs.Lines.{IsReplyTo}
use Rattle.bt_plans.specs.Plans.{IsPlanOf}
use Rattle.bt_service.specs.Outcomes.{SaysSo, has_ended}
use Rattle.bt_service.specs.Steps.{Made, MadeBy}
use Rattle.bt_service.specs.declared.outcome.Outcome.{Outcome}
use Rattle.bt_service.proofs.Makes.{made_without_memory, so_said}
use Rattle.bt_service.proofs.carrying.made.Goals as goal

pub carried_out-requires-clause-plan : goal.carried_out-requires-clause-plan
carried_out-requires-clause-plan g c =
    let p = c.args.store.now.present in
    let of : IsPlanOf c.in-Ok.plan p (IsReplyTo p c.args.moment c.args.line.now) = search rules in
    (of.0, of.2)

pub returns-in-Ok-clause-made : goal.returns-in-Ok-clause-made
returns-in-Ok-clause-made g c tells s stands =
    let p = c.args.store.now.present in
    let of : IsPlanOf c.in-Ok.plan p (IsReplyTo p c.args.moment c.args.line.now) = search rules in
    record { reply = of.0; is_reply = of.1; makes = c.carried_out.ensures.made tells s stands of.0 of.2 }

pub returns-in-Err-clause-made : goal.returns-in-Err-clause-made
returns-in-Err-clause-made g c tells s stands =
    let disk = g.D.Disk in
    let limits = c.args.store.now.limits in
    let now = c.args.disk.now in
    let store = c.args.store.now in
    let some = some_reply store.present c.args.moment c.args.line.now in
    record {
      reply = some.0;
      is_reply = some.1;
      makes = subst (λ (o : Outcome). (out : List ℕ) → SaysSo store.present o out → Made disk limits s some.0 now now store out (has_ended o)) (sym c.said.ensures)
          (so_said disk limits s now now store some.0 (Refused OutOfMemory) false (made_without_memory disk limits s some.0 now store (g.met.D.Disk.only_now now) stands));
    }
