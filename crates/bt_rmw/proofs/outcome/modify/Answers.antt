use Rattle.std.proofs.Common.{◌≡◌, ◌∷◌, ◌∙◌, subst, sym, rules}
use Rattle.std.specs.Prelude.{IfErr}
use Rattle.std.specs.Option.{option_or}
use Rattle.std.specs.Vec.Iter.{into_iter_items}
use Rattle.bt_rmw.specs.Rules.{RefusesToModify, column_of}
use Rattle.bt_rmw.specs.Held.{held_at, latest_stamped, stamped_after}
use Rattle.bt_rmw.proofs.Steps.{ended_by, goes_on}
use Rattle.bt_rmw.proofs.outcome.modify.Goals as goal

pub returns-in_err-carry_out-clause-refusal : goal.returns-in_err-carry_out-clause-refusal
returns-in_err-carry_out-clause-refusal c =
    let l = c.loop-rule in
    let step : into_iter_items l.rule-iterator ≡ c.in-Some.rule ∷ into_iter_items c.next.new.self = search rules in
    let lead = rw step at l.invariant.3 in
    let rule = c.in-Some.rule in
    let answer = c.from_residual-in_err-carry_out.result in
    let refused : IfErr answer (λ why. RefusesToModify (stamped_after c.args.moment l.index rule.action (option_or (held_at l.made.entries (column_of rule)) (held_at l.latest.entries (column_of rule)))) why) = search rules in
    let all = ended_by c.args.moment l.index rule c.args.latest l.made.entries l.latest.entries (l.invariant.6 (column_of rule)) (into_iter_items c.next.new.self) answer refused in
    subst (λ made. IfErr answer (λ why. RefusesToModify made why)) lead all

pub loop-rule-preserved : goal.loop-rule-preserved
loop-rule-preserved c =
    let l = c.loop-rule in
    let step : into_iter_items l.rule-iterator ≡ c.in-Some.rule ∷ into_iter_items c.next.new.self = search rules in
    let lead = rw step at l.invariant.3 in
    let next = goes_on c.args.moment l.index c.in-Some.rule c.args.latest l.made.entries l.latest.entries (l.invariant.6 (column_of c.in-Some.rule)) c.carry_out.new.made.entries (into_iter_items c.next.new.self) c.in_ok-carry_out.ensures.made in (
      tt,
      tt,
      search rules,
      sym next ∙ lead,
      c.in_ok-carry_out.ensures.short,
      c.in_ok-carry_out.ensures.sorted,
      λ k. c.in_ok-carry_out.ensures.before k (latest_stamped c.args.latest k) (l.invariant.6 k),
    )
