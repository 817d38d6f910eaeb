use Rattle.std.proofs.Common.{sym, ◌∙◌}
use Rattle.bt_requests.proofs.Looks.{member_first}
use Rattle.bt_requests.proofs.parsing.taken.Goals as goal

pub returns-then-eq : goal.returns-then-eq
returns-then-eq c =
    let l = c.loop-other in
    sym (member_first c.args.name.now l.other-iterator.rest.items c.next.new.self.rest.items (c.in-Some.other, c.in-Some.value) _ c.in-Some.ensures.steps.0 (sym c.if-eq.ensures)) ∙ l.invariant

pub loop-other-preserved-else-eq : goal.loop-other-preserved-else-eq
loop-other-preserved-else-eq c =
    let l = c.loop-other in
    sym (member_first c.args.name.now l.other-iterator.rest.items c.next.new.self.rest.items (c.in-Some.other, c.in-Some.value) _ c.in-Some.ensures.steps.0 (sym c.if-eq.ensures)) ∙ l.invariant

pub loop-other-preserved-else-eq-2 : goal.loop-other-preserved-else-eq-2
loop-other-preserved-else-eq-2 c =
    let l = c.loop-other in
    sym (member_first c.args.name.now l.other-iterator.rest.items c.next.new.self.rest.items (c.in-Some.other, c.in-Some.value) _ c.in-Some.ensures.steps.0 (sym c.if-eq.ensures)) ∙ l.invariant

pub loop-other-preserved : goal.loop-other-preserved
loop-other-preserved c =
    let l = c.loop-other in
    sym (member_first c.args.name.now l.other-iterator.rest.items c.next.new.self.rest.items (c.in-Some.other, c.in-Some.value) _ c.in-Some.ensures.steps.0 (sym c.if-eq.ensures)) ∙ l.invariant
