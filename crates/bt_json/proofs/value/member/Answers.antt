use Rattle.std.proofs.Common.{sym, ◌∙◌}
use Rattle.bt_json.proofs.Views.{member_at}
use Rattle.bt_json.proofs.value.member.Goals as goal

pub returns-then-eq : goal.returns-then-eq
returns-then-eq c =
    let l = c.loop-other in
    sym (member_at c.args.name.now c.args.members.now l.other-index c.loop-other-item.result c.loop-other-test.true c.loop-other-item.is _ (sym c.if-eq.ensures)) ∙ l.invariant

pub loop-other-preserved : goal.loop-other-preserved
loop-other-preserved c =
    let l = c.loop-other in
    sym (member_at c.args.name.now c.args.members.now l.other-index c.loop-other-item.result c.loop-other-test.true c.loop-other-item.is _ (sym c.if-eq.ensures)) ∙ l.invariant
