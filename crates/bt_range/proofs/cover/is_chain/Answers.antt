use Rattle.std.proofs.Common.{Some, ap, ◌∙◌, arith}
use Rattle.bt_range.specs.Covers.{is_same_end}
use Rattle.bt_range.proofs.Covering.{at_part, chain_step, chain_breaks, chain_end}
use Rattle.bt_range.proofs.cover.is_chain.Goals as goal

pub loop-part-preserved : goal.loop-part-preserved
loop-part-preserved c =
    let at = c.loop-part in
    let p = c.part-item.result in
    chain_step c.args.parts.now at.part-index at.at.now c.args.end.now p c.ends_at.result (at_part c.args.parts.now at.part-index p (omega arith) c.part-item.is) (c.ends_at.ensures ∙ ap (λ s. is_same_end at.at.now (Some s)) c.bytes.ensures) c.if-not-ends_at.false
    ∙ at.invariant

pub returns-then-not-ends_at : goal.returns-then-not-ends_at
returns-then-not-ends_at c =
    let at = c.loop-part in
    let p = c.part-item.result in
    chain_breaks c.args.parts.now at.part-index at.at.now c.args.end.now p c.ends_at.result (at_part c.args.parts.now at.part-index p (omega arith) c.part-item.is) (c.ends_at.ensures ∙ ap (λ s. is_same_end at.at.now (Some s)) c.bytes.ensures) c.if-not-ends_at.true
    ∙ at.invariant

pub returns : goal.returns
returns c =
    let at = c.loop-part in
    c.is_same_end.ensures ∙ chain_end c.args.parts.now at.part-index at.at.now c.args.end.now (omega arith) ∙ at.invariant
