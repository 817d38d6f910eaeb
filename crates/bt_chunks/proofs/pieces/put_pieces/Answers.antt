use Rattle.std.proofs.Common.{arith, length-drop}
use Rattle.bt_chunks.proofs.Values.{pieces_ended, pieces_more}
use Rattle.bt_chunks.proofs.pieces.put_pieces.Goals as goal

pub loop-left-preserved : goal.loop-left-preserved
loop-left-preserved c =
    let left = c.loop-left.left.now in
    let more = pieces_more c.loop-left.chunks _ c.args.size c.args.ends_row left c.loop-left-test.true c.loop-left.invariant.0 in
    rw c.split_at.ensures.back (rw c.in_ok-push.ensures.ok (rw c.in_ok-further.ensures (rw c.split_at.ensures.front (more, omega (arith, length-drop 65536 left)))))

pub returns : goal.returns
returns c =
    let ended = pieces_ended c.loop-left.chunks _ c.args.size c.args.ends_row c.loop-left.left.now c.loop-left.invariant.1 c.loop-left-test.false c.loop-left.invariant.0 in
    rw c.in_ok-push-2.ensures.ok (rw c.in_ok-further-2.ensures ended)
