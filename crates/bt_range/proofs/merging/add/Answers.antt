use Rattle.bt_range.proofs.Merges.{joins_apart, joins_same, joins_starts, nexts_apart, nexts_same, nexts_starts}
use Rattle.bt_range.proofs.merging.add.Goals as goal

pub returns-then-touches-clause-apart : goal.returns-then-touches-clause-apart
returns-then-touches-clause-apart c = joins_apart _ _ _ c.in-Some.last c.args.range c.joined.result c.in-Some.ensures.items c.in_ok-push-2.ensures.items c.joined.ensures c.requires.apart

pub returns-then-touches-clause-same : goal.returns-then-touches-clause-same
returns-then-touches-clause-same c = joins_same _ _ _ c.in-Some.last c.args.range c.joined.result c.in-Some.ensures.items c.in_ok-push-2.ensures.items c.joined.ensures _ c.requires.starts c.touches.ensures c.if-touches.true

pub returns-then-touches-clause-starts : goal.returns-then-touches-clause-starts
returns-then-touches-clause-starts c = joins_starts _ _ _ c.in-Some.last c.args.range c.joined.result c.in-Some.ensures.items c.in_ok-push-2.ensures.items c.joined.ensures c.requires.starts

pub returns-clause-apart : goal.returns-clause-apart
returns-clause-apart c =
    nexts_apart _ _ _ _ c.in-Some.last c.args.range c.in-Some.ensures.items c.in_ok-push-3.ensures.items c.in_ok-push-4.ensures.items _ c.requires.apart c.requires.starts c.requires.filled c.touches.ensures c.if-touches.false

pub returns-clause-same : goal.returns-clause-same
returns-clause-same c = nexts_same _ _ _ _ c.in-Some.last c.args.range c.in-Some.ensures.items c.in_ok-push-3.ensures.items c.in_ok-push-4.ensures.items

pub returns-clause-starts : goal.returns-clause-starts
returns-clause-starts c = nexts_starts _ _ _ _ c.in-Some.last c.args.range c.in-Some.ensures.items c.in_ok-push-3.ensures.items c.in_ok-push-4.ensures.items c.requires.starts
