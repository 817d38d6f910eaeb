use Rattle.std.proofs.Common.{◌+◌, ◌-◌, ◌/◌, arith}
use Rattle.bt_rules.proofs.Columns.{lower_half, upper_half}
use Rattle.bt_rules.proofs.condemned.kept_by.Goals as goal

pub loop-low-preserved-then-condemns_at : goal.loop-low-preserved-then-condemns_at
loop-low-preserved-then-condemns_at c =
    lower_half c.args.rule.now c.args.moment c.args.column.now c.loop-low.low c.loop-low.high _ c.condemns_at.result
    c.requires c.loop-low.invariant (omega arith) (omega arith) c.condemns_at.ensures c.if-condemns_at.true

pub loop-low-preserved : goal.loop-low-preserved
loop-low-preserved c =
    upper_half c.args.rule.now c.args.moment c.args.column.now c.loop-low.low c.loop-low.high (c.loop-low.low + (c.loop-low.high - c.loop-low.low) / 2) c.condemns_at.result
    c.requires c.loop-low.invariant (omega arith) (omega arith) c.condemns_at.ensures c.if-condemns_at.false
