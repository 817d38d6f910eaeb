use Rattle.std.proofs.Common.{◌-◌}
use Rattle.bt_rules.proofs.Columns.{Between}
use Rattle.bt_rules.proofs.condemned.kept_by.Given as goal

abbrev pub invariant-loop-low : goal.invariant-loop-low
invariant-loop-low l = Between l.rule l.moment l.column l.low l.high

abbrev pub decreases-loop-low : goal.decreases-loop-low
decreases-loop-low l = l.high - l.low
