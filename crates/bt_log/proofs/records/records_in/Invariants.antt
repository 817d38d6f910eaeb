use Rattle.std.proofs.Common.{length}
use Rattle.bt_log.proofs.Walks.{Walk}
use Rattle.bt_log.proofs.records.records_in.Given as goal

abbrev pub invariant-loop-entries : goal.invariant-loop-entries
invariant-loop-entries l = Walk l.first l.entries l.bytes l.rest

abbrev pub decreases-loop-entries : goal.decreases-loop-entries
decreases-loop-entries l = length l.rest
