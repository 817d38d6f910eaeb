use Rattle.std.proofs.Common.{◌+◌, vec_len}
use Rattle.bt_filter_run.proofs.Merges.{IsMerging}
use Rattle.bt_types.specs.Cells.{merge}
use Rattle.bt_filter_run.proofs.merging.merged.Given as goal

abbrev pub invariant-loop-one : goal.invariant-loop-one
invariant-loop-one l = IsMerging (merge l.fn.first l.fn.second) l.first.items l.second.items l.behind.items

abbrev pub decreases-loop-one : goal.decreases-loop-one
decreases-loop-one l = vec_len l.first + vec_len l.second
