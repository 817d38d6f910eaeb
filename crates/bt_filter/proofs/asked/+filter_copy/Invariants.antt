use Rattle.std.proofs.Common.{◌≡◌, take}
use Rattle.bt_filter.proofs.asked.+filter_copy.Given as goal

abbrev pub invariant-list_copy-loop-filter : goal.invariant-list_copy-loop-filter
invariant-list_copy-loop-filter l = l.copy ≡ take l.filter-index l.filters
