use Rattle.std.proofs.Common.{◌≡◌, ◌++◌, map, reverse, length}
use Rattle.bt_filter_run.specs.Steps.{filter_of}
use Rattle.bt_filter_run.proofs.building.+step_of.Given as goal

-- the filters that are left, and behind them those of which steps were made, the last one first
abbrev pub invariant-steps_of-loop-filter : goal.invariant-steps_of-loop-filter
invariant-steps_of-loop-filter l = record {
  no_deeper : goal.no_deeper-steps_of-loop-filter l;
  made : l.filters ++ map filter_of (reverse l.steps.items) ≡ l.fn.filters;
}

abbrev pub decreases-steps_of-loop-filter : goal.decreases-steps_of-loop-filter
decreases-steps_of-loop-filter l = length l.filters
