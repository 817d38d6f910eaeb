use Rattle.std.proofs.Common.{◌≡◌, drop, map}
use Rattle.bt_filter.specs.Counting.{counts_with, counts_within}
use Rattle.bt_filter.specs.Flaws.{extent_of, extent_of_all, no_extent}
use Rattle.bt_filter.proofs.extent.+count_filter.Given as goal

-- what is left is counted as far as all of them
abbrev pub invariant-count_all-loop-filter : goal.invariant-count_all-loop-filter
invariant-count_all-loop-filter l = record {
  counted : counts_within l.levels l.counts (extent_of_all (map extent_of (drop l.filter-index l.filters)))
      ≡ counts_within l.levels l.fn.before (extent_of_all (map extent_of l.filters));
  fits : counts_with l.counts no_extent ≡ l.counts;
}
