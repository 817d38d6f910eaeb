use Rattle.std.proofs.Common.{◌≡◌, take, map}
use Rattle.bt_range.specs.Bounds.{normal}
use Rattle.bt_range.proofs.listing.normal_ranges.Given as goal

-- the ranges so far are those of the first ones
abbrev pub invariant-loop-range : goal.invariant-loop-range
invariant-loop-range l = l.all.items ≡ map normal (take l.range-index l.ranges)
