use Rattle.std.proofs.Common.{◌≡◌, take, map}
use Rattle.bt_range.specs.RowSets.{key_range}
use Rattle.bt_range.proofs.listing.key_ranges.Given as goal

-- the ranges so far are those of the first keys
abbrev pub invariant-loop-key : goal.invariant-loop-key
invariant-loop-key l = l.all.items ≡ map key_range (take l.key-index l.keys)
