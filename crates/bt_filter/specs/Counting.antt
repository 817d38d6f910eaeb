-- Numbers that are counted as far as a machine word goes.
use Rattle.std.specs.Prelude.{ℕ, ◌+◌, min, nat_le, Option, Some, None, if◌then◌else◌}
use Rattle.bt_base.specs.Counts.{most}
use Rattle.bt_filter.specs.declared.extent.Counts.{Counts}
use Rattle.bt_filter.specs.Flaws.{Extent}

-- with a tree of that extent
abbrev pub counts_with : Counts → Extent → Counts
counts_with c e = record { nodes = min (c.nodes + e.nodes) most; bytes = min (c.bytes + e.bytes) most; patterns = min (c.patterns + e.patterns) most }

-- the same, if the tree is at most so deep
abbrev pub counts_within : ℕ → Counts → Extent → Option Counts
counts_within levels c e = if nat_le e.depth levels then Some (counts_with c e) else None
