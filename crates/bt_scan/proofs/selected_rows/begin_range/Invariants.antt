use Rattle.std.proofs.Common.{◌≡◌, ◌-◌, drop, length}
use Rattle.bt_scan.specs.Selection.{selected}
use Rattle.bt_scan.proofs.selected_rows.begin_range.Given as goal

-- the ranges that were looked up have no rows
abbrev pub invariant-loop-range : goal.invariant-loop-range
invariant-loop-range l =
    (selected (drop l.looked_up l.set) l.table ≡ selected (drop l.fn.looked_up l.set) l.table)
    × (l.rows ≡ l.fn.rows)

abbrev pub decreases-loop-range : goal.decreases-loop-range
decreases-loop-range l = length l.ranges - l.looked_up
