use Rattle.std.proofs.Common.{◌≡◌, ◌++◌, drop}
use Rattle.bt_json.specs.View.{items_view}
use Rattle.bt_requests.specs.RowSets.{each_range}
use Rattle.bt_requests.proofs.row_sets.ranges_in.Given as goal

-- those so far, and those that are left
abbrev pub invariant-loop-item : goal.invariant-loop-item
invariant-loop-item l = l.ranges ++ each_range (items_view (drop l.item-index l.item-items)) ≡ each_range (items_view l.item-items)
