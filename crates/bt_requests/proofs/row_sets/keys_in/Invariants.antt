use Rattle.std.proofs.Common.{◌≡◌, ◌++◌, drop}
use Rattle.bt_json.specs.View.{items_view}
use Rattle.bt_requests.specs.RowSets.{each_key}
use Rattle.bt_requests.proofs.row_sets.keys_in.Given as goal

-- those so far, and those that are left
abbrev pub invariant-loop-item : goal.invariant-loop-item
invariant-loop-item l = l.keys ++ each_key (items_view (drop l.item-index l.item-items)) ≡ each_key (items_view l.item-items)
