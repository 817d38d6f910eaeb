use Rattle.std.proofs.Common.{◌≡◌, ◌+◌, ◌*◌, ◌++◌, drop}
use Rattle.bt_json.specs.View.{items_view}
use Rattle.bt_requests.specs.Filters.{parts_in, filter_in}
use Rattle.bt_requests.proofs.filters.+filter_in.Given as goal

abbrev pub decreases-filter_in : goal.decreases-filter_in
decreases-filter_in l = 4 * l.levels

abbrev pub decreases-kind_in : goal.decreases-kind_in
decreases-kind_in l = 4 * l.below + 3

abbrev pub decreases-condition_in : goal.decreases-condition_in
decreases-condition_in l = 4 * l.levels + 2

abbrev pub decreases-branch_at : goal.decreases-branch_at
decreases-branch_at l = 4 * l.levels + 1

abbrev pub decreases-filters_in : goal.decreases-filters_in
decreases-filters_in l = 4 * l.levels + 1

-- those so far, and those that are left
abbrev pub invariant-filters_in-loop-item : goal.invariant-filters_in-loop-item
invariant-filters_in-loop-item l = l.filters ++ parts_in (filter_in l.levels) (items_view (drop l.item-index l.item-items)) ≡ parts_in (filter_in l.levels) (items_view l.item-items)
