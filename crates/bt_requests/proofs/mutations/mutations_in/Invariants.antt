use Rattle.std.proofs.Common.{◌≡◌, ◌++◌, drop}
use Rattle.bt_json.specs.View.{items_view}
use Rattle.bt_requests.specs.Readers.{mutations_in}
use Rattle.bt_requests.proofs.mutations.mutations_in.Given as goal

-- those so far, and those that are left
abbrev pub invariant-loop-item : goal.invariant-loop-item
invariant-loop-item l = l.list ++ mutations_in (items_view (drop l.item-index l.items)) ≡ mutations_in (items_view l.items)
