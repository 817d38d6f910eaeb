use Rattle.std.proofs.Common.{◌≡◌, ◌++◌, drop}
use Rattle.bt_json.specs.View.{items_view}
use Rattle.bt_requests.specs.Readers.{modifications_in}
use Rattle.bt_requests.proofs.modifications.modifications_in.Given as goal

-- those so far, and those that are left
abbrev pub invariant-loop-item : goal.invariant-loop-item
invariant-loop-item l = l.list ++ modifications_in (items_view (drop l.item-index l.items)) ≡ modifications_in (items_view l.items)
