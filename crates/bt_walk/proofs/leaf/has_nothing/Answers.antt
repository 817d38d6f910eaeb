use Rattle.std.proofs.Common.{◌≡◌, ◌==◌, Some, length, arith, sym, ap, ◌∙◌}
use Rattle.serde_json.specs.Find.{as_array}
use Rattle.bt_json.specs.View.{view, items_view}
use Rattle.bt_walk.proofs.Leaves.{has_none, has_nothing-items, has_none-items_view}
use Rattle.bt_walk.proofs.leaf.has_nothing.Goals as goal

pub returns-in-Some : goal.returns-in-Some
returns-in-Some c =
    let found : Some (items_view c.in-Some.items.now.items) ≡ as_array (view c.args.value.now) = c.in-Some.ensures in
    let count : c.is_empty.result ≡ (length c.in-Some.items.now.items == 0) = grind arith in
    count ∙ sym (has_none-items_view c.in-Some.items.now.items) ∙ ap has_none found ∙ sym (has_nothing-items (view c.args.value.now))
