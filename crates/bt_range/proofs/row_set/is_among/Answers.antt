use Rattle.std.proofs.Common.{◌∙◌, rules}
use Rattle.std.proofs.lemmas.Fn.{always_returns_same}
use Rattle.bt_range.specs.RowSets.{side}
use Rattle.bt_range.proofs.Selecting.{searched}
use Rattle.bt_range.proofs.row_set.is_among.Goals as goal

-- the closure tells the side of a range
pub returns : goal.returns
returns c =
    let facts = c.binary_search_by.ensures in
    let by_side = facts.position (λ r. side r c.args.key.now) (always_returns_same _ _ _ (λ a r f called. (search rules, search rules))) in
    c.is_ok.ensures.value ∙ searched _ _ _ c.requires facts.bound by_side
