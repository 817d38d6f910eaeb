use Rattle.std.proofs.Common.{rules}
use Rattle.std.proofs.lemmas.Fn.{filter_same}
use Rattle.bt_range.specs.RowSets.{is_filled}
use Rattle.bt_range.proofs.sorting.keep_filled.Goals as goal

-- the closure tests whether the range is filled
pub returns : goal.returns
returns c = filter_same _ is_filled _ (λ x b f' k. search rules) _ _ c.retain.ensures.filtered
