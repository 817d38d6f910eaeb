use Rattle.std.proofs.Common.{◌∙◌, ap, rules}
use Rattle.std.specs.Prelude.{is_some}
use Rattle.std.proofs.lemmas.Map.Made.{filter_same_pairs}
use Rattle.bt_row.specs.Keys.{Keyed}
use Rattle.bt_row.specs.Plans.{value_at}
use Rattle.bt_row.proofs.Plans.{kept_only}
use Rattle.bt_row.proofs.plan.keep_only.Goals as goal

-- the closure asks for an outcome
pub returns-clause-values : goal.returns-clause-values
returns-clause-values c =
    let outcomes = c.args.outcomes.now.entries in
    let kept = filter_same_pairs _ (λ e. is_some (value_at outcomes e.0)) _ (λ k v b w f' t. search rules) _ _ c.retain.ensures.filtered in
    λ k. ap (λ (es : Keyed). value_at es k) kept ∙ kept_only outcomes c.args.cells.now.entries k
