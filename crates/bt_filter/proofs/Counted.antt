-- Trees are counted one after another.
use Rattle.std.proofs.Common.{◌≡◌, ℕ, ◌+◌, ◌-◌, ◌<◌, min, Option, Some, option_map, arith, sym, ap, ◌∙◌}
use Rattle.std.proofs.lemmas.Grind.{common_steps}
use Rattle.bt_base.specs.Counts.{most}
use Rattle.bt_filter.specs.declared.asked.AskedFilter.{AskedFilter}
use Rattle.bt_filter.specs.declared.asked.AskedFilter.TheVariants.{Condition}
use Rattle.bt_filter.specs.declared.extent.Counts.{Counts}
use Rattle.bt_filter.specs.Counting.{counts_within}
use Rattle.bt_filter.specs.Flaws.{Extent, extent_of, extent_of_part, extent_beside, extent_above, node_extent}
use Rattle.bt_filter.proofs.Folds.{fold_condition}

-- the second of two trees is counted after the first
pub within_beside : (levels : ℕ) (c d : Counts) (a b : Extent) → counts_within levels c a ≡ Some d → counts_within levels c (extent_beside a b) ≡ counts_within levels d b
within_beside levels c d a b h = grind (arith, common_steps, h)

-- a node is counted before its parts
pub within_above : (levels : ℕ) (c d : Counts) (e : Extent) → 0 < levels → d ≡ record c { nodes = min (c.nodes + 1) most } → counts_within (levels - 1) d e ≡ counts_within levels c (extent_above e)
within_above levels c d e p is = rw is (grind (arith, common_steps, p))

-- a condition above its parts
pub extent_of_condition : (p m u : Option AskedFilter) →
    extent_of (Condition p m u) ≡ extent_above (extent_beside (extent_of_part (option_map extent_of p)) (extent_beside (extent_of_part (option_map extent_of m)) (extent_of_part (option_map extent_of u))))
extent_of_condition = fold_condition Extent node_extent

pub within_condition : (levels : ℕ) (before c d e : Counts) (r : Option Counts) (f : AskedFilter) (p m u : Option AskedFilter) → f ≡ Condition p m u → 0 < levels → c ≡ record before { nodes = min (before.nodes + 1) most } →
    counts_within (levels - 1) c (extent_of_part (option_map extent_of p)) ≡ Some d → counts_within (levels - 1) d (extent_of_part (option_map extent_of m)) ≡ Some e →
    r ≡ counts_within (levels - 1) e (extent_of_part (option_map extent_of u)) → r ≡ counts_within levels before (extent_of f)
within_condition levels before c d e r f p m u is low node first second third =
    let rest = within_beside (levels - 1) d e (extent_of_part (option_map extent_of m)) (extent_of_part (option_map extent_of u)) second in
    let all = within_beside (levels - 1) c d (extent_of_part (option_map extent_of p)) (extent_beside (extent_of_part (option_map extent_of m)) (extent_of_part (option_map extent_of u))) first in
    third ∙ sym rest ∙ sym all ∙ within_above levels before c _ low node ∙ ap (counts_within levels before) (sym (ap extent_of is ∙ extent_of_condition p m u))
