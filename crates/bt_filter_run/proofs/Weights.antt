-- How much there is to run below a step.
use Rattle.std.proofs.Common.{◌≡◌, ℕ, ◌+◌, ◌<◌, List, [], ◌∷◌, ◌++◌, map, length, Option, Some, None, option_map, arith, refl, sym, ap, ◌∙◌}
use Rattle.std.specs.Prelude.{Box}
use Rattle.std.specs.Global.{Global}
use Rattle.bt_filter_run.specs.declared.step.Step.{Step}
use Rattle.bt_filter_run.specs.declared.step.Step.TheOpen.{Step-F}
use Rattle.bt_filter_run.specs.declared.step.Step.TheFolds.{fold-Step, fold-roll-Step, map-Step}
use Rattle.bt_filter_run.specs.declared.step.Step.TheVariants as step
use Rattle.bt_filter_run.specs.Steps.{boxed}

abbrev pub total : List ℕ → ℕ
total [] = 0
total (n ∷ ns) = n + 1 + total ns

abbrev pub weight_or_none : Option ℕ → ℕ
weight_or_none None = 0
weight_or_none (Some n) = n + 1

abbrev pub step_weight : Step-F ℕ → ℕ
step_weight (Step-F.Chain parts) = 1 + total parts.items
step_weight (Step-F.Interleave parts) = 1 + total parts.items
step_weight (Step-F.Condition p m u) = 1 + weight_or_none (option_map boxed p) + weight_or_none (option_map boxed m) + weight_or_none (option_map boxed u)
step_weight _ = 0

abbrev pub weight : Step → ℕ
weight = fold-Step ℕ step_weight

abbrev pub total_weight : List Step → ℕ
total_weight steps = total (map weight steps)

abbrev pub part_weight : Option (Box Step Global) → ℕ
part_weight part = weight_or_none (option_map (λ b. weight b.value) part)

condition_weight : (p m u : Option (Box Step Global)) →
    step_weight (map-Step Step ℕ weight (Step-F.Condition p m u)) ≡ 1 + part_weight p + part_weight m + part_weight u
condition_weight None None None = refl
condition_weight (Some p) None None = refl
condition_weight None (Some m) None = refl
condition_weight (Some p) (Some m) None = refl
condition_weight None None (Some u) = refl
condition_weight (Some p) None (Some u) = refl
condition_weight None (Some m) (Some u) = refl
condition_weight (Some p) (Some m) (Some u) = refl

pub weight_of_condition : (p m u : Option (Box Step Global)) → weight (step.Condition p m u) ≡ 1 + part_weight p + part_weight m + part_weight u
weight_of_condition p m u = ap weight (sym (step.rolls-Condition p m u)) ∙ fold-roll-Step ℕ step_weight (Step-F.Condition p m u) ∙ condition_weight p m u

total_append : (a b : List Step) → total_weight (a ++ b) ≡ total_weight a + total_weight b
total_append [] b = omega arith
total_append (s ∷ ss) b = omega (arith, total_append ss b)

total_some : (a : List Step) → 0 < length a → 0 < total_weight a
total_some [] h = h
total_some (s ∷ ss) h = omega arith

-- each half of several steps has less to run
pub front_lighter : (steps front back : List Step) → steps ≡ front ++ back → 0 < length back → total_weight front < total_weight steps
front_lighter steps front back is h = omega (arith, ap total_weight is, total_append front back, total_some back h)

pub back_lighter : (steps front back : List Step) → steps ≡ front ++ back → 0 < length front → total_weight back < total_weight steps
back_lighter steps front back is h = omega (arith, ap total_weight is, total_append front back, total_some front h)
