-- What a fold gives of a condition.
use Rattle.std.proofs.Common.{◌≡◌, Option, Some, None, option_map, refl, sym, ap, ◌∙◌}
use Rattle.bt_filter.specs.declared.asked.AskedFilter.{AskedFilter}
use Rattle.bt_filter.specs.declared.asked.AskedFilter.TheOpen.{AskedFilter-F}
use Rattle.bt_filter.specs.declared.asked.AskedFilter.TheFolds.{fold-AskedFilter, fold-roll-AskedFilter, map-AskedFilter}
use Rattle.bt_filter.specs.declared.asked.AskedFilter.TheVariants.{Condition, rolls-Condition}

pub map_condition : (A B : Type 0) (f : A → B) (p m u : Option A) →
    map-AskedFilter A B f (AskedFilter-F.Condition p m u) ≡ AskedFilter-F.Condition (option_map f p) (option_map f m) (option_map f u)
map_condition A B f None None None = refl
map_condition A B f (Some p) None None = refl
map_condition A B f None (Some m) None = refl
map_condition A B f (Some p) (Some m) None = refl
map_condition A B f None None (Some u) = refl
map_condition A B f (Some p) None (Some u) = refl
map_condition A B f None (Some m) (Some u) = refl
map_condition A B f (Some p) (Some m) (Some u) = refl

pub fold_condition : (A : Type 0) (step : AskedFilter-F A → A) (p m u : Option AskedFilter) → fold-AskedFilter A step (Condition p m u)
    ≡ step (AskedFilter-F.Condition (option_map (fold-AskedFilter A step) p) (option_map (fold-AskedFilter A step) m) (option_map (fold-AskedFilter A step) u))
fold_condition A step p m u =
    ap (fold-AskedFilter A step) (sym (rolls-Condition p m u)) ∙ fold-roll-AskedFilter A step (AskedFilter-F.Condition p m u)
    ∙ ap step (map_condition AskedFilter A (fold-AskedFilter A step) p m u)
