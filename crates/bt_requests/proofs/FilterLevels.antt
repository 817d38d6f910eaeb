-- One level of a filter.
use Rattle.std.proofs.Common.{◌≡◌, ℕ, zero, suc, ◌-◌, refl, arith}
use Rattle.serde_json.specs.Data.{Data}
use Rattle.bt_filter.specs.declared.asked.AskedFilter.TheVariants.{Unset}
use Rattle.bt_requests.specs.Filters.{kind_in, filter_in}

pub no_level : (d : Data) → filter_in 0 d ≡ Unset
unfolding filter_in
no_level d = refl

pub one_level : (levels : ℕ) (d : Data) → (levels ≡ 0 → ⊥) → filter_in levels d ≡ kind_in (filter_in (levels - 1)) d
unfolding filter_in
one_level zero d h = absurd (h refl)
one_level (suc n) d h =
    let below : suc n - 1 ≡ n = omega arith in
    rw below refl
