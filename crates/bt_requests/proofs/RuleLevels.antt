-- One level of a rule.
use Rattle.std.proofs.Common.{◌≡◌, ℕ, zero, suc, ◌-◌, None, refl, arith}
use Rattle.serde_json.specs.Data.{Data}
use Rattle.bt_requests.specs.Rules.{kind_in, rule_in}

pub no_level : (d : Data) → rule_in 0 d ≡ None
unfolding rule_in
no_level d = refl

pub one_level : (levels : ℕ) (d : Data) → (levels ≡ 0 → ⊥) → rule_in levels d ≡ kind_in (rule_in (levels - 1)) d
unfolding rule_in
one_level zero d h = absurd (h refl)
one_level (suc n) d h =
    let below : suc n - 1 ≡ n = omega arith in
    rw below refl
