-- What is not refused.
use Rattle.std.proofs.Common.{◌≡◌, ◌≤◌, ◌==◌, ℕ, zero, suc, Bool, true, false, Option, Some, None, refl, cond, arith}
use Rattle.std.specs.Prelude.{not, option_map}
use Rattle.std.specs.Option.{option_or}
use Rattle.bt_messages.specs.declared.refusal.Refusal.{Refusal}
use Rattle.bt_messages.specs.declared.refusal.Refusal.TheVariants.{BadRowKey}

module _ {E : Type 0} where
  -- neither of two refusals is there
  pub both_none : (a b : Option E) → option_or a b ≡ None → (a ≡ None) × (b ≡ None)
  both_none None b none = (refl, none)
  both_none (Some e) b none = absurd cc

  -- a test that refuses came out well
  pub passes : (b : Bool) (e : E) → cond b None (Some e) ≡ None → b ≡ true
  passes true e none = refl
  passes false e none = absurd cc

  -- and so did all behind it
  pub not_refused : (b : Bool) (e : E) (rest : Option E) → cond b (Some e) rest ≡ None → (b ≡ false) × (rest ≡ None)
  not_refused true e rest none = absurd cc
  not_refused false e rest none = (refl, none)

  passed : (refusal_for : E → Refusal) (o : Option E) → option_map refusal_for o ≡ None → o ≡ None
  passed refusal_for None none = refl
  passed refusal_for (Some e) none = absurd cc

  -- a row key and what is asked for its row
  pub key_and_list : (refusal_for : E → Refusal) (b : Bool) (o : Option E) → cond b (option_map refusal_for o) (Some BadRowKey) ≡ None → (b ≡ true) × (o ≡ None)
  key_and_list refusal_for true o none = (refl, passed refusal_for o none)
  key_and_list refusal_for false o none = absurd cc

pub is_passed : (b : Bool) → not b ≡ false → b ≡ true
is_passed true e = refl
is_passed false e = absurd cc

pub some_of : (n : ℕ) → (n == 0) ≡ false → 1 ≤ n
some_of zero e = absurd cc
some_of (suc n) e = omega arith
