-- Which sums 64 bits hold.
use Rattle.std.proofs.Common.{◌≡◌, ◌^◌, ℕ, ℤ, pos, negsuc, ◌+ℤ◌, Bool, true, false, List, Some, Ok, Err, length, FitsSigned, refl, w64}
use Rattle.std.specs.Prelude.{nat_lt}
use Rattle.std.proofs.lemmas.Bool.{eq-eqb, lt-ltb, ltb-true}
use Rattle.bt_rmw.specs.declared.rule.Action.TheVariants.{Increment}
use Rattle.bt_rmw.specs.declared.refusal.ModifyRefusal.TheVariants.{IncrementRange}
use Rattle.bt_rmw.specs.Modified.{bytes_of, is_int64, number_in, value_after}

is_held : (z : ℤ) → FitsSigned w64 z → is_int64 z ≡ true
is_held (pos n) fits = lt-ltb n (2 ^ 63) fits.sfits
is_held (negsuc n) fits = lt-ltb n (2 ^ 63) fits.sfits

is_past : (z : ℤ) → ¬ FitsSigned w64 z → is_int64 z ≡ false
is_past (pos n) none = by (nat_lt n (2 ^ 63)) refl
  where
    by : (t : Bool) → nat_lt n (2 ^ 63) ≡ t → t ≡ false
    by true is = absurd (none (record { sfits = ltb-true n (2 ^ 63) is }))
    by false is = refl
is_past (negsuc n) none = by (nat_lt n (2 ^ 63)) refl
  where
    by : (t : Bool) → nat_lt n (2 ^ 63) ≡ t → t ≡ false
    by true is = absurd (none (record { sfits = ltb-true n (2 ^ 63) is }))
    by false is = refl

pub to_sum : (index : ℕ) (amount sum : ℤ) (value : List ℕ) → length value ≡ 8 → FitsSigned w64 (number_in value +ℤ amount) → number_in value +ℤ amount ≡ sum → value_after index (Increment amount) (Some value) ≡ Ok (bytes_of sum)
to_sum index amount sum value eight fits is = rw (eq-eqb (length value) 8 eight, is_held (number_in value +ℤ amount) fits, is) refl

pub past_range : (index : ℕ) (amount : ℤ) (value : List ℕ) → length value ≡ 8 → ¬ FitsSigned w64 (number_in value +ℤ amount) → value_after index (Increment amount) (Some value) ≡ Err (IncrementRange index)
past_range index amount value eight none = rw (eq-eqb (length value) 8 eight, is_past (number_in value +ℤ amount) none) refl
