-- The nanoseconds that digits behind a dot write.
use Rattle.std.proofs.Common.{◌≡◌, ℕ, ◌+◌, ◌-◌, ◌*◌, ◌^◌, ◌<◌, ◌≤◌, List, length, zero, suc, true, lit<, sym, ap, ◌∙◌, arith}
use Rattle.std.proofs.Math.Nat.{pow-suc, mul-lt-mul_of_pos_right}
use Rattle.std.proofs.lemmas.Nat.{pow-add}
use Rattle.std.specs.List.{list_all}
use Rattle.std.specs.Char.{is_ascii_digit}
use Rattle.std.specs.Str.Parse.{digits_value}
use Rattle.std.proofs.lemmas.Str.Parse.{digits_value_short}
use Rattle.bt_text.proofs.Digits.{own}

positive : (k : ℕ) → 0 < 10 ^ k
positive zero = lit< tt
positive (suc k) = let more : 0 < 10 ^ k = positive k in rw (pow-suc 10 k) (omega arith)

-- l digits and 9 - l zeros write less than 10 ^ 9
scaled : (n l : ℕ) → n < 10 ^ l → l ≤ 9 → n * 10 ^ (9 - l) < 10 ^ 9
scaled n l small short =
    let nine : l + (9 - l) ≡ 9 = omega arith in
    let whole : 10 ^ l * 10 ^ (9 - l) ≡ 10 ^ 9 = sym (pow-add 10 l (9 - l)) ∙ ap (λ (k : ℕ). 10 ^ k) nine in
    let less : n * 10 ^ (9 - l) < 10 ^ l * 10 ^ (9 - l) = mul-lt-mul_of_pos_right small (positive (9 - l)) in
    omega (arith, whole, less)

pub below_second : (ds : List ℕ) → list_all is_ascii_digit ds ≡ true → length ds ≤ 9 → digits_value 10 ds * 10 ^ (9 - length ds) < 10 ^ 9
below_second ds digits short = scaled (digits_value 10 ds) (length ds) (digits_value_short own ds (length ds) digits (omega arith)) short
