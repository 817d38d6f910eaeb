-- The decimal of a number is read as that number.
use Rattle.std.proofs.Common.{◌≡◌, ℕ, suc, ◌^◌, ◌<◌, ◌≤◌, length, true, false, Some, pos, negsuc, refl, arith}
use Rattle.std.proofs.lemmas.Int.{ints}
use Rattle.std.specs.Fmt.{decimal}
use Rattle.std.specs.Str.Parse.{starts_with_minus}
use Rattle.std.proofs.lemmas.Bool.{and_from, lt-ltb, le-leb, ne_eqb}
use Rattle.std.proofs.lemmas.Fmt.{decimal_nonempty, length-decimal-le, digits_decimal, digits_value-decimal}
use Rattle.std.proofs.lemmas.Str.Parse.{not_in_digits}
use Rattle.bt_text.specs.Int64.{is_digits, digits_of, PrintedNumbersAreRead}
use Rattle.bt_text.proofs.Digits.{own}

-- a decimal is digits, at most 19 below 10 ^ 19
is_digits-decimal : (n : ℕ) → n < 10 ^ 19 → is_digits (decimal n) ≡ true
is_digits-decimal n h =
    let fits : n < 2 ^ 64 = omega arith in
    and_from _ _ (and_from _ _ (lt-ltb 0 (length (decimal n)) (decimal_nonempty n fits)) (le-leb (length (decimal n)) 19 (length-decimal-le 19 n (omega arith) h fits)))
    (digits_decimal own n fits)

-- and they write the number
digits_of-decimal : (n : ℕ) → n < 10 ^ 19 → digits_of (decimal n) ≡ Some n
digits_of-decimal n h = rw (is_digits-decimal n h, digits_value-decimal own n (omega arith)) refl

-- a decimal begins with a digit
no_minus : (n : ℕ) → n < 2 ^ 64 → starts_with_minus (decimal n) ≡ false
no_minus n h = ne_eqb _ 45 (not_in_digits own (decimal n) 45 (digits_decimal own n h) (λ r. omega arith) 0 (decimal_nonempty n h))

pub printed_numbers_are_read : PrintedNumbersAreRead
printed_numbers_are_read (pos n) fits =
    let below : n < 2 ^ 63 = omega (arith, ints) in
    rw (no_minus n (omega arith), digits_of-decimal n (omega arith), lt-ltb n (2 ^ 63) below) refl
printed_numbers_are_read (negsuc n) fits =
    let most : suc n ≤ 2 ^ 63 = omega (arith, ints) in
    rw (digits_of-decimal (suc n) (omega arith), le-leb (suc n) (2 ^ 63) most) refl
