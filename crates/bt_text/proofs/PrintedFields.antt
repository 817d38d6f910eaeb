-- The digits that are printed are read as the number.
use Rattle.std.proofs.Common.{◌≡◌, ℕ, ◌+◌, ◌*◌, ◌/◌, ◌%◌, ◌<◌, ◌++◌, true, Some, refl, arith}
use Rattle.std.specs.Char.{digit_value, is_ascii_digit}
use Rattle.std.proofs.lemmas.Bool.Decides.{nat_tests}
use Rattle.bt_text.specs.Numerals.{exact_numeral, numeral}
use Rattle.bt_text.specs.Printed.{last_digit, two_places, three_places, four_places}

-- a printed digit is a digit
digit : (n : ℕ) → is_ascii_digit (last_digit n) ≡ true
digit n = grind (arith, nat_tests)

-- and stands for the last digit of the number
value : (n : ℕ) → digit_value (last_digit n) ≡ n % 10
value n = grind (arith, nat_tests)

pub two_read : (n : ℕ) → n < 100 → exact_numeral 2 (two_places n) ≡ Some n
two_read n small =
    let whole : (0 * 10 + n / 10 % 10) * 10 + n % 10 ≡ n = omega arith in
    rw (digit (n / 10), digit n, value (n / 10), value n, whole) refl

pub four_read : (n : ℕ) → n < 10000 → exact_numeral 4 (four_places n) ≡ Some n
four_read n small =
    let whole : (((0 * 10 + n / 1000 % 10) * 10 + n / 100 % 10) * 10 + n / 10 % 10) * 10 + n % 10 ≡ n = omega arith in
    rw (digit (n / 1000), digit (n / 100), digit (n / 10), digit n, value (n / 1000), value (n / 100), value (n / 10), value n, whole) refl

pub three_read : (n : ℕ) → n < 1000 → numeral 9 (three_places n) ≡ Some n
three_read n small =
    let whole : ((0 * 10 + n / 100 % 10) * 10 + n / 10 % 10) * 10 + n % 10 ≡ n = omega arith in
    rw (digit (n / 100), digit (n / 10), digit n, value (n / 100), value (n / 10), value n, whole) refl

pub six_read : (n : ℕ) → n < 1000000 → numeral 9 (three_places (n / 1000) ++ three_places (n % 1000)) ≡ Some n
six_read n small =
    let whole : (((((0 * 10 + n / 1000 / 100 % 10) * 10 + n / 1000 / 10 % 10) * 10 + n / 1000 % 10) * 10 + n % 1000 / 100 % 10) * 10 + n % 1000 / 10 % 10) * 10 + n % 1000 % 10 ≡ n = omega arith in
    rw (digit (n / 1000 / 100), digit (n / 1000 / 10), digit (n / 1000), digit (n % 1000 / 100), digit (n % 1000 / 10), digit (n % 1000), value (n / 1000 / 100), value (n / 1000 / 10), value (n / 1000), value (n % 1000 / 100), value (n % 1000 / 10), value (n % 1000), whole) refl
