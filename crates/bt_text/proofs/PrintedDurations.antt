-- A span that is printed is read as itself.
use Rattle.std.proofs.Common.{◌≡◌, ℕ, ◌+◌, ◌-◌, ◌*◌, ◌/◌, ◌%◌, ◌^◌, ◌==◌, ◌<◌, ◌≤◌, List, [], ◌∷◌, ◌++◌, length, true, false, Bool, Some, pos, refl, ◌∙◌, not, arith, length-append}
use Rattle.std.specs.Fmt.{decimal}
use Rattle.std.specs.Char.{is_ascii_digit}
use Rattle.std.specs.List.{list_all, position_or_len}
use Rattle.std.specs.Str.Parse.{starts_with_minus}
use Rattle.std.proofs.Math.Seq.{take-append_seam, drop-append_seam, get_or-append_seam}
use Rattle.std.proofs.Math.ListN.{get_or-append}
use Rattle.std.proofs.lemmas.Bool.{and_parts, and_from, lt-ltb, le-leb, ne_eqb}
use Rattle.std.proofs.lemmas.Bool.Decides.{nat_tests}
use Rattle.std.proofs.lemmas.Fmt.{decimal_nonempty, length-decimal-le, digits_decimal, digits_value-decimal}
use Rattle.std.proofs.lemmas.List.Sums.{prefix_len-le-length}
use Rattle.std.proofs.lemmas.Str.Parse.{not_in_digits}
use Rattle.bt_text.specs.Numerals.{is_numeral, numeral}
use Rattle.bt_text.specs.Fraction.{fraction_in}
use Rattle.bt_text.specs.Duration.{duration_text, is_dot, micros_up_to_bound, seconds_text, signed_seconds_text, whole_len}
use Rattle.bt_text.specs.Printed.{PrintedDurationsAreRead}
use Rattle.bt_text.proofs.Digits.{own}
use Rattle.bt_text.proofs.PrintedFractions.{chosen, chosen_read}

-- the first dot, or the end
by_place : (t : List ℕ) → whole_len t ≡ position_or_len is_dot t
by_place t = let within : position_or_len is_dot t ≤ length t = prefix_len-le-length (λ x. not (is_dot x)) t in grind (arith, nat_tests)

not_dot : (c : ℕ) → is_ascii_digit c ≡ true → is_dot c ≡ false
not_dot c digit = grind (arith, nat_tests)

-- no digit is a dot
behind_digits : (ds t : List ℕ) → list_all is_ascii_digit ds ≡ true → position_or_len is_dot t ≡ 0 → position_or_len is_dot (ds ++ t) ≡ length ds
behind_digits [] t digits e = e
behind_digits (c ∷ ds) t digits e =
    let parts = and_parts (is_ascii_digit c) (list_all is_ascii_digit ds) digits in
    let rest : position_or_len is_dot (ds ++ t) ≡ length ds = behind_digits ds t parts.1 e in
    rw (not_dot c parts.0, rest) (omega arith)

numeral_read : (n : ℕ) → n < 10 ^ 12 → numeral 12 (decimal n) ≡ Some n
numeral_read n small =
    let fits : n < 2 ^ 64 = omega arith in
    let is : is_numeral 12 (decimal n) ≡ true = and_from _ _ (and_from _ _ (lt-ltb 0 (length (decimal n)) (decimal_nonempty n fits)) (le-leb (length (decimal n)) 12 (length-decimal-le 12 n (omega arith) small fits)))
    (digits_decimal own n fits) in
    rw (is, digits_value-decimal own n fits) refl

-- seconds and a fraction, where no dot stands between
seconds_by_parts : (s nanos n : ℕ) (t : List ℕ) → s < 10 ^ 12 → position_or_len is_dot t ≡ 0 → fraction_in t ≡ Some nanos → micros_up_to_bound s nanos ≡ Some n → seconds_text (decimal s ++ t) ≡ Some n
unfolding seconds_text
seconds_by_parts s nanos n t small no_digit fraction bounded =
    let fits : s < 2 ^ 64 = omega arith in
    let place : whole_len (decimal s ++ t) ≡ length (decimal s) = by_place (decimal s ++ t) ∙ behind_digits (decimal s) t (digits_decimal own s fits) no_digit in
    rw (place, take-append_seam (decimal s) t, drop-append_seam (decimal s) t, numeral_read s small, fraction) bounded

bounded_read : (n s u : ℕ) → s ≡ n / 1000000 → u ≡ n % 1000000 → n ≤ 315576000000 * 1000000 → micros_up_to_bound s (u * 1000) ≡ Some n
bounded_read n s u whole part most =
    let sum : s * 1000000000 + u * 1000 ≡ n * 1000 = omega arith in
    let least : n * 1000 ≤ 315576000000 * 1000000000 = omega arith in
    let back : n * 1000 / 1000 ≡ n = omega arith in
    rw (sum, le-leb (n * 1000) (315576000000 * 1000000000) least, back) refl

seconds_read : (none three : Bool) (n s u : ℕ) → (u == 0) ≡ none → (u % 1000 == 0) ≡ three → s ≡ n / 1000000 → u ≡ n % 1000000 → n ≤ 315576000000 * 1000000
    → seconds_text (decimal s ++ chosen none three u) ≡ Some n
seconds_read true three n s u is_none is_three whole part most = seconds_by_parts s (u * 1000) n [] (omega arith) refl (chosen_read true three u is_none is_three (omega arith)) (bounded_read n s u whole part most)
seconds_read false true n s u is_none is_three whole part most = seconds_by_parts s (u * 1000) n (chosen false true u) (omega arith) refl (chosen_read false true u is_none is_three (omega arith)) (bounded_read n s u whole part most)
seconds_read false false n s u is_none is_three whole part most = seconds_by_parts s (u * 1000) n (chosen false false u) (omega arith) refl (chosen_read false false u is_none is_three (omega arith)) (bounded_read n s u whole part most)

-- a decimal does not begin with a minus
no_minus : (s : ℕ) (t : List ℕ) → s < 10 ^ 12 → starts_with_minus (decimal s ++ t) ≡ false
no_minus s t small =
    let fits : s < 2 ^ 64 = omega arith in
    let some : 0 < length (decimal s) = decimal_nonempty s fits in
    rw (get_or-append (decimal s) t 0 0 some) (ne_eqb _ 45 (not_in_digits own (decimal s) 45 (digits_decimal own s fits) (λ r. omega arith) 0 some))

signed_read : (s n : ℕ) (t : List ℕ) → s < 10 ^ 12 → seconds_text (decimal s ++ t) ≡ Some n → signed_seconds_text (decimal s ++ t) ≡ Some (pos n)
signed_read s n t small read = rw (no_minus s t small, read) refl

-- an `s` at the end is taken off
before_s : (t : List ℕ) → duration_text (t ++ 115 ∷ []) ≡ signed_seconds_text t
before_s t =
    let last : length (t ++ 115 ∷ []) - 1 ≡ length t = simp length-append (omega arith) in
    rw (last, get_or-append_seam t 115 [] 0, take-append_seam t (115 ∷ [])) refl

pub printed_durations_are_read : PrintedDurationsAreRead
printed_durations_are_read n most =
    before_s (decimal (n / 1000000) ++ chosen (n % 1000000 == 0) (n % 1000000 % 1000 == 0) (n % 1000000))
    ∙ signed_read (n / 1000000) n (chosen (n % 1000000 == 0) (n % 1000000 % 1000 == 0) (n % 1000000)) (omega arith)
    (seconds_read (n % 1000000 == 0) (n % 1000000 % 1000 == 0) n (n / 1000000) (n % 1000000) refl refl refl refl most)
