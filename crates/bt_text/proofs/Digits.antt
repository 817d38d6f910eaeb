-- The number that digits write.
use Rattle.std.proofs.Common.{◌≡◌, ℕ, ◌+◌, ◌-◌, ◌*◌, ◌^◌, ◌<◌, ◌≤◌, List, [], ◌∷◌, length, drop, get_or, suc, true, arith, rules, ap, sym, ◌∙◌, drop-cons}
use Rattle.std.specs.List.{list_all}
use Rattle.std.specs.Char.{digit_value, is_ascii_digit}
use Rattle.std.specs.Str.Parse.{digits_value, digits_value_after}
use Rattle.std.proofs.lemmas.Bool.Decides.{nat_tests}
use Rattle.std.proofs.lemmas.Str.Parse.{IsDigitsTest, IsNumeralModel, numerals_by_value, digits_value_short}

-- further digits make no number smaller
pub le_after : (n : ℕ) (ds : List ℕ) → n ≤ digits_value_after 10 n ds
le_after n [] = omega arith
le_after n (c ∷ cs) =
    let more : n * 10 + digit_value c ≤ digits_value_after 10 (n * 10 + digit_value c) cs = le_after (n * 10 + digit_value c) cs in
    omega arith

tells : IsDigitsTest (λ ds. list_all is_ascii_digit ds ≡ true)
tells = search rules

-- these digits and their value are those of std's lemmas
pub own : IsNumeralModel (λ ds. list_all is_ascii_digit ds ≡ true) (digits_value 10)
own = numerals_by_value _ tells

-- 19 digits write a number below 10 ^ 19
pub below : (ds : List ℕ) → list_all is_ascii_digit ds ≡ true → length ds ≤ 19 → digits_value 10 ds < 10 ^ 19
below ds h l = digits_value_short own ds 19 h l

first_digit : (c : ℕ) (cs : List ℕ) → list_all is_ascii_digit (c ∷ cs) ≡ true → digit_value c ≡ c - 48
first_digit c cs h = grind (arith, nat_tests)

-- the next digit still leaves a number below 10 ^ 19
pub step : (n i : ℕ) (ds : List ℕ) → i < length ds → length ds ≤ 19 → list_all is_ascii_digit ds ≡ true → list_all is_ascii_digit (drop i ds) ≡ true
    → digits_value_after 10 n (drop i ds) ≡ digits_value 10 ds → n * 10 + (get_or ds i 0 - 48) < 10 ^ 19
step n i ds lt short all left e =
    let cut : drop i ds ≡ get_or ds i 0 ∷ drop (suc i) ds = drop-cons ds i 0 lt in
    let after : n * 10 + digit_value (get_or ds i 0) ≤ digits_value_after 10 n (get_or ds i 0 ∷ drop (suc i) ds) = le_after (n * 10 + digit_value (get_or ds i 0)) (drop (suc i) ds) in
    let whole : digits_value_after 10 n (get_or ds i 0 ∷ drop (suc i) ds) ≡ digits_value 10 ds = sym (ap (digits_value_after 10 n) cut) ∙ e in
    let head : list_all is_ascii_digit (get_or ds i 0 ∷ drop (suc i) ds) ≡ true = sym (ap (list_all is_ascii_digit) cut) ∙ left in
    let digit : digit_value (get_or ds i 0) ≡ get_or ds i 0 - 48 = first_digit (get_or ds i 0) (drop (suc i) ds) head in
    let small : digits_value 10 ds < 10 ^ 19 = below ds all short in
    omega arith
