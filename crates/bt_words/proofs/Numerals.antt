-- The number that a count's digits write.
use Rattle.std.proofs.Common.{◌≡◌, ℕ, ◌&&◌, ◌^◌, ◌<◌, ◌≤◌, List, length, Result, Ok, Some, None, true, ap, sym, ◌∙◌, arith, rules}
use Rattle.std.specs.Result.{result_ok}
use Rattle.std.specs.Prelude.{nat_le}
use Rattle.std.specs.List.{list_all}
use Rattle.std.specs.Char.{is_ascii_digit}
use Rattle.std.specs.Str.Parse.{digits_value, ParsesUnsigned}
use Rattle.std.proofs.lemmas.Bool.{and_parts}
use Rattle.std.proofs.lemmas.Bool.Decides.{nat_tests}
use Rattle.std.proofs.lemmas.Str.Parse.{IsDigitsTest, IsNumeralModel, numerals_by_value, digits_value_short, parse_gives}
use Rattle.bt_words.specs.Words.{is_numeral}

tells : IsDigitsTest (λ ds. list_all is_ascii_digit ds ≡ true)
tells = search rules

-- these digits and their value are those of std's lemmas
own : IsNumeralModel (λ ds. list_all is_ascii_digit ds ≡ true) (digits_value 10)
own = numerals_by_value _ tells

record IsShort (word : List ℕ) : Type 0 where
  some : 0 < length word
  few : length word ≤ 7
  digits : list_all is_ascii_digit word ≡ true

short : (word : List ℕ) → is_numeral word ≡ true → IsShort word
short word h =
    let outer = and_parts (nat_le 1 (length word) && nat_le (length word) 7) (list_all is_ascii_digit word) h in
    let inner = and_parts (nat_le 1 (length word)) (nat_le (length word) 7) outer.0 in
    record { some = grind (arith, nat_tests, inner.0); few = grind (arith, nat_tests, inner.1); digits = outer.1 }

-- seven digits write a number that a u32 holds
parsed : {E : Type 0} → (word : List ℕ) (r : Result ℕ E) → ParsesUnsigned 32 10 word r → is_numeral word ≡ true → r ≡ Ok (digits_value 10 word)
parsed word r h numeral =
    let s = short word numeral in
    let below : digits_value 10 word < 10 ^ 7 = digits_value_short own word 7 s.digits s.few in
    parse_gives own 32 word r h s.digits s.some (omega arith)

-- so a numeral is read
pub is_read : {E : Type 0} → (word : List ℕ) (r : Result ℕ E) → ParsesUnsigned 32 10 word r → is_numeral word ≡ true → result_ok r ≡ None → ⊥
is_read word r h numeral none =
    let both : Some (digits_value 10 word) ≡ None = sym (ap result_ok (parsed word r h numeral)) ∙ none in
    absurd cc
