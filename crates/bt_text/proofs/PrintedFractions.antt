-- A fraction that is printed is read as so many nanoseconds.
use Rattle.std.proofs.Common.{◌≡◌, ℕ, ◌*◌, ◌/◌, ◌%◌, ◌==◌, ◌<◌, List, [], ◌∷◌, ◌++◌, true, false, Bool, cond, Some, refl, arith}
use Rattle.std.proofs.lemmas.Bool.{eqb-true}
use Rattle.bt_text.specs.Fraction.{fraction_in}
use Rattle.bt_text.specs.Printed.{three_places}
use Rattle.bt_text.proofs.PrintedFields.{three_read, six_read}

-- by whether there is none, and whether three digits say it
abbrev pub chosen : Bool → Bool → ℕ → List ℕ
chosen none three n = cond none [] (cond three (46 ∷ three_places (n / 1000)) (46 ∷ three_places (n / 1000) ++ three_places (n % 1000)))

pub chosen_read : (none three : Bool) (n : ℕ) → (n == 0) ≡ none → (n % 1000 == 0) ≡ three → n < 1000000 → fraction_in (chosen none three n) ≡ Some (n * 1000)
chosen_read true three n is_none is_three small = let zero_micros : n ≡ 0 = eqb-true n 0 is_none in rw zero_micros refl
chosen_read false true n is_none is_three small =
    let thousands : n % 1000 ≡ 0 = eqb-true (n % 1000) 0 is_three in
    let whole : n / 1000 * 1000000 ≡ n * 1000 = omega arith in
    rw (three_read (n / 1000) (omega arith), whole) refl
chosen_read false false n is_none is_three small = rw (six_read n small) refl
