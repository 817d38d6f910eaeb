-- Numbers at fixed places of a text.
use Rattle.std.proofs.Common.{◌≡◌, ℕ, ◌+◌, ◌^◌, ◌<◌, ◌≤◌, List, length, take, drop, true, None, arith, length-take, length-drop}
use Rattle.std.specs.List.{list_all}
use Rattle.std.specs.Char.{is_ascii_digit}
use Rattle.std.specs.Str.Parse.{digits_value}
use Rattle.std.proofs.lemmas.Bool.Decides.{nat_tests}
use Rattle.std.proofs.lemmas.Str.Parse.{digits_value_short}
use Rattle.bt_text.specs.Numerals.{field}
use Rattle.bt_text.proofs.Digits.{own}

-- a text that is too short has no number at the place
pub outside : (place count : ℕ) (t : List ℕ) → 0 < count → length t < place + count → field place count t ≡ None
outside place count t some short =
    let less : length (take count (drop place t)) < count = simp (length-take, length-drop) (omega arith) in
    grind (arith, nat_tests)

-- so many digits write a number below that power of ten
pub small : (count : ℕ) (ds : List ℕ) → list_all is_ascii_digit ds ≡ true → length ds ≤ count → digits_value 10 ds < 10 ^ count
small count ds digits short = digits_value_short own ds count digits short
