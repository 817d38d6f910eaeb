-- JSON fields of the type int64, as the protobuf documentation, "ProtoJSON Format", reads them.
use Rattle.std.specs.Prelude.{◌≡◌, ℕ, ◌^◌, Bool, nat_lt, nat_le, List, drop, if◌then◌else◌, Option, Some, None, option_and_then, ℤ, pos, neg_ℤ, FitsSigned}
use Rattle.std.specs.Int.{w64}
use Rattle.std.specs.Fmt.{signed_decimal}
use Rattle.std.specs.Str.Parse.{starts_with_minus}
use Rattle.serde_json.specs.Data.{Data, string}
use Rattle.serde_json.specs.Find.{as_str, as_number, as_i64}
use Rattle.bt_text.specs.Numerals.{is_numeral, numeral}

-- 1 to 19 decimal digits
abbrev pub is_digits : List ℕ → Bool
is_digits ds = is_numeral 19 ds

-- the number that they write
abbrev pub digits_of : List ℕ → Option ℕ
digits_of ds = numeral 19 ds

-- the number itself, where it fits a signed word of 64 bits
abbrev pub positive : ℕ → Option ℤ
positive n = if nat_lt n (2 ^ 63) then Some (pos n) else None

-- its negative, where that fits
abbrev pub negative : ℕ → Option ℤ
negative n = if nat_le n (2 ^ 63) then Some (neg_ℤ (pos n)) else None

-- the number that an optional minus and digits write
abbrev pub int64_text : List ℕ → Option ℤ
int64_text t =
    if starts_with_minus t then option_and_then negative (digits_of (drop 1 t))
    else option_and_then positive (digits_of t)

-- that of a string's text, or else of a JSON number
abbrev or_number : Option (List ℕ) → Data → Option ℤ
or_number (Some t) d = int64_text t
or_number None d = option_and_then as_i64 (as_number d)

-- the number of a string of digits, or of a JSON number with no fraction and no exponent (`-0` is none)
abbrev pub int64_in : Data → Option ℤ
int64_in d = or_number (as_str d) d

-- the decimal of a signed word of 64 bits, as a string, is that number
abbrev pub PrintedNumbersAreRead : Type 0
PrintedNumbersAreRead = (z : ℤ) → FitsSigned w64 z → int64_in (string (signed_decimal z)) ≡ Some z
