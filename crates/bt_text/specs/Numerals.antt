-- Decimal numbers in a text.
use Rattle.std.specs.Prelude.{ℕ, ◌==◌, ◌&&◌, Bool, nat_lt, nat_le, List, length, take, drop, if◌then◌else◌, Option, Some, None}
use Rattle.std.specs.Char.{is_ascii_digit}
use Rattle.std.specs.List.{list_all}
use Rattle.std.specs.Str.Parse.{digits_value}

-- what follows, where there is a value to go on with
infixl 10 ◌>>=◌
abbrev pub ◌>>=◌ : {A B : Type 0} → Option A → (A → Option B) → Option B
None >>= f = None
(Some x) >>= f = f x

-- at least one and at most so many decimal digits
abbrev pub is_numeral : ℕ → List ℕ → Bool
is_numeral most ds = nat_lt 0 (length ds) && nat_le (length ds) most && list_all is_ascii_digit ds

-- the number that they write
abbrev pub numeral : ℕ → List ℕ → Option ℕ
numeral most ds = if is_numeral most ds then Some (digits_value 10 ds) else None

-- exactly so many decimal digits
abbrev pub are_digits : ℕ → List ℕ → Bool
are_digits count ds = (length ds == count) && list_all is_ascii_digit ds

-- the number that exactly so many digits write
abbrev pub exact_numeral : ℕ → List ℕ → Option ℕ
exact_numeral count ds = if are_digits count ds then Some (digits_value 10 ds) else None

-- the number that so many digits at a place of a text write
abbrev pub field : ℕ → ℕ → List ℕ → Option ℕ
field place count t = exact_numeral count (take count (drop place t))

-- a number from low to high
abbrev pub between : ℕ → ℕ → ℕ → Option ℕ
between low high n = if nat_le low n && nat_le n high then Some n else None

-- the number from low to high that two digits at a place write
abbrev pub two_digits : ℕ → ℕ → ℕ → List ℕ → Option ℕ
two_digits place low high t = field place 2 t >>= between low high
