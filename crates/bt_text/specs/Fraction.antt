-- Fractions of a second.
use Rattle.std.specs.Prelude.{ℕ, ◌-◌, ◌*◌, ◌^◌, ◌==◌, List, [], ◌∷◌, length, if◌then◌else◌, Option, Some, None, option_map}
use Rattle.bt_text.specs.Numerals.{numeral}

-- the nanoseconds that 1 to 9 digits behind a dot write
abbrev pub nanos_of : List ℕ → Option ℕ
nanos_of ds = option_map (λ n. n * 10 ^ (9 - length ds)) (numeral 9 ds)

-- the nanoseconds of an optional fraction: nothing, or `.` and 1 to 9 digits
abbrev pub fraction_in : List ℕ → Option ℕ
fraction_in [] = Some 0
fraction_in (c ∷ ds) = if c == 46 then nanos_of ds else None
