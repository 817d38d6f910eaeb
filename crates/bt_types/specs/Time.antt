-- Which numbers are timestamps.
use Rattle.std.specs.Prelude.{ℕ, ◌&&◌, ◌==◌, ◌^◌, ◌%◌, Bool, nat_lt, if◌then◌else◌, Option, Some, None, ℤ, pos, negsuc}

-- whole milliseconds that fit a signed word
abbrev pub is_micros : ℕ → Bool
is_micros n = (n % 1000 == 0) && nat_lt n (2 ^ 63)

abbrev pub micros_of : ℤ → Option ℕ
micros_of (pos n) = if n % 1000 == 0 then Some n else None
micros_of (negsuc n) = None
