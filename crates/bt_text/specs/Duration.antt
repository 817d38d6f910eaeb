-- JSON fields of the type Duration, as the protobuf documentation, "ProtoJSON Format", reads them.
use Rattle.std.specs.Prelude.{ℕ, ◌+◌, ◌-◌, ◌*◌, ◌/◌, ◌==◌, Bool, nat_le, List, length, take, drop, slice_index, if◌then◌else◌, Option, Some, None, option_map, unwrap_or, position, ℤ, pos, neg_ℤ}
use Rattle.std.specs.Str.Parse.{starts_with_minus}
use Rattle.serde_json.specs.Data.{Data}
use Rattle.serde_json.specs.Find.{as_str}
use Rattle.bt_text.specs.Fraction.{fraction_in}
use Rattle.bt_text.specs.Numerals.{◌>>=◌, numeral}

-- `.`
abbrev pub is_dot : ℕ → Bool
is_dot c = c == 46

-- how many bytes stand before the first dot, or in all
abbrev pub whole_len : List ℕ → ℕ
whole_len t = unwrap_or (position is_dot t) (length t)

-- the whole microseconds of so many seconds and nanoseconds, of at most 315,576,000,000 seconds
abbrev pub micros_up_to_bound : ℕ → ℕ → Option ℕ
micros_up_to_bound seconds nanos = if nat_le (seconds * 1000000000 + nanos) (315576000000 * 1000000000) then Some ((seconds * 1000000000 + nanos) / 1000) else None

-- the microseconds of 1 to 12 digits of seconds and an optional fraction
unfoldable pub seconds_text : List ℕ → Option ℕ
seconds_text t = do
  seconds ← numeral 12 (take (whole_len t) t)
  nanos ← fraction_in (drop (whole_len t) t)
  micros_up_to_bound seconds nanos

-- the same behind an optional minus
abbrev pub signed_seconds_text : List ℕ → Option ℤ
signed_seconds_text t =
    if starts_with_minus t then option_map (λ n. neg_ℤ (pos n)) (seconds_text (drop 1 t))
    else option_map pos (seconds_text t)

-- the same before an `s`
abbrev pub duration_text : List ℕ → Option ℤ
duration_text t = if slice_index t (length t - 1) == 115 then signed_seconds_text (take (length t - 1) t) else None

-- the microseconds of a string's text
abbrev pub duration_in : Data → Option ℤ
duration_in d = as_str d >>= duration_text
