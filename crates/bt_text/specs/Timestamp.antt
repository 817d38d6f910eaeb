-- JSON fields of the type Timestamp: RFC 3339, section 5.6, as the protobuf documentation, "ProtoJSON Format", has it.
use Rattle.std.specs.Prelude.{ℕ, ◌+◌, ◌-◌, ◌*◌, ◌/◌, ◌==◌, ◌&&◌, ◌||◌, Bool, nat_lt, nat_le, List, length, take, drop, slice_index, if◌then◌else◌, Option, Some, None, ℤ, pos, ◌-ℤ◌}
use Rattle.serde_json.specs.Data.{Data}
use Rattle.serde_json.specs.Find.{as_str}
use Rattle.bt_text.specs.Calendar.{day_number}
use Rattle.bt_text.specs.Fraction.{fraction_in}
use Rattle.bt_text.specs.Numerals.{◌>>=◌, field, two_digits}
use Rattle.bt_text.specs.declared.timestamp.Offset.{Offset}
use Rattle.bt_text.specs.declared.timestamp.Offset.TheVariants.{East, West}

-- the marks of `YYYY-MM-DDThh:mm:ss`; `t` will do for `T`
abbrev pub has_marks : List ℕ → Bool
has_marks t = (slice_index t 4 == 45) && (slice_index t 7 == 45) && ((slice_index t 10 == 84) || (slice_index t 10 == 116)) && (slice_index t 13 == 58) && (slice_index t 16 == 58)

-- the days from the year 0 to the date `YYYY-MM-DD`
unfoldable pub days_text : List ℕ → Option ℕ
days_text t = do
  year ← field 0 4 t
  month ← field 5 2 t
  day ← field 8 2 t
  day_number year month day

-- the seconds of the time of day `hh:mm:ss` from place 11 on
unfoldable pub clock_text : List ℕ → Option ℕ
clock_text t = do
  hour ← two_digits 11 0 23 t
  minute ← two_digits 14 0 59 t
  second ← two_digits 17 0 59 t
  Some ((hour * 60 + minute) * 60 + second)

-- the seconds from the year 0 to the date and time of day, as a clock there shows them
unfoldable pub local_text : List ℕ → Option ℕ
local_text t = do
  days ← days_text t
  seconds ← clock_text t
  if has_marks t then Some (days * 86400 + seconds) else None

-- an offset by its sign: ahead of UTC, or behind it
abbrev pub signed_offset : ℕ → ℕ → Option Offset
signed_offset sign seconds = if sign == 43 then Some (East seconds) else (if sign == 45 then Some (West seconds) else None)

-- the offset `+hh:mm` or `-hh:mm`
unfoldable pub numeric_offset : List ℕ → Option Offset
numeric_offset t = do
  hour ← two_digits 1 0 23 t
  minute ← two_digits 4 0 59 t
  if (length t == 6) && (slice_index t 3 == 58) then signed_offset (slice_index t 0) ((hour * 60 + minute) * 60) else None

-- `Z` or `z`
abbrev pub is_zulu : ℕ → Bool
is_zulu c = (c == 90) || (c == 122)

-- how many bytes at the end of a text tell its offset: one for `Z`, and else six
abbrev pub zone_len : List ℕ → ℕ
zone_len t = if is_zulu (slice_index t (length t - 1)) then 1 else 6

-- what those bytes tell
abbrev pub offset_text : List ℕ → Option Offset
offset_text t = if (length t == 1) && is_zulu (slice_index t 0) then Some (East 0) else numeric_offset t

-- seconds in UTC, of those that a clock with that offset shows; before the year 0 they stop at 0, which is in none of the years below
abbrev pub in_utc : ℕ → Offset → ℕ
in_utc seconds (East ahead) = seconds - ahead
in_utc seconds (West behind) = seconds + behind

-- seconds from the year 0 that lie in the years 1 to 9999, which begin after 366 and end after 3,652,425 days
abbrev pub in_years : ℕ → Option ℕ
in_years seconds = if nat_le (366 * 86400) seconds && nat_lt seconds (3652425 * 86400) then Some seconds else None

-- whole microseconds since 1970, which begins after 719,528 days
abbrev pub since_1970 : ℕ → ℕ → ℤ
since_1970 seconds nanos = pos (seconds * 1000000 + nanos / 1000) -ℤ pos (719528 * 86400 * 1000000)

-- where the offset begins
abbrev pub zone_place : List ℕ → ℕ
zone_place t = length t - zone_len t

-- the microseconds since 1970 that local seconds, an optional fraction and an offset tell
unfoldable pub instant_text : ℕ → List ℕ → Option ℤ
instant_text shown t = do
  nanos ← fraction_in (take (zone_place t) t)
  offset ← offset_text (drop (zone_place t) t)
  seconds ← in_years (in_utc shown offset)
  Some (since_1970 seconds nanos)

-- the same of a whole text
unfoldable pub timestamp_text : List ℕ → Option ℤ
timestamp_text t = do
  shown ← local_text t
  instant_text shown (drop 19 t)

-- those of a string's text
abbrev pub timestamp_in : Data → Option ℤ
timestamp_in d = as_str d >>= timestamp_text
