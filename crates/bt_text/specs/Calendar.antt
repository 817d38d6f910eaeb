-- The Gregorian calendar, reckoned back to the year 0, in which RFC 3339 gives dates, in the words of `jiff_core`.
use Rattle.std.specs.Prelude.{◌≡◌, ℕ, ◌&&◌, Bool, nat_le, if◌then◌else◌, Option, Some, None, pos, ◌+ℤ◌, unsigned_abs}
use Rattle.jiff_core.specs.Calendar.{days_from_civil, days_in_month}

-- a date that the calendar has, of the years 0 to 9999
abbrev pub is_date : ℕ → ℕ → ℕ → Bool
is_date year month day = nat_le year 9999 && nat_le 1 month && nat_le month 12 && nat_le 1 day && nat_le day (days_in_month (pos year) month)

-- how many days lie between 1 January of the year 0 and a date: 719,528 more than since 1970
abbrev pub days_before : ℕ → ℕ → ℕ → ℕ
days_before year month day = unsigned_abs (days_from_civil (pos year) month day +ℤ pos 719528)

-- the same, of a date that the calendar has
abbrev pub day_number : ℕ → ℕ → ℕ → Option ℕ
day_number year month day = if is_date year month day then Some (days_before year month day) else None

-- the days before the years 1, 1970 and 10000
abbrev pub YearsBegin : Type 0
YearsBegin = (days_before 1 1 1 ≡ 366) × (days_before 1970 1 1 ≡ 719528) × (days_before 10000 1 1 ≡ 3652425)
