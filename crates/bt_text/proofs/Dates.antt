-- Dates and days, by what `jiff_core` proves of them.
use Rattle.std.proofs.Common.{◌≡◌, ℕ, ◌+◌, ◌≤◌, true, Some, refl, sym, ap, arith, pos, ◌+ℤ◌, ◌≤ℤ◌, unsigned_abs}
use Rattle.std.proofs.lemmas.Bool.{le-leb}
use Rattle.std.proofs.lemmas.Int.{by_lt_z}
use Rattle.std.specs.Int.{IsInRange}
use Rattle.jiff_core.specs.Calendar.{IsYear, day_count, days_from_civil, days_in_month}
use Rattle.jiff_core.specs.Date.{IsYmd, epoch_day}
use Rattle.jiff_core.specs.declared.civil.date.Date.{Date}
use Rattle.jiff_core.proofs.CalendarLemmas.{day_count-end, day_count-epoch, day_count-lt_year, days_from_civil-day_count}
use Rattle.jiff_core.proofs.MarchLemmas.{day_count-early}
use Rattle.jiff_core.proofs.SignedLemmas.{one_part, signed_arith, unsigned_abs-parts}
use Rattle.bt_text.specs.Calendar.{YearsBegin, day_number, days_before, is_date}

-- the days since the year 0, of those since the year -10000
counted : (y m d : ℕ) → 3652425 ≤ day_count (pos y) m d → days_before y m d + 3652425 ≡ day_count (pos y) m d
counted y m d from =
    let z = days_from_civil (pos y) m d +ℤ pos 719528 in
    omega (arith, signed_arith, unsigned_abs-parts z, one_part z, days_from_civil-day_count (pos y) m d)

year_1 : day_count (pos 1) 1 1 ≡ 3652791
year_1 = day_count-early (pos 1) 10000 1 1 refl (omega arith) (omega arith) (omega arith)

pub years_begin : YearsBegin
years_begin =
    let first = counted 1 1 1 (omega (arith, year_1)) in
    let middle = counted 1970 1 1 (omega (arith, day_count-epoch)) in
    let last = counted 10000 1 1 (omega (arith, day_count-end)) in
    (omega (arith, first, year_1), omega (arith, middle, day_count-epoch), omega (arith, last, day_count-end))

has_date : (y m d : ℕ) → IsYear (pos y) → IsInRange 1 12 m → IsInRange 1 (days_in_month (pos y) m) d → is_date y m d ≡ true
has_date y m d year month day =
    let small : y ≤ 9999 = omega (arith, signed_arith, year.1) in
    rw (le-leb y 9999 small, le-leb 1 m month.0, le-leb m 12 month.1, le-leb 1 d day.0, le-leb d (days_in_month (pos y) m) day.1) refl

-- the day of a date of `jiff`
pub is_day : (y m d n : ℕ) (date : Date) → IsYmd (pos y) (pos m) (pos d) date → n ≡ unsigned_abs (epoch_day date +ℤ pos 719528) → Some n ≡ day_number y m d
is_day y m d n date ymd e =
    let same : date.year ≡ pos y = ymd.0 in
    let month : date.month ≡ m = omega (arith, signed_arith, ymd.1) in
    let day : date.day ≡ d = omega (arith, signed_arith, ymd.2) in
    let has : is_date y m d ≡ true = has_date y m d (rw same at date.year_in) (rw month at date.month_in) (rw (same, month, day) at date.day_in) in
    let number : n ≡ days_before y m d = rw (same, month, day) at e in
    rw has (ap Some number)

-- a day from 1970 on, and its date of `jiff`
pub from_1970 : (date : Date) (n : ℕ) → epoch_day date ≡ pos n → day_number (unsigned_abs date.year) date.month date.day ≡ Some (719528 + n)
from_1970 date n e =
    let later : pos 1970 ≤ℤ date.year = by_lt_z date.year (pos 1970)
    (λ lt. absurd (omega (arith, signed_arith, e, day_count-epoch, days_from_civil-day_count date.year date.month date.day, day_count-lt_year date.year date.month date.day (pos 1970) 1 1 (date.year_in, date.month_in, date.day_in) (omega arith) lt)))
    (λ le. le) in
    let year : date.year ≡ pos (unsigned_abs date.year) = omega (arith, signed_arith, later, one_part date.year, unsigned_abs-parts date.year) in
    let number : 719528 + n ≡ unsigned_abs (epoch_day date +ℤ pos 719528) = rw e (omega arith) in
    sym (is_day (unsigned_abs date.year) date.month date.day (719528 + n) date (year, refl, refl) number)
