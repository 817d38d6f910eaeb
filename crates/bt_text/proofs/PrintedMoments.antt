-- A moment that is printed is read as itself.
use Rattle.std.proofs.Common.{◌≡◌, ℕ, ◌+◌, ◌-◌, ◌*◌, ◌/◌, ◌%◌, ◌==◌, ◌<◌, ◌≤◌, List, [], ◌∷◌, ◌++◌, take, drop, true, false, Bool, Some, pos, refl, ap, ◌∙◌, arith}
use Rattle.std.proofs.lemmas.Int.{ints}
use Rattle.std.proofs.lemmas.Bool.{le-leb, lt-ltb}
use Rattle.std.proofs.lemmas.Bool.Decides.{nat_tests}
use Rattle.serde_json.specs.Data.{null, boolean, number, string, array, object}
use Rattle.jiff_core.proofs.CalendarLemmas.{days_in_month_bounds}
use Rattle.bt_text.specs.Calendar.{day_number}
use Rattle.bt_text.specs.Fraction.{fraction_in}
use Rattle.bt_text.specs.Printed.{PrintedMomentsAreRead, clock_printed, date_printed, fraction_printed}
use Rattle.bt_text.specs.Timestamp.{clock_text, days_text, in_years, instant_text, local_text, offset_text, since_1970, timestamp_text, zone_place}
use Rattle.bt_text.specs.declared.timestamp.Offset.TheVariants.{East}
use Rattle.bt_text.proofs.PrintedFields.{two_read, four_read}
use Rattle.bt_text.proofs.PrintedFractions.{chosen, chosen_read}

-- the first nineteen bytes
abbrev front : ℕ → ℕ → ℕ → ℕ → List ℕ
front y m d s = date_printed y m d ++ 84 ∷ [] ++ clock_printed s

-- the numbers of a date have their places
in_places : (y m d n : ℕ) → day_number y m d ≡ Some n → (y < 10000) × (m < 100) × (d < 100)
in_places y m d n h = grind (arith, nat_tests, days_in_month_bounds (pos y) m)

days_read : (y m d n s : ℕ) (rest : List ℕ) → day_number y m d ≡ Some n → days_text (front y m d s ++ rest) ≡ Some n
unfolding days_text
days_read y m d n s rest h =
    let places = in_places y m d n h in
    rw (four_read y places.0, two_read m places.1, two_read d places.2) h

clock_read : (y m d s : ℕ) (rest : List ℕ) → s < 86400 → clock_text (front y m d s ++ rest) ≡ Some s
unfolding clock_text
clock_read y m d s rest small =
    let hours : s / 3600 ≤ 23 = omega arith in
    let minutes : s / 60 % 60 ≤ 59 = omega arith in
    let seconds : s % 60 ≤ 59 = omega arith in
    let whole : (s / 3600 * 60 + s / 60 % 60) * 60 + s % 60 ≡ s = omega arith in
    rw (two_read (s / 3600) (omega arith), le-leb 0 (s / 3600) (omega arith), le-leb (s / 3600) 23 hours, two_read (s / 60 % 60) (omega arith), le-leb 0 (s / 60 % 60) (omega arith), le-leb (s / 60 % 60) 59 minutes, two_read (s % 60) (omega arith), le-leb 0 (s % 60) (omega arith), le-leb (s % 60) 59 seconds, whole) refl

local_read : (y m d n s : ℕ) (rest : List ℕ) → day_number y m d ≡ Some n → s < 86400 → local_text (front y m d s ++ rest) ≡ Some (n * 86400 + s)
unfolding local_text
local_read y m d n s rest dated below = rw (days_read y m d n s rest dated, clock_read y m d s rest below) refl

years_read : (s : ℕ) → 366 * 86400 ≤ s → s < 3652425 * 86400 → in_years s ≡ Some s
years_read s from to = rw (le-leb (366 * 86400) s from, lt-ltb s (3652425 * 86400) to) refl

-- what stands behind the seconds, by its parts
instant_by_parts : (shown nanos : ℕ) (t : List ℕ) → fraction_in (take (zone_place t) t) ≡ Some nanos → offset_text (drop (zone_place t) t) ≡ Some (East 0)
    → 366 * 86400 ≤ shown → shown < 3652425 * 86400 → instant_text shown t ≡ Some (since_1970 shown nanos)
unfolding instant_text
instant_by_parts shown nanos t fraction offset from to =
    let same : shown - 0 ≡ shown = omega arith in
    rw (fraction, offset, same, years_read shown from to) refl

instant_read : (none three : Bool) (shown n : ℕ) → (n == 0) ≡ none → (n % 1000 == 0) ≡ three → n < 1000000 → 366 * 86400 ≤ shown → shown < 3652425 * 86400
    → instant_text shown (chosen none three n ++ 90 ∷ []) ≡ Some (since_1970 shown (n * 1000))
instant_read true three shown n is_none is_three small from to = instant_by_parts shown (n * 1000) (90 ∷ []) (chosen_read true three n is_none is_three small) refl from to
instant_read false true shown n is_none is_three small from to = instant_by_parts shown (n * 1000) (chosen false true n ++ 90 ∷ []) (chosen_read false true n is_none is_three small) refl from to
instant_read false false shown n is_none is_three small from to = instant_by_parts shown (n * 1000) (chosen false false n ++ 90 ∷ []) (chosen_read false false n is_none is_three small) refl from to

whole_text : (y m d n s u : ℕ) → day_number y m d ≡ Some n → s < 86400 → u < 1000000 → 366 ≤ n → n < 3652425
    → timestamp_text (front y m d s ++ fraction_printed u ++ 90 ∷ []) ≡ Some (since_1970 (n * 86400 + s) (u * 1000))
unfolding timestamp_text
whole_text y m d n s u dated below fraction from to =
    rw (local_read y m d n s (fraction_printed u ++ 90 ∷ []) dated below)
    (instant_read (u == 0) (u % 1000 == 0) (n * 86400 + s) u refl refl fraction (omega arith) (omega arith))

counted : (n u : ℕ) → u ≡ n % 1000000 → since_1970 ((719528 + n / 86400000000) * 86400 + n / 1000000 % 86400) (u * 1000) ≡ pos n
counted n u e = omega (arith, ints)

pub printed_moments_are_read : PrintedMomentsAreRead
printed_moments_are_read n null small h = absurd h
printed_moments_are_read n (boolean b) small h = absurd h
printed_moments_are_read n (number x) small h = absurd h
printed_moments_are_read n (string t) small h =
    let read = whole_text h.year h.month h.day (719528 + n / 86400000000) (n / 1000000 % 86400) (n % 1000000) h.number (omega arith) (omega arith) (omega arith) (omega arith) in
    ap timestamp_text h.spelled ∙ read ∙ ap Some (counted n (n % 1000000) refl)
printed_moments_are_read n (array ds) small h = absurd h
printed_moments_are_read n (object ms) small h = absurd h
