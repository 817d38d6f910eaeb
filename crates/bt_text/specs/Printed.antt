-- How moments and spans of time are printed.
use Rattle.std.specs.Prelude.{◌≡◌, ℕ, ◌+◌, ◌*◌, ◌/◌, ◌%◌, ◌==◌, ◌≤◌, List, [], ◌∷◌, ◌++◌, if◌then◌else◌, Some, pos}
use Rattle.std.specs.Fmt.{decimal}
use Rattle.serde_json.specs.Data.{Data, null, boolean, number, string, array, object}
use Rattle.bt_text.specs.Calendar.{day_number}
use Rattle.bt_text.specs.Duration.{duration_in}
use Rattle.bt_text.specs.Timestamp.{timestamp_in}

-- the last digit of a number
abbrev pub last_digit : ℕ → ℕ
last_digit n = 48 + n % 10

-- the last two, three and four digits
abbrev pub two_places : ℕ → List ℕ
two_places n = last_digit (n / 10) ∷ last_digit n ∷ []

abbrev pub three_places : ℕ → List ℕ
three_places n = last_digit (n / 100) ∷ last_digit (n / 10) ∷ last_digit n ∷ []

abbrev pub four_places : ℕ → List ℕ
four_places n = last_digit (n / 1000) ∷ last_digit (n / 100) ∷ last_digit (n / 10) ∷ last_digit n ∷ []

-- the microseconds of a second as a fraction of none, three or six digits, the shortest that is exact
abbrev pub fraction_printed : ℕ → List ℕ
fraction_printed micros =
    if micros == 0 then []
    else (if micros % 1000 == 0 then 46 ∷ three_places (micros / 1000)
    else 46 ∷ three_places (micros / 1000) ++ three_places (micros % 1000))

-- `SECONDS.FRACTIONs`
abbrev pub duration_printed : ℕ → List ℕ
duration_printed micros = decimal (micros / 1000000) ++ fraction_printed (micros % 1000000) ++ 115 ∷ []

-- `YYYY-MM-DD`
abbrev pub date_printed : ℕ → ℕ → ℕ → List ℕ
date_printed year month day = four_places year ++ 45 ∷ [] ++ two_places month ++ 45 ∷ [] ++ two_places day

-- `hh:mm:ss` of the seconds of a day
abbrev pub clock_printed : ℕ → List ℕ
clock_printed seconds = two_places (seconds / 3600) ++ 58 ∷ [] ++ two_places (seconds / 60 % 60) ++ 58 ∷ [] ++ two_places (seconds % 60)

-- the date of a moment of so many microseconds since 1970, its time of day and its fraction, in UTC
pub record IsMomentPrinted (moment : ℕ) (text : List ℕ) : Type 0 where
  pub year : ℕ
  pub month : ℕ
  pub day : ℕ
  pub number : day_number year month day ≡ Some (719528 + moment / 86400000000)
  pub spelled : text ≡ date_printed year month day ++ 84 ∷ [] ++ clock_printed (moment / 1000000 % 86400) ++ fraction_printed (moment % 1000000) ++ 90 ∷ []

-- a string of such a text
abbrev pub IsMoment : ℕ → Data → Type 0
IsMoment moment null = ⊥
IsMoment moment (boolean b) = ⊥
IsMoment moment (number n) = ⊥
IsMoment moment (string t) = IsMomentPrinted moment t
IsMoment moment (array ds) = ⊥
IsMoment moment (object ms) = ⊥

-- a span that is printed is read as itself, up to the greatest that is read
abbrev pub PrintedDurationsAreRead : Type 0
PrintedDurationsAreRead = (n : ℕ) → n ≤ 315576000000 * 1000000 → duration_in (string (duration_printed n)) ≡ Some (pos n)

-- a moment that is printed is read as itself, up to the end of the year 9999
abbrev pub PrintedMomentsAreRead : Type 0
PrintedMomentsAreRead = (n : ℕ) (d : Data) → n ≤ 253402300799999999 → IsMoment n d → timestamp_in d ≡ Some (pos n)
