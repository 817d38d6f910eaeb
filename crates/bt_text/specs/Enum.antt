-- JSON fields of an enum, as the protobuf documentation, "ProtoJSON Format", reads them.
use Rattle.std.specs.Prelude.{ℕ, ◌^◌, nat_lt, List, length, bytes_eq, position, if◌then◌else◌, Option, Some, None, ℤ, pos, negsuc}
use Rattle.serde_json.specs.Data.{Data}
use Rattle.serde_json.specs.Find.{as_str}
use Rattle.bt_text.specs.Int32.{int32_in}
use Rattle.bt_text.specs.Names.{listed}
use Rattle.bt_text.specs.Numerals.{◌>>=◌}

-- a place that fits an unsigned word of 32 bits
abbrev pub as_place : ℕ → Option ℕ
as_place n = if nat_lt n (2 ^ 32) then Some n else None

-- the place of a name in a list
abbrev pub place_of_name : List (List ℕ) → List ℕ → Option ℕ
place_of_name names t = position (λ n. bytes_eq n t) names >>= as_place

-- a number that is a place in a list
abbrev pub place_of_number : List (List ℕ) → ℤ → Option ℕ
place_of_number names (pos n) = if nat_lt n (length names) then Some n else None
place_of_number names (negsuc n) = None

-- the first that there is
abbrev first_of_two : Option ℕ → Option ℕ → Option ℕ
first_of_two (Some n) other = Some n
first_of_two None other = other

-- the place that a value tells in a list joined by commas: that of the name, or else the number itself
abbrev pub enum_in : List ℕ → Data → Option ℕ
enum_in names d = first_of_two (as_str d >>= place_of_name (listed names)) (int32_in d >>= place_of_number (listed names))
