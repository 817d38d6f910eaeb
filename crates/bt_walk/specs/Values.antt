-- Values that are not walked into.
use Rattle.std.specs.Prelude.{ℕ, ◌==◌, ◌&&◌, ◌||◌, Bool, true, false, not, List, [], codes, bytes_eq, Option, Some, None, is_some, option_and_then, if◌then◌else◌}
use Rattle.serde_json.specs.Data.{Data}
use Rattle.serde_json.specs.Find.{at, as_null, as_str, as_bool, as_number, as_u64, as_array}
use Rattle.bt_text.specs.Bytes.{bytes_in}
use Rattle.bt_text.specs.Duration.{duration_in}
use Rattle.bt_text.specs.Enum.{enum_in}
use Rattle.bt_text.specs.Int32.{int32_in}
use Rattle.bt_text.specs.Int64.{int64_in}
use Rattle.bt_walk.specs.declared.found.Pass.{Pass}
use Rattle.bt_walk.specs.declared.found.Pass.TheVariants.{ForUnsupported, ForBad}
use Rattle.bt_walk.specs.declared.shape.Many.{Many}
use Rattle.bt_walk.specs.declared.shape.Many.TheVariants.{One, List as Listed, Map}
use Rattle.bt_walk.specs.declared.shape.Shape.{Shape}
use Rattle.bt_walk.specs.declared.shape.Shape.TheVariants.{Anything, AnyEnum, Bool as Flag, Bytes, Duration, Enum, Int32, Int64, Of, Text}

-- a value without parts, in the grammar of its shape; an enum's names are those of its list
abbrev pub fits : (ℕ → List ℕ) → Shape → Data → Bool
fits names Anything d = true
fits names AnyEnum d = is_some (as_str d) || is_some (int32_in d)
fits names Flag d = is_some (as_bool d)
fits names Bytes d = is_some (bytes_in d)
fits names Duration d = is_some (duration_in d)
fits names (Enum list) d = is_some (enum_in (names list) d)
fits names Int32 d = is_some (int32_in d)
fits names Int64 d = is_some (int64_in d)
fits names (Of m) d = false
fits names Text d = is_some (as_str d)

-- a value that has no parts of its shape: bad where it is no such value
abbrev pub leaf : (ℕ → List ℕ) → Pass → Many → Shape → List ℕ → Data → Option (List ℕ)
leaf names ForUnsupported many s name d = None
leaf names ForBad One s name d = if fits names s d then None else Some name
leaf names ForBad Listed s name d = Some name
leaf names ForBad Map s name d = Some name

abbrev pub is_null : Data → Bool
is_null d = is_some (as_null d)

abbrev pub is_nought : Option ℕ → Bool
is_nought None = false
is_nought (Some n) = n == 0

abbrev pub is_no : Option Bool → Bool
is_no None = false
is_no (Some b) = not b

abbrev pub is_blank : Option (List ℕ) → Bool
is_blank None = false
is_blank (Some s) = bytes_eq s [] || bytes_eq s (codes "0")

abbrev pub has_nothing : Data → Bool
has_nothing d = is_some (as_array d) && not (is_some (at 0 d))

-- false, 0, "0", "" or []
abbrev pub is_zero : Data → Bool
is_zero d = is_no (as_bool d) || is_nought (option_and_then as_u64 (as_number d)) || is_blank (as_str d) || has_nothing d
