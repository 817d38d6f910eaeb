-- Whether a member of an object is itself what the walk looks for.
use Rattle.std.specs.Prelude.{ℕ, ◌==◌, ◌&&◌, ◌||◌, Bool, true, false, not, List, [], ◌∷◌, bytes_eq, Option, Some, None}
use Rattle.std.specs.Ordering.{nat_cmp, is_lt}
use Rattle.std.specs.Cmp.Lexicographic.{slice_cmp}
use Rattle.serde_json.specs.Data.{Data}
use Rattle.serde_json.specs.Find.{get}
use Rattle.bt_walk.specs.Shapes.{Field}
use Rattle.bt_walk.specs.Values.{fits, is_null, is_zero}
use Rattle.bt_walk.specs.declared.found.Pass.{Pass}
use Rattle.bt_walk.specs.declared.found.Pass.TheVariants.{ForUnsupported, ForBad}
use Rattle.bt_walk.specs.declared.shape.Shape.{Shape}
use Rattle.bt_walk.specs.declared.shape.Shape.TheVariants.{Enum}
use Rattle.bt_walk.specs.declared.shape.Support.{Support}
use Rattle.bt_walk.specs.declared.shape.Support.TheVariants.{Full, UnlessZero, UnlessNull, Only}

-- a value that counts as none
abbrev pub is_absent : Support → Data → Bool
is_absent Full d = is_null d
is_absent UnlessZero d = is_null d || is_zero d
is_absent UnlessNull d = is_null d
is_absent (Only list) d = is_null d

-- of an enum, those values are not supported that are missing in its shorter list
abbrev pub is_denied : (ℕ → List ℕ) → Support → Shape → Data → Bool
is_denied names Full s d = false
is_denied names UnlessZero s d = true
is_denied names UnlessNull s d = true
is_denied names (Only list) s d = fits names s d && not (fits names (Enum list) d)

abbrev pub is_unsupported : (ℕ → List ℕ) → Field → Data → Bool
is_unsupported names f d = is_denied names f.support f.shape d

-- present, with a value that counts
abbrev pub is_there : Support → Option Data → Bool
is_there u None = false
is_there u (Some d) = not (is_absent u d)

-- by its JSON name
abbrev pub is_plain : Data → Field → Bool
is_plain whole f = is_there f.support (get f.name whole)

-- by its original name, where that is another
abbrev pub is_renamed : Data → Field → Bool
is_renamed whole f = not (bytes_eq f.original f.name) && is_there f.support (get f.original whole)

abbrev pub is_set : Data → Field → Bool
is_set whole f = is_plain whole f || is_renamed whole f

-- in byte order
abbrev pub is_before : List ℕ → List ℕ → Bool
is_before a b = is_lt (slice_cmp nat_cmp a b)

-- another of that oneof is set, whose name is less
abbrev pub has_choice : Data → ℕ → List ℕ → List Field → Bool
has_choice whole choice name [] = false
has_choice whole choice name (g ∷ gs) = ((g.choice == choice) && is_before g.name name && is_set whole g) || has_choice whole choice name gs

-- set by both its names, or as a later one of its oneof
abbrev pub is_too_many : Data → List Field → Field → Bool
is_too_many whole fields f = (is_plain whole f && is_renamed whole f) || (not (f.choice == 0) && has_choice whole f.choice f.name fields)

-- a member of an object, with the value that it has there
abbrev pub is_wrong : (ℕ → List ℕ) → Pass → Data → List Field → Field → Data → Bool
is_wrong names ForUnsupported whole fields f d = is_unsupported names f d
is_wrong names ForBad whole fields f d = is_too_many whole fields f
