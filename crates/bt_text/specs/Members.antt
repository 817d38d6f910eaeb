-- The members of JSON objects, as the protobuf documentation, "ProtoJSON Format", reads them: by the names of a message's fields.
use Rattle.std.specs.Prelude.{ℕ, ◌≡◌, Bool, false, not, ◌&&◌, ◌||◌, List, bytes_eq, if◌then◌else◌, Option, Some, None, Result, Ok, Err, is_some}
use Rattle.std.specs.List.{list_any}
use Rattle.serde_json.specs.Data.{Data, Members, no_members, member}
use Rattle.serde_json.specs.Find.{as_null, as_object}
use Rattle.bt_text.specs.Names.{listed, original_name}
use Rattle.bt_text.specs.declared.refusal.FieldRefusal.{FieldRefusal}
use Rattle.bt_text.specs.declared.refusal.FieldRefusal.TheVariants.{BadField, OutOfMemory}

-- a name of the list
abbrev pub is_json_name : List (List ℕ) → List ℕ → Bool
is_json_name names k = list_any (λ n. bytes_eq n k) names

-- a name of the list, or the original name of one
abbrev pub is_listed : List (List ℕ) → List ℕ → Bool
is_listed names k = list_any (λ n. bytes_eq n k || bytes_eq (original_name n) k) names

-- a member is there whose name passes; one whose value is null is not
abbrev pub holds : (List ℕ → Bool) → Members → Bool
holds p no_members = false
holds p (member k d ms) = (not (is_some (as_null d)) && p k) || holds p ms

-- a name and its original name, another one, are both there
abbrev pub is_doubled : Members → List ℕ → Bool
is_doubled ms n = not (bytes_eq (original_name n) n) && holds (λ k. bytes_eq k n) ms && holds (λ k. bytes_eq (original_name n) k) ms

-- a member's name is a fault of the object: it is not listed, or it is there by both its names and this is the JSON name
abbrev pub is_fault : List (List ℕ) → Members → List ℕ → Bool
is_fault names ms k = not (is_listed names k) || (is_json_name names k && is_doubled ms k)

-- the first fault among some of its members; an object has its members in the byte order of their names
abbrev pub first_fault : List (List ℕ) → Members → Members → Option (List ℕ)
first_fault names all no_members = None
first_fault names all (member k d ms) = if is_fault names all k then Some k else first_fault names all ms

-- the first fault of an object, and of any other value its own name
abbrev pub object_fault : List ℕ → List (List ℕ) → Option Members → Option (List ℕ)
object_fault name names None = Some name
object_fault name names (Some ms) = first_fault names ms ms

-- the name that is at fault in a value, where only members of a list joined by commas may stand
abbrev pub members_fault : List ℕ → List ℕ → Data → Option (List ℕ)
members_fault name names d = object_fault name (listed names) (as_object d)

-- Ok where there is no fault, and else a refusal that names it; or there was no memory for the name
abbrev pub Passes : Option (List ℕ) → Result (Unit {0}) FieldRefusal → Type 0
Passes fault (Ok x) = fault ≡ None
Passes fault (Err (BadField n)) = fault ≡ Some n
Passes fault (Err OutOfMemory) = Unit {0}
