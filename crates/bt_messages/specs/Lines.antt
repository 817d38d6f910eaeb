-- Lines of replies: a JSON object without spaces, and a line feed.
use Rattle.std.specs.Prelude.{ℕ, ◌==◌, Bool, true, not, List, [], ◌∷◌, ◌++◌, length, codes, Option, Some, None, ℤ, pos, negsuc, if◌then◌else◌}
use Rattle.std.specs.Fmt.{signed_decimal}
use Rattle.serde_json.specs.Data.{Data, array, number, unsigned, string, object, Members, no_members, member, put}
use Rattle.serde_json.specs.View.{items_of}
use Rattle.serde_json.specs.Written.{compact_text}
use Rattle.bt_messages.specs.Values.{shown_bytes}

-- a value as a line
unfoldable pub line_of : Data → List ℕ
line_of d = compact_text d ++ 10 ∷ []

-- an object of one member
abbrev pub object_with : List ℕ → Data → Data
object_with k d = object (member k d no_members)

-- a line that carries a response
abbrev pub response_data : Data → Data
response_data d = object_with (codes "response") d

-- the members, with d at k where it is asked for
abbrev pub with_if : Bool → List ℕ → Data → Members → Members
with_if asked k d ms = if asked then put k d ms else ms

-- the members, with what is shown of x at k where there is an x: a wrapper may be empty
abbrev pub with_some : {A : Type 0} → List ℕ → (A → Data) → Option A → Members → Members
with_some k show None ms = ms
with_some k show (Some x) ms = put k (show x) ms

-- there are some items
abbrev pub is_nonempty : {A : Type 0} → List A → Bool
is_nonempty xs = not (length xs == 0)

-- the members, with the text at k unless it is empty
abbrev pub with_text : List ℕ → List ℕ → Members → Members
with_text k text ms = with_if (is_nonempty text) k (string text) ms

-- the members, with the number at k unless it is 0
abbrev pub with_number : List ℕ → ℕ → Members → Members
with_number k n ms = with_if (not (n == 0)) k (number (unsigned n)) ms

-- the members, with the bytes at k unless there are none
abbrev pub with_bytes : List ℕ → List ℕ → Members → Members
with_bytes k b ms = with_if (is_nonempty b) k (shown_bytes b) ms

-- the number is not 0
abbrev pub is_nonzero : ℤ → Bool
is_nonzero (pos n) = not (n == 0)
is_nonzero (negsuc n) = true

-- the members, with the number as an int64 at k unless it is 0
abbrev pub with_int64 : List ℕ → ℤ → Members → Members
with_int64 k z ms = with_if (is_nonzero z) k (string (signed_decimal z)) ms

-- the members, with the items as a list at k unless there are none
abbrev pub with_items : List ℕ → List Data → Members → Members
with_items k ds ms = with_if (is_nonempty ds) k (array (items_of ds)) ms

-- a status (google.rpc.Status): the code (google.rpc.Code) and the message
abbrev pub status_members : ℕ → List ℕ → Data
status_members code text = object (with_number (codes "code") code (with_text (codes "message") text no_members))

-- the last line of a request
abbrev pub status_data : ℕ → List ℕ → Data
status_data code text = object_with (codes "status") (status_members code text)

-- the last line of a request that was served
abbrev pub ok_data : Data
ok_data = object_with (codes "status") (object no_members)

-- the last line of a request that was served, as bytes
abbrev pub ok_line : List ℕ
ok_line = line_of ok_data
