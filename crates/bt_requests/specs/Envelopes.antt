-- The envelope of a request: an object of a method and its request.
use Rattle.std.specs.Prelude.{◌≡◌, ℕ, ◌==◌, ◌&&◌, ◌||◌, Bool, true, false, List, [], codes, Option, Some, None, is_some, option_map, option_and_then, unwrap_or, Result, Ok, Err, if◌then◌else◌}
use Rattle.std.specs.Str.{is_utf8}
use Rattle.serde_json.specs.Data.{Data, object, no_members}
use Rattle.serde_json.specs.Events.{members_len}
use Rattle.serde_json.specs.Find.{get, as_null, as_str, as_object}
use Rattle.serde_json.specs.Read.{read}
use Rattle.bt_json.specs.View.{view}
use Rattle.bt_requests.specs.Methods.{method_named}
use Rattle.bt_requests.specs.declared.method.Method.{Method}
use Rattle.bt_requests.specs.declared.request_object.RequestObject.{RequestObject}
use Rattle.bt_requests.specs.declared.envelope.LineRefusal.{LineRefusal}
use Rattle.bt_requests.specs.declared.envelope.LineRefusal.TheVariants.{NotJson, BadEnvelope, UnknownMethod, OutOfMemory}

-- the line, where it is UTF-8
abbrev pub text_of : List ℕ → Option (List ℕ)
text_of line = if is_utf8 line then Some line else None

-- the value that a line is: JSON text in UTF-8
abbrev pub value_of : List ℕ → Option Data
value_of line = option_and_then read (text_of line)

-- how many members an object has
abbrev pub member_count : Data → Option ℕ
member_count d = option_map members_len (as_object d)

abbrev pub is_count : ℕ → Option ℕ → Bool
is_count n None = false
is_count n (Some m) = m == n

-- the text of the method
abbrev pub method_of : Data → Option (List ℕ)
method_of d = option_and_then as_str (get (codes "method") d)

abbrev pub has_method : Data → Bool
has_method d = is_some (method_of d)

abbrev pub method_text : Data → List ℕ
method_text d = unwrap_or (method_of d) []

-- a request: an object, null or absent
abbrev pub is_request : Option Data → Bool
is_request None = true
is_request (Some d) = is_some (as_null d) || is_some (as_object d)

-- beside the method, which is there, it has a request or nothing
abbrev pub has_no_others : Data → Bool
has_no_others d = is_count (if is_some (get (codes "request") d) then 2 else 1) (member_count d)

-- an object whose only members are the method, a string, and the request
abbrev pub is_envelope : Data → Bool
is_envelope d = has_method d && is_request (get (codes "request") d) && has_no_others d

-- the object, or else one without members
abbrev pub or_empty : Option Data → Data
or_empty d = object (unwrap_or (option_and_then as_object d) no_members)

abbrev pub request_in_envelope : Data → Data
request_in_envelope d = or_empty (get (codes "request") d)

abbrev pub with_request : Option Method → Data → Result (Method × Data) LineRefusal
with_request None d = Err UnknownMethod
with_request (Some m) d = Ok (m, d)

-- the method and the request of a value
abbrev pub envelope_in : Data → Result (Method × Data) LineRefusal
envelope_in d = if is_envelope d then with_request (method_named (method_text d)) (request_in_envelope d) else Err BadEnvelope

abbrev pub or_not_json : Option Data → Result (Method × Data) LineRefusal
or_not_json None = Err NotJson
or_not_json (Some d) = envelope_in d

-- the method and the request of a line, or the refusal that comes first
abbrev pub envelope_of : List ℕ → Result (Method × Data) LineRefusal
envelope_of line = or_not_json (value_of line)

-- that answer, or want of memory
abbrev pub Tells : Result (Method × Data) LineRefusal → Result (Method × RequestObject) LineRefusal → Type 0
Tells answer (Ok (m, r)) = answer ≡ Ok (m, view r.value)
Tells answer (Err NotJson) = answer ≡ Err NotJson
Tells answer (Err BadEnvelope) = answer ≡ Err BadEnvelope
Tells answer (Err UnknownMethod) = answer ≡ Err UnknownMethod
Tells answer (Err OutOfMemory) = Unit {0}
