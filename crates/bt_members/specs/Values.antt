-- The members of a message that has no bad field: an absent one is zero or empty.
use Rattle.std.specs.Prelude.{ℕ, ℤ, pos, Bool, false, List, [], Option, Some, None, option_and_then, unwrap_or, if◌then◌else◌}
use Rattle.serde_json.specs.Data.{Data, Items, no_items, Members}
use Rattle.serde_json.specs.Find.{get, as_bool, as_str, as_array, as_object}
use Rattle.bt_text.specs.Bytes.{bytes_in}
use Rattle.bt_text.specs.Duration.{duration_in}
use Rattle.bt_text.specs.Int32.{int32_in}
use Rattle.bt_text.specs.Int64.{int64_in}
use Rattle.bt_text.specs.Names.{original_name}
use Rattle.bt_walk.specs.Values.{is_null}

-- null is absent
abbrev pub present : Option Data → Option Data
present None = None
present (Some d) = if is_null d then None else Some d

abbrev pub or_value : Option Data → Option Data → Option Data
or_value None b = b
or_value (Some a) b = Some a

-- by either of two names
abbrev pub value_of : List ℕ → List ℕ → Data → Option Data
value_of n o d = or_value (present (get n d)) (present (get o d))

-- by the value that is there, or else otherwise
abbrev pub choose : {A : Type 0} → Option Data → (Data → A) → A → A
choose None f other = other
choose (Some d) f other = f d

abbrev pub text_or_empty : Data → List ℕ
text_or_empty d = unwrap_or (as_str d) []

abbrev pub bytes_or_empty : Data → List ℕ
bytes_or_empty d = unwrap_or (bytes_in d) []

abbrev pub int32_or_zero : Data → ℤ
int32_or_zero d = unwrap_or (int32_in d) (pos 0)

-- a duration, in microseconds
abbrev pub micros_or_zero : Data → ℤ
micros_or_zero d = unwrap_or (duration_in d) (pos 0)

abbrev pub is_yes : Data → Bool
is_yes d = unwrap_or (as_bool d) false

abbrev pub text_of : List ℕ → List ℕ → Data → List ℕ
text_of n o d = unwrap_or (option_and_then as_str (value_of n o d)) []

abbrev pub bytes_of : List ℕ → List ℕ → Data → List ℕ
bytes_of n o d = choose (value_of n o d) bytes_or_empty []

abbrev pub int64_of : List ℕ → List ℕ → Data → ℤ
int64_of n o d = unwrap_or (option_and_then int64_in (value_of n o d)) (pos 0)

abbrev pub micros_of : List ℕ → List ℕ → Data → ℤ
micros_of n o d = choose (value_of n o d) micros_or_zero (pos 0)

abbrev pub items_in : Data → Items
items_in d = unwrap_or (as_array d) no_items

abbrev pub items_or_none : Option Data → Items
items_or_none None = no_items
items_or_none (Some d) = items_in d

abbrev pub items_of : List ℕ → List ℕ → Data → Items
items_of n o d = items_or_none (value_of n o d)

abbrev pub members_of : List ℕ → List ℕ → Data → Option Members
members_of n o d = option_and_then as_object (value_of n o d)

-- by the JSON name, from which the original name follows
abbrev pub value_at : List ℕ → Data → Option Data
value_at n d = value_of n (original_name n) d

abbrev pub text_at : List ℕ → Data → List ℕ
text_at n d = text_of n (original_name n) d

abbrev pub bytes_at : List ℕ → Data → List ℕ
bytes_at n d = bytes_of n (original_name n) d

abbrev pub int64_at : List ℕ → Data → ℤ
int64_at n d = int64_of n (original_name n) d

abbrev pub micros_at : List ℕ → Data → ℤ
micros_at n d = micros_of n (original_name n) d

abbrev pub items_at : List ℕ → Data → Items
items_at n d = items_of n (original_name n) d

abbrev pub members_at : List ℕ → Data → Option Members
members_at n d = members_of n (original_name n) d
