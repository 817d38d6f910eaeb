-- Which bytes are keys and names.
use Rattle.std.specs.Prelude.{ℕ, bytes_eq, ◌&&◌, ◌||◌, ◌==◌, Bool, false, nat_lt, nat_le, List, [], ◌∷◌, ◌++◌, length, codes, if◌then◌else◌, Option, Some, None}
use Rattle.std.specs.List.{list_all, before_first, after_first}

-- a row key has 1 to 4,096 bytes
abbrev pub is_row_key : List ℕ → Bool
is_row_key b = nat_lt 0 (length b) && nat_le (length b) 4096

-- a qualifier has at most 16,384 bytes
abbrev pub is_qualifier : List ℕ → Bool
is_qualifier b = nat_le (length b) 16384

abbrev pub within : ℕ → ℕ → ℕ → Bool
within low high b = nat_le low b && nat_le b high

-- [-_.a-zA-Z0-9]
abbrev pub is_name_byte : ℕ → Bool
is_name_byte b = within 97 122 b || within 65 90 b || within 48 57 b || b == 45 || b == 95 || b == 46

-- [-_.:a-zA-Z0-9]
abbrev pub is_project_byte : ℕ → Bool
is_project_byte b = is_name_byte b || b == 58

-- [_a-zA-Z0-9]
abbrev pub is_first_byte : ℕ → Bool
is_first_byte b = within 97 122 b || within 65 90 b || within 48 57 b || b == 95

-- from 1 to n bytes that pass
abbrev pub is_text_of : (ℕ → Bool) → ℕ → List ℕ → Bool
is_text_of p n b = nat_lt 0 (length b) && nat_le (length b) n && list_all p b

abbrev pub is_family_name : List ℕ → Bool
is_family_name b = is_text_of is_name_byte 64 b

abbrev pub is_project : List ℕ → Bool
is_project b = is_text_of is_project_byte 100 b

abbrev pub begins_as_table : List ℕ → Bool
begins_as_table [] = false
begins_as_table (b ∷ bs) = is_first_byte b

abbrev pub is_table_id : List ℕ → Bool
is_table_id b = is_text_of is_name_byte 50 b && begins_as_table b

-- b where it passes
abbrev pub lawful : (List ℕ → Bool) → List ℕ → Option (List ℕ)
lawful p b = if p b then Some b else None

abbrev pub is_slash : ℕ → Bool
is_slash c = c == 47

-- what stands before the first slash, and what follows it
abbrev pub first_part : List ℕ → List ℕ
first_part b = before_first is_slash b

abbrev pub later_parts : List ℕ → List ℕ
later_parts b = after_first is_slash b

-- projects/P/ and then what passes
abbrev pub is_below_project : (List ℕ → Bool) → List ℕ → Bool
is_below_project rest b = bytes_eq (first_part b) (codes "projects") && is_project (first_part (later_parts b)) && rest (later_parts (later_parts b))

-- instances/I
abbrev pub is_instance : List ℕ → Bool
is_instance b = bytes_eq (first_part b) (codes "instances") && is_project (later_parts b)

-- tables/T
abbrev pub is_table_part : List ℕ → Bool
is_table_part t = bytes_eq (first_part t) (codes "tables") && is_table_id (later_parts t)

-- instances/I/tables/T
abbrev pub is_instance_table : List ℕ → Bool
is_instance_table b = bytes_eq (first_part b) (codes "instances") && is_project (first_part (later_parts b)) && is_table_part (later_parts (later_parts b))

-- projects/P/instances/I
abbrev pub is_parent : List ℕ → Bool
is_parent b = is_below_project is_instance b

-- projects/P/instances/I/tables/T
abbrev pub is_table_name : List ℕ → Bool
is_table_name b = is_below_project is_instance_table b

-- PARENT/tables/ID, where both are lawful
abbrev pub table_in : List ℕ → List ℕ → Option (List ℕ)
table_in parent id = if is_parent parent && is_table_id id then lawful is_table_name (parent ++ codes "/tables/" ++ id) else None

-- [a-z0-9\-]
abbrev pub is_label_byte : ℕ → Bool
is_label_byte b = within 97 122 b || within 48 57 b || b == 45

-- a label has 1 to 15 characters
abbrev pub is_label : List ℕ → Bool
is_label b = is_text_of is_label_byte 15 b
