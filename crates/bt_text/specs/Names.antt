-- Lists of names in one text, and the two names of a member.
use Rattle.std.specs.Prelude.{ℕ, ◌+◌, ◌==◌, Bool, List, [], ◌∷◌, length, if◌then◌else◌}
use Rattle.std.specs.Char.{is_ascii_uppercase}
use Rattle.std.specs.List.{flat_map, slice_split}

-- `,`
abbrev pub is_comma : ℕ → Bool
is_comma c = c == 44

-- the names that a text lists, joined by commas; the empty text lists none
abbrev pub listed : List ℕ → List (List ℕ)
listed t = if length t == 0 then [] else slice_split is_comma t

-- `_` and the lower-case letter for a capital, and any other byte as it is
abbrev pub original_letter : ℕ → List ℕ
original_letter c = if is_ascii_uppercase c then 95 ∷ (c + 32) ∷ [] else c ∷ []

-- the name in the message's definition that a JSON name in lowerCamelCase stands for
abbrev pub original_name : List ℕ → List ℕ
original_name name = flat_map original_letter name
