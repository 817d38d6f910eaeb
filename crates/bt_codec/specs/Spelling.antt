-- The one spelling of texts and lists. Numbers are big-endian.
use Rattle.std.specs.Prelude.{ℕ, List, ◌++◌, length}
use Rattle.std.specs.List.{flat_map}
use Rattle.std.specs.Int.{Width, to_be_bytes}

-- a text: its length, and its bytes
abbrev pub text : Width → List ℕ → List ℕ
text w bytes = to_be_bytes w (length bytes) ++ bytes

-- a list: its length, and its items
abbrev pub list : {A : Type 0} → Width → (A → List ℕ) → List A → List ℕ
list w spell xs = to_be_bytes w (length xs) ++ flat_map spell xs
