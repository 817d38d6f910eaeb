-- What bytes begin with.
use Rattle.std.specs.Prelude.{ℕ, Bool, List, length, bytes_eq, take}

-- the bytes begin with these
abbrev pub begins_with : List ℕ → List ℕ → Bool
begins_with front bytes = bytes_eq (take (length front) bytes) front
