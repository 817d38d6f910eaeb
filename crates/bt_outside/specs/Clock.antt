-- The readings of a clock in memory.
use Rattle.std.specs.Prelude.{ℕ, zero, suc, List, [], ◌∷◌, ◌++◌, ◌-◌, min, length, get_or}

-- a clock that reads a list, as its callers see it: the list, and how often it was read
pub record Ticks : Type 0 where
  pub readings : List ℕ
  pub count : ℕ

-- the first so many readings of a list whose last one repeats
abbrev pub readings_of : List ℕ → ℕ → List ℕ
readings_of list zero = []
readings_of list (suc n) = readings_of list n ++ get_or list (min n (length list - 1)) 0 ∷ []
