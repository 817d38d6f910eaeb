-- The files of a disk in memory.
use Rattle.std.specs.Prelude.{◌≡◌, ◌≢◌, ℕ, zero, suc, List, [], ◌∷◌, if◌then◌else◌, ◌==◌}
use Rattle.bt_outside.specs.Model.{State}

-- a file and its number
pub record OfFile : Type 0 where
  pub number : ℕ
  pub state : State

-- of two of one number the first counts; a file that is not there is as at the start
abbrev pub lookup : (ℕ → State) → List OfFile → ℕ → State
lookup start [] file = start file
lookup start (x ∷ xs) file = if file == x.number then x.state else lookup start xs file

-- the first one of that number stands there
abbrev pub IsPlace : List OfFile → ℕ → ℕ → Type 0
IsPlace [] file place = ⊥
IsPlace (x ∷ xs) file zero = x.number ≡ file
IsPlace (x ∷ xs) file (suc place) = (x.number ≢ file) × IsPlace xs file place
