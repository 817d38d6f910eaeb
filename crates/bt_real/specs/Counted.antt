-- What is told of devices: their counts, and how far they are.
use Rattle.std.specs.Prelude.{◌≡◌, ℕ, ◌+◌, Bool, true, false}

-- a disk over a folder, as its callers see it
pub record Counted : Type 0 where
  pub calls : ℕ
  pub faults : ℕ
  pub write_faults : ℕ
  -- the last call failed
  pub failing : Bool

-- no call was made
abbrev pub unused : Counted
unused = record { calls = 0; faults = 0; write_faults = 0; failing = false }

-- the connections of a listener, as their callers see them
pub record Listened : Type 0 where
  -- the address is bound
  pub bound : Bool
  -- how many connections may still be given
  pub left : ℕ
  -- one is at hand
  pub at_hand : Bool
  pub faults : ℕ
  pub next_faults : ℕ

-- nothing is bound, and none of so many was given
abbrev pub unbound : ℕ → Listened
unbound count = record { bound = false; left = count; at_hand = false; faults = 0; next_faults = 0 }

-- one connection was used up, or there is none left to give
abbrev pub Gave : Bool → ℕ → ℕ → Type 0
Gave true old new = old ≡ new + 1
Gave false old new = (old ≡ 0) × (new ≡ 0)
