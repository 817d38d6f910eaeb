-- The disk model: what a file of a disk in memory holds, and what a crash may leave of it.
use Rattle.std.specs.Prelude.{◌≡◌, ◌⊎◌, ◌<◌, ◌≤◌, ℕ, zero, suc, ◌+◌, min, max, List, [], ◌∷◌, ◌++◌, length, take, drop, get_or, Bool, true, false, if◌then◌else◌}
use Rattle.bt_base.specs.Counts.{most}

-- a file: the bytes that reads return, those at the last sync, the ranges touched since, and the least and the greatest length since
pub record State : Type 0 where
  pub bytes : List ℕ
  pub stable : List ℕ
  pub touched : List (ℕ × ℕ)
  pub least : ℕ
  pub greatest : ℕ

-- a file with these bytes, all of them stable; one that was never written has none
abbrev pub settled : List ℕ → State
settled bytes = record { bytes = bytes; stable = bytes; touched = []; least = length bytes; greatest = length bytes }

-- a place lies in one of the ranges
abbrev pub Touched : List (ℕ × ℕ) → ℕ → Type 0
Touched [] i = ⊥
Touched (range ∷ ranges) i = ((range.0 ≤ i) × (i < range.1)) ⊎ Touched ranges i

-- a crash may leave these bytes: outside the touched ranges they are the stable ones
pub record IsImage (state : State) (bytes : List ℕ) : Type 0 where
  pub no_shorter : state.least ≤ length bytes
  pub no_longer : length bytes ≤ state.greatest
  pub stays : (i : ℕ) → i < length bytes → i < length state.stable → (Touched state.touched i → ⊥) → get_or bytes i 0 ≡ get_or state.stable i 0

-- the bytes as read lie between the lengths
pub record IsBounded (state : State) : Type 0 where
  pub no_shorter : state.least ≤ length state.bytes
  pub no_longer : length state.bytes ≤ state.greatest

-- a file after a write, which a fault leaves unread
abbrev pub after_write : ℕ → List ℕ → Bool → State → State
after_write at bytes failed state = record {
  bytes = if failed then state.bytes else take at state.bytes ++ bytes ++ drop (at + length bytes) state.bytes;
  stable = state.stable;
  touched = state.touched ++ (at, at + length bytes) ∷ [];
  least = state.least;
  greatest = max state.greatest (at + length bytes);
}

-- a file after a cut
abbrev pub after_cut : ℕ → Bool → State → State
after_cut n failed state = record {
  bytes = if failed then state.bytes else take n state.bytes;
  stable = state.stable;
  touched = state.touched ++ (n, most) ∷ [];
  least = min state.least n;
  greatest = state.greatest;
}

-- a file after a sync
abbrev pub after_sync : Bool → State → State
after_sync true state = state
after_sync false state = settled state.bytes

-- of a file a crash may leave one of its images, or the bytes as read, which are one
abbrev pub MayBe : State → List ℕ → Type 0
MayBe state bytes = IsImage state bytes ⊎ (bytes ≡ state.bytes)

-- the stable bytes, in the nearest length that the file may have
pub record IsStable (state : State) (bytes : List ℕ) : Type 0 where
  pub size : length bytes ≡ max state.least (min (length state.stable) state.greatest)
  pub stays : (i : ℕ) → i < length bytes → i < length state.stable → get_or bytes i 0 ≡ get_or state.stable i 0

-- the greatest length, with this byte at each touched place
pub record IsFilled (fill : ℕ) (state : State) (bytes : List ℕ) : Type 0 where
  pub size : length bytes ≡ state.greatest
  pub touched : (i : ℕ) → i < length bytes → Touched state.touched i → get_or bytes i 0 ≡ fill
  pub stays : (i : ℕ) → i < length bytes → i < length state.stable → (Touched state.touched i → ⊥) → get_or bytes i 0 ≡ get_or state.stable i 0

-- what a choice of an image leaves of a file
abbrev pub Chosen : ℕ → State → List ℕ → Type 0
Chosen zero state bytes = IsStable state bytes
Chosen (suc zero) state bytes = bytes ≡ state.bytes
Chosen (suc (suc n)) state bytes = IsFilled (suc n) state bytes
