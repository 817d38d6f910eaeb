-- What was written to a connection.
use Rattle.std.specs.Prelude.{◌≡◌, ◌≢◌, ◌⊎◌, ℕ, List, [], ◌∷◌, ◌++◌, length, take, drop, Bool, true, false, Option}
use Rattle.std.specs.Prelude.{Some, None}

-- what was written to a connection
pub record Sent : Type 0 where
  pub bytes : List ℕ
  -- of each write the number of bytes written when it returned, and the moment of the disk at it
  pub notes : List (ℕ × ℕ)
  -- a read or a write failed
  pub failed : Bool

-- a connection to which nothing was written
abbrev pub fresh : Sent
fresh = record { bytes = []; notes = []; failed = false }

-- new is old with a further piece, noted at this moment
pub record Adds (piece : List ℕ) (moment : ℕ) (old new : Sent) : Type 0 where
  pub bytes : new.bytes ≡ old.bytes ++ piece
  pub notes : new.notes ≡ old.notes ++ (length new.bytes, moment) ∷ []
  pub failed : new.failed ≡ old.failed

-- new is old with a prefix of the piece, marked as failed; where it is not empty, its moment is noted
pub record AddsPart (piece : List ℕ) (moment : ℕ) (old new : Sent) : Type 0 where
  pub part : (n : ℕ) × (new.bytes ≡ old.bytes ++ take n piece)
  pub notes : (new.notes ≡ old.notes ++ (length new.bytes, moment) ∷ []) ⊎ ((new.bytes ≡ old.bytes) × (new.notes ≡ old.notes))
  pub failed : new.failed ≡ true

-- new is old, marked as failed
pub record Marks (old new : Sent) : Type 0 where
  pub bytes : new.bytes ≡ old.bytes
  pub notes : new.notes ≡ old.notes
  pub failed : new.failed ≡ true

-- a step of the last of a list, where it has one; the others stay
abbrev pub LastGoes : (Sent → Sent → Type 0) → List Sent → List Sent → Type 0
LastGoes step old new = (before : List Sent) (s : Sent) → old ≡ before ++ s ∷ [] → (t : Sent) × (new ≡ before ++ t ∷ []) × step s t

-- the links went on to the next connection, or there is none
abbrev pub WentOn : Bool → List (List ℕ) → List (List ℕ) → Option (List ℕ) → List Sent → List Sent → Type 0
WentOn true left new_left at_hand sent new_sent =
    (bytes : List ℕ) × (left ≡ bytes ∷ new_left) × (at_hand ≡ Some bytes) × (new_sent ≡ sent ++ fresh ∷ [])
WentOn false left new_left at_hand sent new_sent = (left ≡ []) × (new_left ≡ []) × (at_hand ≡ None) × (new_sent ≡ sent)

-- the bytes of these pieces
abbrev pub joined : List (List ℕ) → List ℕ
joined [] = []
joined (piece ∷ pieces) = piece ++ joined pieces

-- the bytes from that place of that piece on
abbrev pub rest_of : List (List ℕ) → ℕ → ℕ → List ℕ
rest_of pieces piece at = drop at (joined (drop piece pieces))

-- links in memory, as a caller sees them
pub record Seen : Type 0 where
  -- the bytes of the connections behind the one at hand
  pub left : List (List ℕ)
  -- what is left of the connection at hand, if one is
  pub at_hand : Option (List ℕ)
  -- what was written to each connection so far
  pub sent : List Sent
  -- the moment of the disk at the last write
  pub noted : Option ℕ
  pub faults : ℕ
  pub next_faults : ℕ
  -- the numbers of the calls that are to fail, and how many were made
  pub fails : List ℕ
  pub calls : ℕ

-- a connection is at hand, and something is kept of it
abbrev pub IsOpen : Bool → List Sent → Type 0
IsOpen true sent = sent ≢ []
IsOpen false sent = Unit {0}
