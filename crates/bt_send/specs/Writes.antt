-- What was written to a connection, by one call or by several.
use Rattle.std.specs.Prelude.{◌≡◌, ◌⊎◌, ℕ, ◌+◌, Bool, true, false, List, [], ◌∷◌, ◌++◌, length, map, Result, Ok, Err}
use Rattle.bt_outside.specs.Links.{LastGoes, Sent}

-- the notes of writes that ended so in a text that begins behind so many bytes
abbrev pub notes_at : ℕ → ℕ → List ℕ → List (ℕ × ℕ)
notes_at before moment ends = map (λ n. (before + n, moment)) ends

-- nothing was written, or the last write ended with the text
abbrev pub AreEnds : List ℕ → List ℕ → Type 0
AreEnds text ends = ((text ≡ []) × (ends ≡ [])) ⊎ ((before : List ℕ) × (ends ≡ before ++ length text ∷ []))

-- a failure marks the connection
abbrev pub IsMarked : Bool → Bool → Bool → Type 0
IsMarked false old new = new ≡ old
IsMarked true old new = new ≡ true

-- new is old with this text, whose writes ended so; the moment is noted with each of them
pub record Writes (text ends : List ℕ) (moment : ℕ) (has_failed : Bool) (old new : Sent) : Type 0 where
  pub bytes : new.bytes ≡ old.bytes ++ text
  pub notes : new.notes ≡ old.notes ++ notes_at (length old.bytes) moment ends
  pub failed : IsMarked has_failed old.failed new.failed

abbrev pub has_failed : {T E : Type 0} → Result T E → Bool
has_failed (Ok x) = false
has_failed (Err e) = true

-- a reply of which this holds was written to the last connection: whole, or up to where the link failed
pub record Sends (goes : List ℕ → Type 0) (is_cut : Bool) (moment : ℕ) (old new : List Sent) : Type 0 where
  pub out : List ℕ
  pub rest : List ℕ
  pub goes_so : goes (out ++ rest)
  pub all : is_cut ≡ false → rest ≡ []
  pub ends : List ℕ
  pub are_ends : AreEnds out ends
  pub written : LastGoes (Writes out ends moment is_cut) old new

-- this text was written to the last connection
pub record Wrote (text : List ℕ) (moment : ℕ) (old new : List Sent) : Type 0 where
  pub ends : List ℕ
  pub are_ends : AreEnds text ends
  pub written : LastGoes (Writes text ends moment false) old new
