-- Parts of a run, as the functions below it see them.
use Rattle.std.specs.Prelude.{◌≡◌, ℕ, List, [], ◌∷◌, ◌++◌, length, map, Bool, true, false, if◌then◌else◌}
use Rattle.bt_outside.specs.Links.{LastGoes, Sent, fresh}
use Rattle.bt_outside.specs.declared.disk.Disk.{Ghosts}
use Rattle.bt_service.specs.Steps.{CountedBy, Leaves}
use Rattle.bt_service.specs.Turns.{AreTurns, IsTurn, Turn, records_of, tried}
use Rattle.bt_service.specs.declared.handled.Handled.{Handled}
use Rattle.bt_service.specs.declared.handled.Handled.TheVariants.{Answered, DiskEnded, LinkLost}
use Rattle.bt_state.specs.State.{State, after_records}
use Rattle.bt_store.specs.Held.{HoldsState}
use Rattle.bt_store.specs.Stands.{Seen, Stands}
use Rattle.bt_store.specs.declared.limits.Limits.{Limits}
use Rattle.bt_top.specs.Crashes.{Survives}
use Rattle.bt_top.specs.Lines.{ending_in, is_blank, lines_in}
use Rattle.bt_top.specs.Runs.{IsPrefix, IsSent, IsStop, IsTalk, Talk, ends_run, notes_from, out_of, talk_ended, talk_failed, talk_readings, talk_records, talk_tried, turns_of}

-- what a line buffer holds, and the longest line that it has room for
pub record Buffered : Type 0 where
  pub text : List ℕ
  pub most : ℕ
  -- free behind the text
  pub room : ℕ
  -- the part of it that was written to before
  pub ready : ℕ

-- ---- turns, one after another

-- new is old with the answers of these turns
pub record Says (turns : List Turn) (old new : Sent) : Type 0 where
  pub bytes : new.bytes ≡ old.bytes ++ out_of turns
  pub notes : new.notes ≡ old.notes ++ notes_from (length old.bytes) turns
  pub failed : new.failed ≡ old.failed

-- new is old with the answers of these turns and what was written of the last one; it is marked where that was cut
pub record Stops (turns : List Turn) (last : Turn) (old new : Sent) : Type 0 where
  pub bytes : new.bytes ≡ old.bytes ++ out_of (turns ++ last ∷ [])
  pub notes : new.notes ≡ old.notes ++ notes_from (length old.bytes) (turns ++ last ∷ [])
  pub failed : old.failed ≡ false → new.failed ≡ last.given.is_cut

-- each of these lines had its turn
pub record Went {D : Type 0} (disk : Ghosts D) (limits : Limits) (s : State) (store : Seen) (old new : D) (sent new_sent : List Sent) (told new_told : List ℕ) (faults new_faults : ℕ) (lines : List (List ℕ)) : Type 0 where
  pub turns : List Turn
  pub of_lines : map (λ t. t.line) turns ≡ lines
  pub answers : AreTurns limits s turns
  pub written : LastGoes (Says turns) sent new_sent
  pub read : new_told ≡ told ++ map (λ t. t.reading) turns
  pub counted : new_faults ≡ faults
  pub stands : Stands store (after_records s (records_of turns)) (disk.held new) (disk.may_leave new)
  pub survives : Survives disk s (records_of turns) turns old new

-- each of these lines had its turn, and the last one stopped the connection
pub record WentStopped {D : Type 0} (disk : Ghosts D) (limits : Limits) (s : State) (store : Seen) (old new : D) (sent new_sent : List Sent) (told new_told : List ℕ) (faults new_faults : ℕ) (lines : List (List ℕ)) (has_ended : Bool) : Type 0 where
  pub turns : List Turn
  pub last : Turn
  pub of_lines : map (λ t. t.line) turns ++ last.line ∷ [] ≡ lines
  pub answers : AreTurns limits s turns
  pub is_turn : IsTurn limits (after_records s (records_of turns)) last
  pub is_stop : IsStop last
  pub ends : ends_run last.given.how ≡ has_ended
  pub written : LastGoes (Stops turns last) sent new_sent
  pub read : new_told ≡ told ++ map (λ t. t.reading) (turns ++ last ∷ [])
  pub counted : CountedBy last.given.is_cut faults new_faults
  pub leaves : Leaves disk last.given.how store (after_records s (records_of (turns ++ last ∷ []))) new
  pub survives : Survives disk s (records_of turns ++ tried last.given) (turns ++ last ∷ []) old new

abbrev pub Goes : {D : Type 0} → Ghosts D → Handled → Limits → State → Seen → D → D → List Sent → List Sent → List ℕ → List ℕ → ℕ → ℕ → List (List ℕ) → Type 0
Goes disk Answered limits s store old new sent new_sent told new_told faults new_faults lines = Went disk limits s store old new sent new_sent told new_told faults new_faults lines
Goes disk LinkLost limits s store old new sent new_sent told new_told faults new_faults lines = WentStopped disk limits s store old new sent new_sent told new_told faults new_faults lines false
Goes disk DiskEnded limits s store old new sent new_sent told new_told faults new_faults lines = WentStopped disk limits s store old new sent new_sent told new_told faults new_faults lines true

-- ---- division into lines

abbrev pub IsStopped : Handled → Type 0
IsStopped Answered = ⊥
IsStopped LinkLost = Unit {0}
IsStopped DiskEnded = Unit {0}

-- the line of an ended piece
abbrev pub heard : List ℕ → List (List ℕ)
heard piece = if is_blank piece then [] else piece ∷ []

-- However the stream goes on, these are its next lines, and then it goes on with new in place of old.
pub record Divides (most : ℕ) (old new : List ℕ) (lines : List (List ℕ)) : Type 0 where
  pub next_lines : (future : List ℕ) → lines_in most (old ++ future) ≡ lines ++ lines_in most (new ++ future)
  pub ending : (full : Bool) (future : List ℕ) → ending_in most full (old ++ future) ≡ ending_in most full (new ++ future)

-- however the stream goes on, these are its first lines
abbrev pub BeginsWith : ℕ → List ℕ → List (List ℕ) → Type 0
BeginsWith most old lines = (future : List ℕ) → IsPrefix lines (lines_in most (old ++ future))

abbrev pub Divided : Handled → ℕ → List ℕ → List ℕ → List (List ℕ) → Type 0
Divided Answered most old new lines = Divides most old new lines
Divided LinkLost most old new lines = BeginsWith most old lines
Divided DiskEnded most old new lines = BeginsWith most old lines

-- ---- a connection

-- unless the run ended the store stands for the state, and then the disk reads as it
abbrev pub LeavesIf : {D : Type 0} → Ghosts D → Bool → Seen → State → D → Type 0
LeavesIf disk false store s now = Stands store s (disk.held now) (disk.may_leave now)
LeavesIf disk true store s now = HoldsState s (disk.held now)

-- what came of a connection whose bytes these are, to which nothing was written before
pub record Talked {D : Type 0} (disk : Ghosts D) (has_ended : Bool) (limits : Limits) (s : State) (store : Seen) (bytes : List ℕ) (old new : D) (sent new_sent : List Sent) (told new_told : List ℕ) (faults new_faults : ℕ) : Type 0 where
  pub talk : Talk
  pub is_talk : IsTalk limits s bytes talk
  pub ends : talk_ended talk ≡ has_ended
  pub read : new_told ≡ told ++ talk_readings talk
  pub written : (before : List Sent) → sent ≡ before ++ fresh ∷ [] → (d : Sent) × (new_sent ≡ before ++ d ∷ []) × IsSent talk d
  pub counted : CountedBy (talk_failed talk) faults new_faults
  pub leaves : LeavesIf disk has_ended store (after_records s (talk_records talk)) new
  pub survives : Survives disk s (talk_tried talk) (turns_of talk) old new
