-- What a crash leaves of a run.
use Rattle.std.specs.Prelude.{◌≡◌, ◌⊎◌, ◌<◌, ◌≤◌, ℕ, List, [], ◌∷◌, ◌++◌, length}
use Rattle.std.specs.List.{AllByRecursion}
use Rattle.bt_base.specs.Counts.{most}
use Rattle.bt_crash.specs.Changes.{HasSince, HoldsSome, StepsThrough}
use Rattle.bt_crash.specs.Moments.{AllImages, Keeps}
use Rattle.bt_outside.specs.Disk.{Files}
use Rattle.bt_outside.specs.declared.disk.Disk.{Ghosts}
use Rattle.bt_plans.specs.Replies.{response_bytes}
use Rattle.bt_service.specs.Turns.{Turn, records_of, whole}
use Rattle.bt_state.specs.State.{Event, State, after_record}
use Rattle.bt_store.specs.Held.{HoldsState, IsSound, LikeSome}

-- A turn is acknowledged at a moment of the disk: its reply is given whole, a byte of the status line was written, and the
-- moment that the links noted with it is not above that one.
pub record IsAcknowledged (t : ℕ) (u : Turn) : Type 0 where
  pub is_whole : u.given.how ≡ whole
  pub is_said : length (response_bytes u.given.reply) < length u.given.out
  pub noted : u.given.noted ≤ t

-- at that moment the first n records are acknowledged: those up to and with the ones of an acknowledged turn
pub record AreAcknowledged (t : ℕ) (turns : List Turn) (n : ℕ) : Type 0 where
  pub before : List Turn
  pub turn : Turn
  pub behind : List Turn
  pub stands : turns ≡ before ++ turn ∷ behind
  pub is_acknowledged : IsAcknowledged t turn
  pub count : n ≡ length (records_of (before ++ turn ∷ []))

-- No moment was noted that is still to come.
abbrev pub AreNoted : {D : Type 0} → Ghosts D → List Turn → D → Type 0
AreNoted disk turns now = disk.tells → disk.moment now < most → AllByRecursion (λ u. u.given.noted ≤ disk.moment now) turns

-- A crash at each moment leaves the state after the first ones of these records, and none that was acknowledged is missing.
pub record Survives {D : Type 0} (disk : Ghosts D) (s : State) (records : List (List Event)) (turns : List Turn) (old new : D) : Type 0 where
  pub steps : StepsThrough disk HoldsState after_record s records old new
  pub noted : AreNoted disk turns new
  pub acknowledged : (t n : ℕ) → AreAcknowledged t turns n → HasSince disk HoldsState after_record s records new t n

-- an image that stands for what one of these stands for, or for the state after the first ones of the records
abbrev pub IsBeforeOrAfter : (Files → Type 0) → State → List (List Event) → Files → Type 0
IsBeforeOrAfter images s records c = LikeSome images c ⊎ HoldsSome HoldsState after_record s records c

-- The same of a run that begins with loading.
pub record SurvivesFrom {D : Type 0} (disk : Ghosts D) (s : State) (records : List (List Event)) (turns : List Turn) (old new : D) : Type 0 where
  -- until the syncs of loading a crash may leave what it might have left before
  pub steps : Keeps disk old new (IsBeforeOrAfter (disk.may_leave old) s records)
  -- where nothing was pending, only the state after the first ones of the records
  pub settled : AllImages disk old (HoldsState s) → StepsThrough disk HoldsState after_record s records old new
  -- sound images stay sound
  pub sound : AllImages disk old IsSound → Keeps disk old new IsSound
  pub acknowledged : (t n : ℕ) → AreAcknowledged t turns n → HasSince disk HoldsState after_record s records new t n
