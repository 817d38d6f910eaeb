-- What a disk in memory has been through.
use Rattle.std.specs.Prelude.{◌⊎◌, ◌<◌, ◌≤◌, ℕ, List, [], ◌∷◌, Bool, if◌then◌else◌, ◌==◌, refl}
use Rattle.std.proofs.Common.{inl, inr, arith}
use Rattle.bt_outside.specs.declared.calls.Kind.{Kind}
use Rattle.bt_outside.specs.declared.calls.Kind.TheVariants.{Length, Read, Write, Cut, Sync}
use Rattle.bt_outside.specs.declared.calls.Call.{Call}
use Rattle.bt_outside.specs.Disk.{Files}
use Rattle.bt_outside.specs.Model.{State, MayBe, after_write, after_cut, after_sync}
use Rattle.bt_outside.specs.FileStates.{OfFile, lookup}
use Rattle.bt_outside.specs.declared.image.FileBytes.{FileBytes}
use Rattle.bt_outside.specs.DiskImage.{start_of}

-- a file after a call on it
abbrev pub after_kind : Kind → Bool → State → State
after_kind Length failed state = state
after_kind (Read at length) failed state = state
after_kind (Write at bytes) failed state = after_write at bytes.items failed state
after_kind (Cut length) failed state = after_cut length failed state
after_kind Sync failed state = after_sync failed state

-- all files after a call
abbrev pub step_of : Call → (ℕ → State) → ℕ → State
step_of call states file = if file == call.file then after_kind call.kind call.failed (states call.file) else states file

-- all files after these calls
abbrev pub replayed : (ℕ → State) → List Call → ℕ → State
replayed states [] = states
replayed states (call ∷ calls) = replayed (step_of call states) calls

-- what a crash may leave of all files
abbrev pub Images : (ℕ → State) → Files → Type 0
Images states c = (file : ℕ) → MayBe (states file) (c file)

-- what a crash before one of the calls, none before that moment, might have left
abbrev pub Past : (ℕ → State) → List Call → ℕ → Files → Type 0
Past states [] t c = ⊥
Past states (call ∷ calls) t c = ((t ≤ call.moment) × Images states c) ⊎ Past (step_of call states) calls t c

-- what a disk in memory has been through, as its clauses see it
pub record Core : Type 0 where
  -- the bytes that it began with
  pub base : List FileBytes
  -- the files that were called on since
  pub files : List OfFile
  pub calls : List Call
  pub moment : ℕ

-- its files as they are now
abbrev pub states_of : Core → ℕ → State
states_of core = lookup (start_of core.base) core.files

-- the bytes as read
abbrev pub held_of : Core → Files
held_of core file = (states_of core file).bytes

-- what a crash since a moment might have left
abbrev pub LeftSince : Core → ℕ → Files → Type 0
LeftSince core t c = Images (states_of core) c ⊎ ((t < core.moment) × Past (start_of core.base) core.calls t c)

pub reads_as_image_lem : (core : Core) → Images (states_of core) (held_of core)
reads_as_image_lem core file = inr refl

pub only_now_lem : (core : Core) (c : Files) → LeftSince core core.moment c → Images (states_of core) c
only_now_lem core c (inl now) = now
only_now_lem core c (inr past) = absurd (omega (arith, past.0))

past_sooner : (states : ℕ → State) (calls : List Call) (t u : ℕ) (c : Files) → t ≤ u → Past states calls u c → Past states calls t c
past_sooner states [] t u c le past = past
past_sooner states (call ∷ calls) t u c le (inl here) = inl (omega (arith, le, here.0), here.1)
past_sooner states (call ∷ calls) t u c le (inr there) = inr (past_sooner (step_of call states) calls t u c le there)

pub sooner_lem : (core : Core) (t u : ℕ) (c : Files) → t ≤ u → LeftSince core u c → LeftSince core t c
sooner_lem core t u c le (inl now) = inl now
sooner_lem core t u c le (inr past) = inr (omega (arith, le, past.0), past_sooner (start_of core.base) core.calls t u c le past.1)

-- the states after a call of this kind on a file
abbrev pub stepped : ℕ → Kind → Bool → (ℕ → State) → ℕ → State
stepped file kind failed states other = if other == file then after_kind kind failed (states file) else states other

-- each call was made before that moment
abbrev pub AllBefore : List Call → ℕ → Type 0
AllBefore [] moment = Unit {0}
AllBefore (call ∷ calls) moment = (call.moment < moment) × AllBefore calls moment
