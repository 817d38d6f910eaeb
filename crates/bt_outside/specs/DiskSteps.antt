-- What a call of a disk in memory does to what it keeps.
use Rattle.std.specs.Prelude.{◌≡◌, ◌⊎◌, ◌<◌, ◌≤◌, length, ℕ, List, Option, Some, None, Contains}
use Rattle.bt_outside.specs.declared.calls.Call.{Call}
use Rattle.bt_outside.specs.declared.calls.Kind.{Kind}
use Rattle.bt_outside.specs.declared.calls.Kind.TheVariants.{Length, Read, Write, Cut, Sync}
use Rattle.bt_base.specs.Counts.{most}
use Rattle.bt_outside.specs.declared.image.FileBytes.{FileBytes}
use Rattle.bt_outside.specs.DiskImage.{start_of}
use Rattle.bt_outside.specs.Model.{State, IsBounded}
use Rattle.bt_outside.specs.FileStates.{OfFile, lookup}
use Rattle.bt_outside.specs.History.{replayed, AllBefore}

-- nothing has changed
pub record Stayed (start : ℕ → State) (files new_files : List OfFile) (calls new_calls : List Call) : Type 0 where
  pub same : new_calls ≡ calls
  pub states : (other : ℕ) → lookup start new_files other ≡ lookup start files other

-- what is kept of a disk in memory agrees
pub record Keeps (base : List FileBytes) (files : List OfFile) (calls : List Call) (moment : ℕ) : Type 0 where
  pub agree : (file : ℕ) → lookup (start_of base) files file ≡ replayed (start_of base) calls file
  pub bounded : (file : ℕ) → IsBounded (lookup (start_of base) files file)
  pub before : moment < most → AllBefore calls moment

-- a call may be made on the file
abbrev pub CanBe : Kind → State → Type 0
CanBe Length state = Unit {0}
CanBe (Read at n) state = Unit {0}
CanBe (Write at bytes) state = at ≤ length state.bytes
CanBe (Cut n) state = n ≤ length state.bytes
CanBe Sync state = Unit {0}

-- the call of this number is to fail
abbrev pub IsStopped : List ℕ → Option ℕ → ℕ → Type 0
IsStopped fails None number = Contains fails number
IsStopped fails (Some first) number = (first ≤ number) ⊎ Contains fails number

-- a call that changes nothing
abbrev pub IsLook : Kind → Type 0
IsLook Length = Unit {0}
IsLook (Read at n) = Unit {0}
IsLook (Write at bytes) = ⊥
IsLook (Cut n) = ⊥
IsLook Sync = ⊥
