-- What came of records that were committed in order.
use Rattle.std.specs.Prelude.{◌≡◌, ◌<◌, ℕ, Bool, true, false, List, length, take, Result, Ok, Err}
use Rattle.bt_crash.specs.Changes.{StepsThrough}
use Rattle.bt_gate.specs.declared.log_fault.LogFault.{LogFault}
use Rattle.bt_gate.specs.declared.log_fault.LogFault.TheVariants as fault
use Rattle.bt_outside.specs.declared.disk.Disk.{Ghosts}
use Rattle.bt_service.specs.Turns.{fitting}
use Rattle.bt_service.specs.declared.committing.ChangeFault.{ChangeFault}
use Rattle.bt_service.specs.declared.committing.ChangeFault.TheVariants.{DiskFailed, OutOfMemory, TooLarge}
use Rattle.bt_state.specs.State.{Event, State, after_record, after_records}
use Rattle.bt_store.specs.Held.{HoldsState}
use Rattle.bt_store.specs.Stands.{Seen, Stands}
use Rattle.bt_store.specs.declared.limits.Limits.{Limits}

abbrev pub fault_of : LogFault → ChangeFault
fault_of fault.DiskFailed = DiskFailed
fault_of (fault.Damaged file at) = DiskFailed
fault_of (fault.TooLarge n) = TooLarge
fault_of fault.OutOfMemory = OutOfMemory

-- the disk failed
abbrev pub is_failed : {T : Type 0} → Result T ChangeFault → Bool
is_failed (Ok x) = false
is_failed (Err DiskFailed) = true
is_failed (Err OutOfMemory) = false
is_failed (Err TooLarge) = false

-- the store stands behind these records, and a crash at each moment finds the state after the first ones of them
pub record AreThere {D : Type 0} (disk : Ghosts D) (s : State) (records : List (List Event)) (old new : D) (store : Seen) : Type 0 where
  pub stands : Stands store (after_records s records) (disk.held new) (disk.may_leave new)
  pub steps : StepsThrough disk HoldsState after_record s records old new

-- All are there; or those before the first that is too large; or, where memory ran out, the first n, and the next one is
-- not too large; or the disk failed at one of those before the first that is too large.
abbrev pub CommitsSo : {D T : Type 0} → Ghosts D → Limits → State → List (List Event) → D → D → Seen → Result T ChangeFault → Type 0
CommitsSo disk limits s records old new store (Ok x) = (fitting limits s.present.last records ≡ records) × AreThere disk s records old new store
CommitsSo disk limits s records old new store (Err TooLarge) =
    (length (fitting limits s.present.last records) < length records) × AreThere disk s (fitting limits s.present.last records) old new store
CommitsSo disk limits s records old new store (Err OutOfMemory) =
    (n : ℕ) × (n < length (fitting limits s.present.last records)) × AreThere disk s (take n (fitting limits s.present.last records)) old new store
CommitsSo disk limits s records old new store (Err DiskFailed) = StepsThrough disk HoldsState after_record s (fitting limits s.present.last records) old new
