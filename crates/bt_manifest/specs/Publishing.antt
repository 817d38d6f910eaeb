-- What publishing does to a disk.
use Rattle.std.specs.Prelude.{◌≡◌, ◌⊎◌, ℕ, ◌+◌, ◌%◌, List, [], ◌∷◌, Option, None, Some, Ok, Err, IsTrue}
use Rattle.bt_base.specs.Counts.{counted}
use Rattle.bt_outside.specs.declared.disk.Disk.{Ghosts}
use Rattle.bt_outside.specs.Disk.{Files, Alike, NoMore}
use Rattle.bt_crash.specs.Steps.{Reaches, Anyhow}
use Rattle.bt_gate.specs.Gate.{IsOpened}
use Rattle.bt_gate.specs.declared.log_fault.LogFault.{LogFault}
use Rattle.bt_gate.specs.declared.log_fault.LogFault.TheVariants as fault
use Rattle.bt_manifest.specs.declared.snapshot.Snapshot.{Snapshot}
use Rattle.bt_manifest.specs.Slots.{Slot, slot_at, counting}

-- the generation is one above the one that counts, or 1
abbrev pub IsNext : Slot → ℕ → Type 0
IsNext (Err file) generation = ⊥
IsNext (Ok None) generation = generation ≡ 1
IsNext (Ok (Some x)) generation = generation ≡ x.1 + 1

-- only the slot of the generation was written, and the old snapshot counts or the new one
abbrev pub OldOrNew : (Files → Type 0) → Slot → Snapshot → ℕ → Files → Type 0
OldOrNew images old snapshot generation c =
    Reaches (generation % 2) Anyhow images c × ((counting c ≡ old) ⊎ (counting c ≡ Ok (Some (snapshot, generation))))

-- the slot says what it said, or nothing
abbrev pub SameOrClosed : ℕ → List ℕ → List ℕ → Type 0
SameOrClosed file old new = (slot_at file new ≡ slot_at file old) ⊎ (slot_at file new ≡ Ok None)

-- the slot says what it said, or nothing, or its gate is opened before these bytes
abbrev pub SlotStep : ℕ → List ℕ → List ℕ → List ℕ → Type 0
SlotStep file bytes old new = SameOrClosed file old new ⊎ IsOpened [] bytes new

-- the first byte, where there is one
abbrev pub HasGate : Option ℕ → List ℕ → Type 0
HasGate None bytes = bytes ≡ []
HasGate (Some gate) bytes = (rest : List ℕ) × (bytes ≡ gate ∷ rest)

-- there is no gate, or it is opened: no other byte may be written over
abbrev pub CanClose : List ℕ → Type 0
CanClose bytes = HasGate None bytes ⊎ HasGate (Some 1) bytes

-- nothing has changed
pub record Unchanged {D : Type 0} (disk : Ghosts D) (old new : D) : Type 0 where
  pub write_faults : disk.write_faults new ≡ disk.write_faults old
  pub held : disk.tells → Alike (disk.held old) (disk.held new)
  pub images : disk.tells → NoMore (disk.may_leave old) (disk.may_leave new)

-- a write or a sync failed; or a length or a read failed, before anything has changed
abbrev pub SlotFailed : {D : Type 0} → Ghosts D → D → D → Type 0
SlotFailed disk old new = (disk.write_faults new ≡ counted (disk.write_faults old)) ⊎ Unchanged disk old new

-- the disk failed so, once and in its last call; or memory ran out before the first one; it is no other fault
abbrev pub IsPublishFault : {D : Type 0} → Ghosts D → D → D → LogFault → Type 0
IsPublishFault disk old new fault.DiskFailed = (disk.faults new ≡ counted (disk.faults old)) × IsTrue (disk.failing new) × SlotFailed disk old new
IsPublishFault disk old new (fault.Damaged file at) = ⊥
IsPublishFault disk old new (fault.TooLarge n) = ⊥
IsPublishFault disk old new fault.OutOfMemory = new ≡ old
