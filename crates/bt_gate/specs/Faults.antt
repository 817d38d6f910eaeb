-- Failures of the disk, as calls that stop at the first one count them.
use Rattle.std.specs.Prelude.{IsTrue}
use Rattle.bt_base.specs.Counts.{Risen}
use Rattle.bt_outside.specs.declared.disk.Disk.{Ghosts}
use Rattle.bt_gate.specs.declared.log_fault.LogFault.{LogFault}
use Rattle.bt_gate.specs.declared.log_fault.LogFault.TheVariants as fault

-- a call of the disk failed and was counted, and there was none behind it
abbrev pub Failed : {D : Type 0} → Ghosts D → D → D → Type 0
Failed disk old new = Risen (disk.faults old) (disk.faults new) × IsTrue (disk.failing new)

-- the same of a write, a cut or a sync
abbrev pub WriteFailed : {D : Type 0} → Ghosts D → D → D → Type 0
WriteFailed disk old new = Risen (disk.faults old) (disk.faults new) × Risen (disk.write_faults old) (disk.write_faults new) × IsTrue (disk.failing new)

-- the disk failed as that says, or memory ran out; it is no other fault
abbrev pub IsDiskFault : Type 0 → LogFault → Type 0
IsDiskFault failed fault.DiskFailed = failed
IsDiskFault failed (fault.Damaged file at) = ⊥
IsDiskFault failed (fault.TooLarge n) = ⊥
IsDiskFault failed fault.OutOfMemory = Unit {0}
