-- What loading answers.
use Rattle.std.specs.Prelude.{◌≡◌, Option, None, Some, Result, Ok, Err}
use Rattle.bt_outside.specs.declared.disk.Disk.{Ghosts}
use Rattle.bt_gate.specs.Faults.{Failed}
use Rattle.bt_gate.specs.declared.log_fault.LogFault.{LogFault}
use Rattle.bt_gate.specs.declared.log_fault.LogFault.TheVariants as fault
use Rattle.bt_manifest.specs.Slots.{Generation, Slot, CanStand}

-- what counts, or that a slot is outside the grammar, and from its first byte on; unless the disk failed or memory ran out
abbrev pub Answers : Result (Option Generation) LogFault → Slot → Type 0
Answers (Ok o) said = said ≡ Ok o
Answers (Err (fault.Damaged file at)) said = (said ≡ Err file) × (at ≡ 0)
Answers (Err (fault.TooLarge n)) said = ⊥
Answers (Err fault.DiskFailed) said = Unit {0}
Answers (Err fault.OutOfMemory) said = Unit {0}

-- where the disk failed, its last call did; nothing is too large
abbrev pub IsLoadFault : {D : Type 0} → Ghosts D → D → D → LogFault → Type 0
IsLoadFault disk old new fault.DiskFailed = Failed disk old new
IsLoadFault disk old new (fault.Damaged file at) = Unit {0}
IsLoadFault disk old new (fault.TooLarge n) = ⊥
IsLoadFault disk old new fault.OutOfMemory = Unit {0}

-- what was read can be written
abbrev pub CouldStand : Option Generation → Type 0
CouldStand None = Unit {0}
CouldStand (Some x) = CanStand x.0 x.1

-- a slot's bytes may be outside the format, or memory runs out
abbrev pub IsSlotFault : LogFault → Type 0
IsSlotFault fault.DiskFailed = ⊥
IsSlotFault (fault.Damaged file at) = Unit {0}
IsSlotFault (fault.TooLarge n) = ⊥
IsSlotFault fault.OutOfMemory = Unit {0}
