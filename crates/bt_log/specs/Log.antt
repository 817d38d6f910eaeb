-- A log that is open for appends.
use Rattle.std.specs.Prelude.{◌≡◌, ◌⊎◌, ◌≤◌, ◌<◌, ℕ, List, ◌++◌, Ok}
use Rattle.bt_outside.specs.Disk.{Files, Settles}
use Rattle.bt_entry.specs.declared.numbered.Numbered.{Numbered}
use Rattle.bt_gate.specs.declared.log_fault.LogFault.{LogFault}
use Rattle.bt_gate.specs.declared.log_fault.LogFault.TheVariants as fault
use Rattle.bt_log.specs.Place.{Place}
use Rattle.bt_log.specs.Segment.{segment, segment_in}

-- the file of the log is a segment of these entries, its closed gate is the end of the log, and nothing of it is pending
pub record IsOpen (log : Place) (first : ℕ) (entries : List Numbered) (held : Files) (may_leave : Files → Type 0) : Type 0 where
  pub reads : segment_in first (held log.file) ≡ Ok (entries, log.end)
  pub settled : Settles log.file (held log.file) may_leave

-- for some first sequence and entries
abbrev pub IsSomeOpen : Place → Files → (Files → Type 0) → Type 0
IsSomeOpen log held may_leave = (first : ℕ) × (entries : List Numbered) × IsOpen log first entries held may_leave

-- the file of the image is a segment of these entries
abbrev pub HasEntries : ℕ → ℕ → List Numbered → Files → Type 0
HasEntries file first entries c = segment first (c file) ≡ Ok entries

-- these entries with the batch behind them
abbrev pub added : List Numbered → List Numbered → List Numbered
added entries batch = entries ++ batch

-- the bytes are a segment of these entries, or of these and the batch behind them
abbrev pub WithOrWithout : ℕ → List Numbered → List Numbered → List ℕ → List ℕ → Type 0
WithOrWithout first entries batch old new = (segment first new ≡ Ok entries) ⊎ (segment first new ≡ Ok (entries ++ batch))

-- why a segment was not loaded: the disk failed as that says, memory ran out, or its bytes have the fault that is named
abbrev pub IsLoadFault : Type 0 → ℕ → (ℕ → Type 0) → LogFault → Type 0
IsLoadFault failed file bad fault.DiskFailed = failed
IsLoadFault failed file bad (fault.Damaged number at) = (number ≡ file) × bad at
IsLoadFault failed file bad (fault.TooLarge n) = ⊥
IsLoadFault failed file bad fault.OutOfMemory = Unit {0}

-- why a record was not added: the disk failed as that says; it is longer than the limit, or memory ran out, and then that holds
abbrev pub IsAppendFault : Type 0 → ℕ → ℕ → Type 0 → LogFault → Type 0
IsAppendFault failed limit n unchanged fault.DiskFailed = (n ≤ limit) × failed
IsAppendFault failed limit n unchanged (fault.Damaged file at) = ⊥
IsAppendFault failed limit n unchanged (fault.TooLarge m) = (limit < n) × (m ≡ n) × unchanged
IsAppendFault failed limit n unchanged fault.OutOfMemory = (n ≤ limit) × unchanged
