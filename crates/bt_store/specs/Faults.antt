-- Why a store was not loaded, or a batch not committed.
use Rattle.std.specs.Prelude.{◌≡◌, ◌⊎◌, ◌<◌, ℕ, ◌+◌, List, length, Result, Err}
use Rattle.bt_entry.specs.declared.numbered.Numbered.{Numbered}
use Rattle.bt_entry.specs.Spelling.{spelling}
use Rattle.bt_gate.specs.declared.log_fault.LogFault.{LogFault}
use Rattle.bt_gate.specs.declared.log_fault.LogFault.TheVariants as fault
use Rattle.bt_state.specs.State.{greatest_sequence}
use Rattle.bt_store.specs.Stands.{Seen}

-- a record of so many bytes is longer than the limit, or its entries would pass the greatest sequence
abbrev pub IsTooLong : Seen → ℕ → ℕ → Type 0
IsTooLong store bytes entries = (store.limits.body < bytes) ⊎ (greatest_sequence < store.present.last + entries)

abbrev pub IsTooLarge : Seen → List Numbered → Type 0
IsTooLarge store batch = IsTooLong store (length (spelling batch)) (length batch)

-- why a record of so many bytes and entries was not made: it is too large, or memory ran out
abbrev pub IsStageFault : Seen → ℕ → ℕ → LogFault → Type 0
IsStageFault store bytes entries fault.DiskFailed = ⊥
IsStageFault store bytes entries (fault.Damaged file at) = ⊥
IsStageFault store bytes entries (fault.TooLarge n) = IsTooLong store bytes entries × (n ≡ bytes)
IsStageFault store bytes entries fault.OutOfMemory = Unit {0}

-- what is too large is refused as that, unless memory runs out
abbrev pub IsRefused : {T : Type 0} → ℕ → Result T LogFault → Type 0
IsRefused n result = (result ≡ Err (fault.TooLarge n)) ⊎ (result ≡ Err fault.OutOfMemory)

-- why a batch was not committed: the disk failed as that says; or it is too large or memory ran out, and then nothing has changed
abbrev pub IsCommitFault : Seen → List Numbered → Type 0 → Type 0 → LogFault → Type 0
IsCommitFault store batch failed unchanged fault.DiskFailed = failed
IsCommitFault store batch failed unchanged (fault.Damaged file at) = ⊥
IsCommitFault store batch failed unchanged (fault.TooLarge n) = IsTooLarge store batch × (n ≡ length (spelling batch)) × unchanged
IsCommitFault store batch failed unchanged fault.OutOfMemory = unchanged

-- why entries were not followed: one of them may not come, or memory ran out
abbrev pub IsReplayFault : ℕ → Type 0 → LogFault → Type 0
IsReplayFault file bad fault.DiskFailed = ⊥
IsReplayFault file bad (fault.Damaged number at) = (number ≡ file) × (at ≡ 0) × bad
IsReplayFault file bad (fault.TooLarge n) = ⊥
IsReplayFault file bad fault.OutOfMemory = Unit {0}

-- why nothing was loaded: the disk failed as that says, memory ran out, or the files are broken there
abbrev pub IsLoadFault : Type 0 → (ℕ → ℕ → Type 0) → LogFault → Type 0
IsLoadFault failed broken fault.DiskFailed = failed
IsLoadFault failed broken (fault.Damaged file at) = broken file at
IsLoadFault failed broken (fault.TooLarge n) = ⊥
IsLoadFault failed broken fault.OutOfMemory = Unit {0}
