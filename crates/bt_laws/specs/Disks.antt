-- The files of a disk, of which what they stand for is known.
use Rattle.std.specs.Prelude.{ℕ, ◌<◌, ◌≤◌, List, length}
use Rattle.std.specs.List.{AllByRecursion}
use Rattle.bt_outside.specs.Disk.{Files, max_length}
use Rattle.bt_state.specs.State.{State}
use Rattle.bt_store.specs.Held.{HoldsState}
use Rattle.bt_laws.specs.States.{IsValid}

-- each is a byte
abbrev pub AreBytes : List ℕ → Type 0
AreBytes bytes = AllByRecursion (λ b. b < 256) bytes

-- each file has bytes, not more than a file may have
abbrev pub AreFilesOfBytes : Files → Type 0
AreFilesOfBytes c = (file : ℕ) → AreBytes (c file) × (length (c file) ≤ max_length)

-- the state that files stand for is valid
abbrev pub HeldValid : Type 0
HeldValid = (s : State) (c : Files) → AreFilesOfBytes c → HoldsState s c → IsValid s
