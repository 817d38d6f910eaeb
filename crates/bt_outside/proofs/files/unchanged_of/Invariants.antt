use Rattle.std.proofs.Common.{◌≡◌, ◌++◌, ℕ, List, take}
use Rattle.bt_outside.specs.declared.image.FileBytes.{FileBytes}
use Rattle.bt_outside.specs.FileStates.{IsPlace}
use Rattle.bt_outside.specs.DiskImage.{files_of}
use Rattle.bt_outside.proofs.files.unchanged_of.Given as goal

abbrev pub invariant-loop-file : goal.invariant-loop-file
invariant-loop-file l = (n : ℕ) (more : List FileBytes) → ((k : ℕ) → IsPlace l.files n k → ⊥) → files_of (l.rest.items ++ more) n ≡ files_of (take l.file-index l.base ++ more) n
