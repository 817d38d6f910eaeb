use Rattle.std.proofs.Common.{◌≡◌, drop}
use Rattle.bt_outside.specs.DiskImage.{files_of}
use Rattle.bt_outside.proofs.image.find_bytes.Given as goal

abbrev pub invariant-loop-file : goal.invariant-loop-file
invariant-loop-file l = files_of l.files l.number ≡ files_of (drop l.file-index l.files) l.number
