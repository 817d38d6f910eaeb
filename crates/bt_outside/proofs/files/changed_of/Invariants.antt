use Rattle.std.proofs.Common.{take}
use Rattle.bt_outside.specs.DiskImage.{IsImageOf}
use Rattle.bt_outside.proofs.files.changed_of.Given as goal

abbrev pub invariant-loop-file : goal.invariant-loop-file
invariant-loop-file l = IsImageOf l.choice l.image.items (take l.file-index l.files)
