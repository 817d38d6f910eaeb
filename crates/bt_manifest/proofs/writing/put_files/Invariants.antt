use Rattle.std.proofs.Common.{◌≡◌, ◌++◌, length, take}
use Rattle.std.specs.Int.{w32, to_be_bytes}
use Rattle.std.specs.List.{flat_map}
use Rattle.bt_manifest.specs.Spelling.{number}
use Rattle.bt_manifest.proofs.writing.put_files.Given as goal

abbrev pub invariant-loop-file : goal.invariant-loop-file
invariant-loop-file l = l.out.items ≡ l.fn.out.items ++ (to_be_bytes w32 (length l.files) ++ flat_map number (take l.file-index l.files))
