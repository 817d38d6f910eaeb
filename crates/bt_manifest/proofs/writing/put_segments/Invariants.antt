use Rattle.std.proofs.Common.{◌≡◌, ◌++◌, length, take}
use Rattle.std.specs.Int.{w32, to_be_bytes}
use Rattle.std.specs.List.{flat_map}
use Rattle.bt_manifest.specs.Spelling.{segment}
use Rattle.bt_manifest.proofs.writing.put_segments.Given as goal

abbrev pub invariant-loop-segment : goal.invariant-loop-segment
invariant-loop-segment l = l.out.items ≡ l.fn.out.items ++ (to_be_bytes w32 (length l.segments) ++ flat_map segment (take l.segment-index l.segments))
