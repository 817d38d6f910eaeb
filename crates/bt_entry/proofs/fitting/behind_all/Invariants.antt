use Rattle.std.proofs.Common.{◌≡◌, ◌-◌, length, take}
use Rattle.std.specs.List.{flat_map}
use Rattle.bt_entry.specs.Spelling.{numbered}
use Rattle.bt_entry.proofs.fitting.behind_all.Given as goal

abbrev pub invariant-loop-numbered : goal.invariant-loop-numbered
invariant-loop-numbered l = l.left ≡ l.initial.left - length (flat_map numbered (take l.numbered-index l.batch))
