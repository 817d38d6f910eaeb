use Rattle.std.proofs.Common.{◌≡◌, ◌-◌, length, take}
use Rattle.std.specs.List.{flat_map}
use Rattle.bt_entry.specs.Spelling.{family}
use Rattle.bt_entry.proofs.fitting.behind_families.Given as goal

abbrev pub invariant-loop-family : goal.invariant-loop-family
invariant-loop-family l = l.left ≡ l.initial.left - length (flat_map family (take l.family-index l.families))
