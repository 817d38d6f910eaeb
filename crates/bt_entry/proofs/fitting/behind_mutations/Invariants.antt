use Rattle.std.proofs.Common.{◌≡◌, ◌-◌, length, take}
use Rattle.std.specs.List.{flat_map}
use Rattle.bt_entry.specs.Spelling.{mutation}
use Rattle.bt_entry.proofs.fitting.behind_mutations.Given as goal

abbrev pub invariant-loop-mutation : goal.invariant-loop-mutation
invariant-loop-mutation l = l.left ≡ l.initial.left - length (flat_map mutation (take l.mutation-index l.mutations))
