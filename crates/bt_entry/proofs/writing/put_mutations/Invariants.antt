use Rattle.std.proofs.Common.{◌≡◌, ◌++◌, length, take}
use Rattle.std.specs.Int.{w32, to_be_bytes}
use Rattle.std.specs.List.{flat_map, AllByRecursion}
use Rattle.bt_entry.specs.Grammar.{IsSpellableMutation}
use Rattle.bt_entry.specs.Spelling.{mutation}
use Rattle.bt_entry.proofs.writing.put_mutations.Given as goal

abbrev pub invariant-loop-mutation : goal.invariant-loop-mutation
invariant-loop-mutation l = AllByRecursion IsSpellableMutation (take l.mutation-index l.mutations) × (l.out.items ≡ l.fn.out.items ++ (to_be_bytes w32 (length l.mutations) ++ flat_map mutation (take l.mutation-index l.mutations)))
