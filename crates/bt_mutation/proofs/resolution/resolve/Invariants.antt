use Rattle.std.proofs.Common.{◌≡◌, ◌++◌, length}
use Rattle.std.specs.List.{AllByRecursion}
use Rattle.std.specs.Vec.Iter.{into_iter_items, into_iter_len}
use Rattle.bt_entry.specs.Grammar.{IsSpellableMutation}
use Rattle.bt_mutation.specs.Checks.{IsResolvable}
use Rattle.bt_mutation.specs.Resolution.{resolved}
use Rattle.bt_mutation.proofs.resolution.resolve.Given as goal

-- some mutations are resolved, and the rest can be
abbrev pub invariant-loop-asked : goal.invariant-loop-asked
invariant-loop-asked l =
    (l.mutations ++ resolved l.moment (into_iter_items l.asked-iterator) ≡ resolved l.moment l.fn.list)
    × AllByRecursion IsSpellableMutation l.mutations
    × AllByRecursion IsResolvable (into_iter_items l.asked-iterator)
    × (into_iter_len l.asked-iterator ≡ length (into_iter_items l.asked-iterator))
