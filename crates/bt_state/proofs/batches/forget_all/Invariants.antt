use Rattle.std.proofs.Common.{◌≡◌, length}
use Rattle.std.specs.Vec.Iter.{into_iter_items, into_iter_len}
use Rattle.bt_state.specs.Batches.{without_all}
use Rattle.bt_state.proofs.batches.forget_all.Given as goal

-- the tables that are left lead on to the rows without all
abbrev pub invariant-loop-incarnation : goal.invariant-loop-incarnation
invariant-loop-incarnation l =
    (without_all (into_iter_items l.incarnation-iterator) l.contents ≡ without_all l.fn.incarnations.items l.initial.contents)
    × (into_iter_len l.incarnation-iterator ≡ length (into_iter_items l.incarnation-iterator))
