use Rattle.std.proofs.Common.{◌≡◌, ◌≤◌, length}
use Rattle.std.specs.Vec.Iter.{into_iter_items, into_iter_len}
use Rattle.bt_entry.specs.Grammar.{last_moment}
use Rattle.bt_store.proofs.Loads.{Replays}
use Rattle.bt_store.proofs.loaded.replay.Given as goal

abbrev pub invariant-loop-numbered : goal.invariant-loop-numbered
invariant-loop-numbered l =
    (l.present.floor ≤ last_moment)
    × Replays l.snapshot (into_iter_items l.initial.numbered-iterator) l.present (into_iter_items l.numbered-iterator)
    × (into_iter_len l.numbered-iterator ≡ length (into_iter_items l.numbered-iterator))
