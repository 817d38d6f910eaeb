use Rattle.std.proofs.Common.{◌≡◌, ℕ, List, ◌||◌, length}
use Rattle.std.specs.Vec.Iter.{into_iter_items, into_iter_len}
use Rattle.bt_range.specs.RowSets.{AreApart, AreFilled, AreAscending, StartFirst, is_in_any}
use Rattle.bt_range.proofs.merging.merged.Given as goal

-- what is merged and what is left hold together what all hold
abbrev pub invariant-loop-range : goal.invariant-loop-range
invariant-loop-range l =
    AreApart l.done.items
    × AreFilled (into_iter_items l.range-iterator)
    × AreAscending (into_iter_items l.range-iterator)
    × StartFirst l.done.items (into_iter_items l.range-iterator)
    × ((k : List ℕ) → (is_in_any l.done.items k || is_in_any (into_iter_items l.range-iterator) k) ≡ is_in_any (into_iter_items l.initial.range-iterator) k)
    × (into_iter_len l.range-iterator ≡ length (into_iter_items l.range-iterator))
