use Rattle.std.proofs.Common.{◌≡◌}
use Rattle.std.specs.Option.{option_or}
use Rattle.std.specs.Vec.Iter.{into_iter_items}
use Rattle.bt_rmw.specs.declared.column.Column.{Column}
use Rattle.bt_rmw.specs.Held.{held_at, latest_stamped}
use Rattle.bt_rmw.proofs.outcome.latest_of.Given as goal

-- each column has its first cell, or else it is still to come
abbrev pub invariant-loop-cell : goal.invariant-loop-cell
invariant-loop-cell l = (goal.iterator-loop-cell).can_next l.cell-iterator
    × (goal.iterator-loop-cell).is_finite l.cell-iterator
    × ((k : Column) → option_or (held_at l.latest.entries k) (latest_stamped (into_iter_items l.cell-iterator) k) ≡ latest_stamped (into_iter_items l.initial.cell-iterator) k)
