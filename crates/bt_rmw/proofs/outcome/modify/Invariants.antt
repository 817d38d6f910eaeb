use Rattle.std.proofs.Common.{◌≡◌, ◌+◌, length}
use Rattle.std.specs.Option.{option_or}
use Rattle.std.specs.List.Sorted.{IsStrictlySortedBy}
use Rattle.std.specs.Map.{keys_of}
use Rattle.std.specs.Vec.Iter.{into_iter_items}
use Rattle.bt_rmw.specs.declared.column.Column.{Column}
use Rattle.bt_rmw.specs.Columns.{column_order}
use Rattle.bt_rmw.specs.Held.{AreShort, cells_of, held_at, latest_stamped}
use Rattle.bt_rmw.specs.Modified.{made_by, modified}
use Rattle.bt_rmw.proofs.outcome.modify.Given as goal

-- the rules that are left lead where all lead
abbrev pub invariant-loop-rule : goal.invariant-loop-rule
invariant-loop-rule l = (goal.iterator-loop-rule).can_next l.rule-iterator
    × (goal.iterator-loop-rule).is_finite l.rule-iterator
    × (l.index + length (into_iter_items l.rule-iterator) ≡ length l.fn.rules)
    × (made_by l.moment l.fn.latest l.index (into_iter_items l.rule-iterator) (cells_of l.made.entries) ≡ modified l.moment l.fn.rules l.fn.latest)
    × AreShort l.made.entries
    × IsStrictlySortedBy column_order (keys_of l.made.entries)
    × ((k : Column) → option_or (held_at l.made.entries k) (held_at l.latest.entries k) ≡ option_or (held_at l.made.entries k) (latest_stamped l.fn.latest k))
