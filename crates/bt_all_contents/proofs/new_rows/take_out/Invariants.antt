use Rattle.std.proofs.Common.{◌≡◌, [], cond}
use Rattle.std.specs.List.{list_any}
use Rattle.std.specs.BTreeMap.{is_at}
use Rattle.std.specs.Vec.Iter.{into_iter_items}
use Rattle.bt_all_contents.specs.AllContents.{AreTables, RowAt, at_cmp, cells_there}
use Rattle.bt_all_contents.proofs.new_rows.take_out.Given as goal

-- taking out the places that are left leads where taking out all leads
abbrev pub invariant-loop-at : goal.invariant-loop-at
invariant-loop-at l =
    (goal.iterator-loop-at).can_next l.at-iterator
    × (goal.iterator-loop-at).is_finite l.at-iterator
    × AreTables l.tables.entries
    × ((a : RowAt) → cond (list_any (is_at (at_cmp a)) (into_iter_items l.at-iterator)) [] (cells_there l.tables.entries a) ≡ cond (list_any (is_at (at_cmp a)) (into_iter_items l.initial.at-iterator)) [] (cells_there l.initial.tables.entries a))
