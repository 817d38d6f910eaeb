use Rattle.std.proofs.Common.{◌≡◌, None}
use Rattle.std.specs.List.Sorted.{IsStrictlySortedBy}
use Rattle.std.specs.Map.{keys_of}
use Rattle.bt_all_contents.specs.AllContents.{AreNewRows, AreTables, RowAt, at_cmp, cells_there, new_at, row_or}
use Rattle.bt_all_contents.proofs.new_rows.put_each.Given as goal

-- the rows that are left are not there yet; the others are as they were; and those that are left lead where all lead
abbrev pub invariant-loop-at : goal.invariant-loop-at
invariant-loop-at l = (goal.iterator-loop-at).can_next l.at-iterator
    × IsStrictlySortedBy at_cmp (keys_of l.at-iterator)
    × AreTables l.tables.entries
    × AreNewRows l.at-iterator l.tables.entries
    × ((a : RowAt) → new_at l.initial.at-iterator a ≡ None → new_at l.at-iterator a ≡ None)
    × ((a : RowAt) → new_at l.initial.at-iterator a ≡ None → cells_there l.tables.entries a ≡ cells_there l.initial.tables.entries a)
    × ((a : RowAt) → row_or (new_at l.at-iterator a) (cells_there l.tables.entries a) ≡ row_or (new_at l.initial.at-iterator a) (cells_there l.initial.tables.entries a))
