use Rattle.std.proofs.Common.{◌≡◌, ◌++◌}
use Rattle.std.specs.Prelude.{filter}
use Rattle.std.specs.List.{list_any}
use Rattle.std.specs.Map.{keys_of}
use Rattle.bt_row.specs.Extents.{is_covered}
use Rattle.bt_contents.proofs.contents.keys_of_rows_with.Given as goal

-- the keys of the rows that are left are still to come
abbrev pub invariant-loop-key : goal.invariant-loop-key
invariant-loop-key l = (goal.iterator-loop-key).can_next l.key-iterator
    × l.keys ++ keys_of (filter (λ r. list_any (is_covered l.extent) (keys_of r.1.cells.entries)) l.key-iterator) ≡ keys_of (filter (λ r. list_any (is_covered l.extent) (keys_of r.1.cells.entries)) l.initial.key-iterator)
