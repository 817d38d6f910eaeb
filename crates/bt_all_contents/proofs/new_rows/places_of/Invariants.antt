use Rattle.std.proofs.Common.{◌≡◌, ◌++◌}
use Rattle.std.specs.Map.{keys_of}
use Rattle.bt_all_contents.proofs.new_rows.places_of.Given as goal

-- the places of the rows that are left are still to come
abbrev pub invariant-loop-at : goal.invariant-loop-at
invariant-loop-at l = (goal.iterator-loop-at).can_next l.at-iterator
    × l.places.items ++ keys_of l.at-iterator ≡ keys_of l.initial.at-iterator
