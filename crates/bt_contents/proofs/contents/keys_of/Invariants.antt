use Rattle.std.proofs.Common.{◌≡◌, ◌++◌}
use Rattle.std.specs.Map.{keys_of}
use Rattle.bt_contents.proofs.contents.keys_of.Given as goal

-- the keys of the rows that are left are still to come
abbrev pub invariant-loop-key : goal.invariant-loop-key
invariant-loop-key l = (goal.iterator-loop-key).can_next l.key-iterator
    × l.keys ++ keys_of l.key-iterator ≡ keys_of l.initial.key-iterator
