use Rattle.std.proofs.Common.{◌≡◌, ◌++◌}
use Rattle.std.specs.List.{take_while}
use Rattle.std.specs.Map.{keys_of}
use Rattle.bt_row.specs.Extents.{reaches}
use Rattle.bt_row.proofs.extent.Extent.keys_in.Given as goal

-- what is still to come of the keys that are reached
abbrev pub invariant-loop-key : goal.invariant-loop-key
invariant-loop-key g l = (goal.iterator-loop-key g).can_next l.key-iterator
    × l.keys.items ++ take_while (reaches l.self) (keys_of l.key-iterator) ≡ take_while (reaches l.self) (keys_of l.initial.key-iterator)
