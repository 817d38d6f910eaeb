use Rattle.std.proofs.Common.{◌≡◌}
use Rattle.std.specs.List.Sorted.{IsStrictlySortedBy}
use Rattle.std.specs.Map.{keys_of}
use Rattle.bt_row.specs.declared.cell_key.CellKey.{CellKey}
use Rattle.bt_row.specs.Keys.{key_cmp}
use Rattle.bt_row.specs.Plans.{HasPlaces, outcome_or, value_at}
use Rattle.bt_row.proofs.plan.settle_all.Given as goal

-- the outcomes that are left lead where all lead
abbrev pub invariant-loop-key : goal.invariant-loop-key
invariant-loop-key l = (goal.iterator-loop-key).can_next l.key-iterator
    × IsStrictlySortedBy key_cmp (keys_of l.key-iterator)
    × HasPlaces l.key-iterator l.cells.entries
    × IsStrictlySortedBy key_cmp (keys_of l.cells.entries)
    × ((k : CellKey) → outcome_or (value_at l.key-iterator k) (value_at l.cells.entries k) ≡ outcome_or (value_at l.initial.key-iterator k) (value_at l.initial.cells.entries k))
