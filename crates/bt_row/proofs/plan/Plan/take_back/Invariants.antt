use Rattle.std.proofs.Common.{◌≡◌, None, cond}
use Rattle.std.specs.List.Sorted.{IsStrictlySortedBy}
use Rattle.std.specs.Map.{keys_of}
use Rattle.bt_row.specs.declared.cell_key.CellKey.{CellKey}
use Rattle.bt_row.specs.Keys.{key_cmp}
use Rattle.bt_row.specs.Plans.{is_new_at, value_at}
use Rattle.bt_row.proofs.plan.Plan.take_back.Given as goal

-- taking out the new ones that are left leads where taking out all leads
abbrev pub invariant-loop-key : goal.invariant-loop-key
invariant-loop-key l = (goal.iterator-loop-key).can_next l.key-iterator
    × IsStrictlySortedBy key_cmp (keys_of l.key-iterator)
    × IsStrictlySortedBy key_cmp (keys_of l.cells.entries)
    × ((k : CellKey) → cond (is_new_at l.key-iterator k) None (value_at l.cells.entries k) ≡ cond (is_new_at l.initial.key-iterator k) None (value_at l.initial.cells.entries k))
