use Rattle.std.proofs.Common.{◌≡◌, ◌++◌}
use Rattle.bt_row.proofs.Plans.{wanted_keys}
use Rattle.bt_row.proofs.plan.Plan.new_keys.Given as goal

-- the keys of the outcomes that are left are still to come
abbrev pub invariant-loop-key : goal.invariant-loop-key
invariant-loop-key l = (goal.iterator-loop-key).can_next l.key-iterator
    × l.keys.items ++ wanted_keys l.key-iterator ≡ wanted_keys l.initial.key-iterator
