use Rattle.std.proofs.Common.{◌≡◌}
use Rattle.std.specs.Vec.Iter.{into_iter_items}
use Rattle.bt_table_replies.specs.Modifications.{after_changes}
use Rattle.bt_table_replies.proofs.family_changes.change_families.Given as goal

-- the changes that are left lead where all lead
abbrev pub invariant-loop-change : goal.invariant-loop-change
invariant-loop-change l = after_changes (into_iter_items l.change-iterator) l.families ≡ after_changes l.fn.changes l.initial.families
