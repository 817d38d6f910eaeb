use Rattle.std.proofs.Common.{◌≡◌, ◌++◌}
use Rattle.std.specs.List.Sorted.{IsStrictlySortedBy}
use Rattle.std.specs.Ordering.{nat_cmp}
use Rattle.std.specs.Map.{keys_of}
use Rattle.bt_schema.proofs.schema.copies.copy_names.Given as goal

-- what is copied, and what is left
abbrev pub invariant-loop-incarnation : goal.invariant-loop-incarnation
invariant-loop-incarnation l = (l.copy.entries ++ l.incarnation-iterator ≡ l.names.entries) × IsStrictlySortedBy nat_cmp (keys_of l.names.entries)
