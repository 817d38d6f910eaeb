use Rattle.std.proofs.Common.{◌≡◌, ◌++◌}
use Rattle.std.specs.List.Sorted.{IsStrictlySortedBy}
use Rattle.std.specs.Ordering.{nat_cmp}
use Rattle.std.specs.Cmp.Lexicographic.{slice_cmp}
use Rattle.std.specs.Map.{keys_of}
use Rattle.bt_schema.proofs.schema.copies.copy_tables.Given as goal

-- what is copied, and what is left
abbrev pub invariant-loop-name : goal.invariant-loop-name
invariant-loop-name l = (l.copy.entries ++ l.name-iterator ≡ l.tables.entries) × IsStrictlySortedBy (slice_cmp nat_cmp) (keys_of l.tables.entries)
