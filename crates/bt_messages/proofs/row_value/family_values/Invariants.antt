use Rattle.std.proofs.Common.{◌≡◌, ◌++◌, map}
use Rattle.std.specs.Slice.Iter.{chunk_by_rest}
use Rattle.serde_json.specs.View.{view}
use Rattle.bt_messages.specs.Rows.{is_same_family, runs_of, shown_family}
use Rattle.bt_messages.proofs.row_value.family_values.Given as goal

-- the values so far, and those of the families that are left
abbrev pub invariant-loop-family : goal.invariant-loop-family
invariant-loop-family l = map view l.items.items ++ map shown_family (runs_of is_same_family (chunk_by_rest l.family-iterator)) ≡ map shown_family (runs_of is_same_family l.cells)
