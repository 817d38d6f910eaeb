use Rattle.std.proofs.Common.{◌≡◌, ◌++◌, map}
use Rattle.std.specs.Slice.Iter.{chunk_by_rest}
use Rattle.serde_json.specs.View.{view}
use Rattle.bt_messages.specs.Rows.{is_same_column, runs_of, shown_column}
use Rattle.bt_messages.proofs.row_value.column_values.Given as goal

-- the values so far, and those of the columns that are left
abbrev pub invariant-loop-column : goal.invariant-loop-column
invariant-loop-column l = map view l.items.items ++ map shown_column (runs_of is_same_column (chunk_by_rest l.column-iterator)) ≡ map shown_column (runs_of is_same_column l.cells)
