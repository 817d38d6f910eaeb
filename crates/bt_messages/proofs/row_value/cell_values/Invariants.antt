use Rattle.std.proofs.Common.{◌≡◌, ◌++◌, drop, map}
use Rattle.serde_json.specs.View.{view}
use Rattle.bt_messages.specs.Rows.{shown_cell}
use Rattle.bt_messages.proofs.row_value.cell_values.Given as goal

-- the values so far, and those of the cells that are left
abbrev pub invariant-loop-cell : goal.invariant-loop-cell
invariant-loop-cell l = map view l.items.items ++ map shown_cell (drop l.cell-index l.cells) ≡ map shown_cell l.cells
