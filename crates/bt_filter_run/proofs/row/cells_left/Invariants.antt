use Rattle.std.proofs.Common.{◌≡◌, ◌≤◌, ◌++◌}
use Rattle.bt_types.specs.Cells.{AreShort}
use Rattle.bt_filter_run.proofs.Rows.{AreRead}
use Rattle.bt_filter_run.proofs.row.cells_left.Given as goal

-- the cells so far, and those that are left
abbrev pub invariant-loop-cells : goal.invariant-loop-cells
invariant-loop-cells g l = record {
  same : g.X.Reading.same l.initial.x l.x;
  most : g.R.Rows.most l.rows ≤ g.R.Rows.most l.initial.rows;
  read : AreRead l.cells (g.R.Rows.last_cell l.rows);
  short : AreShort l.cells;
  key : g.R.Rows.key_at_hand l.rows ≡ g.R.Rows.key_at_hand l.initial.rows;
  cells : g.X.Reading.tells l.initial.x → l.cells ++ (g.R.Rows.left l.rows l.x).cells ≡ (g.R.Rows.left l.initial.rows l.initial.x).cells;
  rows : g.X.Reading.tells l.initial.x → (g.R.Rows.left l.rows l.x).rows ≡ (g.R.Rows.left l.initial.rows l.initial.x).rows;
}

abbrev pub decreases-loop-cells : goal.decreases-loop-cells
decreases-loop-cells g l = g.R.Rows.most l.rows
