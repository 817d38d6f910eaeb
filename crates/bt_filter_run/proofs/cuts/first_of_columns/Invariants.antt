use Rattle.bt_filter_run.proofs.Columns.{ColumnsInPlace}
use Rattle.bt_filter_run.proofs.cuts.first_of_columns.Given as goal

abbrev pub invariant-loop-place : goal.invariant-loop-place
invariant-loop-place l = ColumnsInPlace l.most l.fn.cells l.cells.items l.kept l.count l.place
