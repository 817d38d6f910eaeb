use Rattle.std.proofs.Common.{◌≡◌, ◌++◌, map, take, drop}
use Rattle.bt_filter.specs.Meaning.{with_label}
use Rattle.bt_filter_run.proofs.marking.labelled.Given as goal

abbrev pub invariant-loop-cell : goal.invariant-loop-cell
invariant-loop-cell l = l.cell-items ≡ map (with_label l.label) (take l.cell-index l.fn.cells) ++ drop l.cell-index l.fn.cells
