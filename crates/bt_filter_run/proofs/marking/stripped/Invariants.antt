use Rattle.std.proofs.Common.{◌≡◌, ◌++◌, map, take, drop}
use Rattle.bt_filter.specs.Meaning.{without_value}
use Rattle.bt_filter_run.proofs.marking.stripped.Given as goal

abbrev pub invariant-loop-cell : goal.invariant-loop-cell
invariant-loop-cell l = l.cell-items ≡ map without_value (take l.cell-index l.fn.cells) ++ drop l.cell-index l.fn.cells
