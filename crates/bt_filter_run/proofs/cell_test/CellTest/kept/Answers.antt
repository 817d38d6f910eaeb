use Rattle.std.proofs.Common.{arith, rules}
use Rattle.std.proofs.lemmas.List.Filters.{FiltersInPlace-more_swap, FiltersInPlace-more_no, FiltersInPlace-all}
use Rattle.bt_filter_run.proofs.cell_test.CellTest.kept.Goals as goal
use Rattle.bt_filter_run.proofs.cell_test.CellTest.kept.Goals.{then-branch, else-branch}

pub loop-place-preserved : goal.loop-place-preserved
loop-place-preserved c = elim c.if-branch.branch [
  | then-branch w ↦ record {
    same = search rules;
    kept = rw (w.cells-is, w.kept-is) (FiltersInPlace-more_swap c.loop-place.invariant.kept (omega arith) (search rules) c.index.ensures w.swap.ensures.by_index);
  }
  | else-branch w ↦ record {
    same = search rules;
    kept = rw (w.cells-is, w.kept-is) (FiltersInPlace-more_no c.loop-place.invariant.kept (omega arith) (search rules) c.index.ensures);
  }
]

pub returns : goal.returns
returns c = search (rules, FiltersInPlace-all)
