use Rattle.std.proofs.Common.{◌≡◌}
use Rattle.std.proofs.lemmas.List.Filters.{FiltersInPlace}
use Rattle.bt_filter_run.specs.Steps.{passes}
use Rattle.bt_filter_run.proofs.cell_test.CellTest.kept.Given as goal

abbrev pub invariant-loop-place : goal.invariant-loop-place
invariant-loop-place l = record {
  same : l.self ≡ l.initial.self;
  kept : FiltersInPlace (passes l.initial.self) l.initial.cells.items l.cells.items l.kept l.place;
}
