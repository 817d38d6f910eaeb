use Rattle.std.proofs.Common.{drop}
use Rattle.bt_outside.specs.Model.{Touched}
use Rattle.bt_outside.proofs.files.is_touched.Given as goal

abbrev pub invariant-loop-range : goal.invariant-loop-range
invariant-loop-range l = record {
  found : Touched (drop l.range-index l.ranges) l.place → Touched l.ranges l.place;
  left : Touched l.ranges l.place → Touched (drop l.range-index l.ranges) l.place;
}
