use Rattle.std.proofs.Common.{◌≡◌, ◌+◌, ◌≤◌, take, map, length}
use Rattle.std.specs.Prelude.{IfOk}
use Rattle.bt_filter.specs.Building.{filter_of}
use Rattle.bt_filter.specs.Flaws.{checks_of, nodes_of_all, label_count, IsOutcome}
use Rattle.bt_filter.proofs.building.+build_filter.Given as goal

-- what was made of the filters so far
abbrev pub invariant-build_all-loop-filter : goal.invariant-build_all-loop-filter
invariant-build_all-loop-filter l = record {
  next : l.next ≡ l.fn.next + length (nodes_of_all (map checks_of (take l.filter-index l.filters)) l.below);
  labels : l.labels ≡ label_count (map checks_of (take l.filter-index l.filters));
  few : l.labels ≤ l.filter-index;
  built : IfOk l.list (λ list. list ≡ map filter_of (take l.filter-index l.filters));
  checked : IsOutcome l.list l.fn.next (nodes_of_all (map checks_of (take l.filter-index l.filters)) l.below);
}
