use Rattle.std.proofs.Common.{rules}
use Rattle.std.proofs.lemmas.Cmp.{nat_list_cmp_total}
use Rattle.std.proofs.lemmas.List.Sorted.{ranks_by}
use Rattle.std.proofs.lemmas.Fn.{always_returns_same}
use Rattle.bt_types.specs.declared.row_range.RowRange.{RowRange}
use Rattle.bt_range.specs.Bounds.{is_below}
use Rattle.bt_range.proofs.Selecting.{ascending_sorted}
use Rattle.bt_range.proofs.sorting.sort.Goals as goal

pub returns-clause-ascending : goal.returns-clause-ascending
returns-clause-ascending c =
    ascending_sorted _ (c.in_ok-sort_by.ensures.sorted (λ (a : RowRange) (b : RowRange). is_below a.start b.start) (ranks_by nat_list_cmp_total (λ (r : RowRange). r.start)) (always_returns_same _ _ _ (λ a r f k. search rules)))
