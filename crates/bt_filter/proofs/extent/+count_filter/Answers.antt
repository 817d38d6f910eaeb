use Rattle.std.proofs.Common.{arith, sym}
use Rattle.bt_filter.proofs.Counted.{within_condition}
use Rattle.bt_filter.proofs.extent.+count_filter.Goals as goal

pub count_filter-returns-in_ok-counts-in-Condition-2 : goal.count_filter-returns-in_ok-counts-in-Condition-2
count_filter-returns-in_ok-counts-in-Condition-2 t c =
    within_condition c.args.levels c.args.before c.with_node-counts.result c.in_ok-counts-in-Condition.counts c.in_ok-counts-in-Condition-2.counts c.count_part-in-Condition-2.result
    c.args.filter.now c.in-Condition.predicate c.in-Condition.matched c.in-Condition.unmatched c.in-Condition.is (omega arith) c.with_node-counts.ensures
    (sym c.in_ok-counts-in-Condition.ensures) (sym c.in_ok-counts-in-Condition-2.ensures) c.count_part-in-Condition-2.ensures
