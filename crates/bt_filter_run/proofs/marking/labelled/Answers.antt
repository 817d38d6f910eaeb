use Rattle.std.proofs.Common.{arith, rules, Some, ap, slice_index_or}
use Rattle.bt_filter.specs.Meaning.{with_label}
use Rattle.bt_filter_run.proofs.Marks.{changed_more}
use Rattle.bt_filter_run.proofs.marking.labelled.Goals as goal

pub loop-cell-preserved : goal.loop-cell-preserved
loop-cell-preserved c =
    changed_more (with_label c.args.label.now) c.args.cells c.loop-cell.cell-items c.loop-cell.cell-index c.cell-item.result _ (omega arith) c.loop-cell.invariant
    (ap (λ l. record (slice_index_or c.loop-cell.cell-items c.loop-cell.cell-index c.cell-item.result) { label = Some l }) (search rules))
