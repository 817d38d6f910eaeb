use Rattle.std.proofs.Common.{arith, rules, ap, slice_index_or}
use Rattle.bt_filter.specs.Meaning.{without_value}
use Rattle.bt_filter_run.proofs.Marks.{changed_more}
use Rattle.bt_filter_run.proofs.marking.stripped.Goals as goal

pub loop-cell-preserved : goal.loop-cell-preserved
loop-cell-preserved c =
    changed_more without_value c.args.cells c.loop-cell.cell-items c.loop-cell.cell-index c.cell-item.result _ (omega arith) c.loop-cell.invariant
    (ap (λ v. record (slice_index_or c.loop-cell.cell-items c.loop-cell.cell-index c.cell-item.result) { value = v }) (search rules))
