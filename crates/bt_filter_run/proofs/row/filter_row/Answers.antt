use Rattle.std.proofs.Common.{sym, subst}
use Rattle.bt_types.specs.Cells.{AreInOrder, AreShort}
use Rattle.bt_filter.proofs.InOrder.{final_in_order}
use Rattle.bt_filter_run.proofs.Short.{final_short}
use Rattle.bt_filter_run.proofs.row.filter_row.Goals as goal

pub returns-clause-order : goal.returns-clause-order
returns-clause-order g c =
    subst AreInOrder (sym c.in_ok-cells-2.ensures.cells) (final_in_order c.args.node.now c.args.key.now c.in_ok-cells.cells)

pub returns-clause-short : goal.returns-clause-short
returns-clause-short g c =
    subst AreShort (sym c.in_ok-cells-2.ensures.cells) (final_short c.args.node.now c.args.key.now c.in_ok-cells.cells c.in_ok-cells.ensures.short)
