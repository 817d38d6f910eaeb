use Rattle.bt_scan.proofs.Moving.{fresh}
use Rattle.bt_scan.proofs.selected_rows.SelectedRows.new.Goals as goal

pub invariant_of-result : goal.invariant_of-result
invariant_of-result c = rw c.empty.ensures (fresh _ _ c.with_rows.ensures.ordered)
