use Rattle.std.proofs.Common.{[], None}
use Rattle.bt_scan.proofs.Moving.{ended, none_sorted}
use Rattle.bt_scan.proofs.selected_rows.SelectedRowsRowsNoReads.next_cell.Goals as goal

-- nothing is left after a refusal
pub invariant_of-self-in-Err : goal.invariant_of-self-in-Err
invariant_of-self-in-Err c = rw c.empty-self-inside.ensures (ended None [] none_sorted)
