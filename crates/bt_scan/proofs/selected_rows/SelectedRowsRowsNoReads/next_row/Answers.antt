use Rattle.std.proofs.Common.{[], None, drop, unwrap_or}
use Rattle.std.specs.Prelude.{option_map}
use Rattle.bt_contents.specs.Contents.{Contents}
use Rattle.bt_scan.specs.Selection.{selected}
use Rattle.bt_scan.proofs.Moving.{ended, none_sorted, still_go_on}
use Rattle.bt_scan.proofs.selected_rows.SelectedRowsRowsNoReads.next_row.Goals as goal

-- the rows behind the next one are left
pub invariant_of-self : goal.invariant_of-self
invariant_of-self c =
    let table : Contents = unwrap_or (option_map (λ b. b.now) c.self.inside.table) [] in
    still_go_on c.self.inside.rows (selected (drop c.self.inside.looked_up c.self.inside.set) table) c.next_row.new.rows (selected (drop c.next_row.new.looked_up c.self.inside.set) table) c.in-Ok.key table c.in-Ok.ensures c.self.invariant

-- nothing is left after a refusal
pub invariant_of-self-in-Err : goal.invariant_of-self-in-Err
invariant_of-self-in-Err c = rw c.empty-self-inside.ensures (ended None [] none_sorted)
