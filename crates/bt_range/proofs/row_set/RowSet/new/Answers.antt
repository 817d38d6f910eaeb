use Rattle.bt_range.proofs.Selecting.{set_rows}
use Rattle.bt_range.proofs.row_set.RowSet.new.Goals as goal

pub returns : goal.returns
returns c = λ k lawful. set_rows _ _ _ _ _ c.in_ok-all.ensures c.in_ok-all-2.ensures.same c.in_ok-held.ensures.same k lawful
