use Rattle.std.proofs.Common.{ap}
use Rattle.bt_contents.specs.Contents.{seen}
use Rattle.bt_row.specs.Keys.{cells_of}
use Rattle.bt_contents.proofs.Steps.{row_passed, row_begun}
use Rattle.bt_contents.proofs.contents_rows.ContentsRowsRowsNoReads.next_row.Goals as goal

-- the row is gone
pub invariant_of-self-in_err-copy : goal.invariant_of-self-in_err-copy
invariant_of-self-in_err-copy c = row_passed _ _ _ (c.in-Some.key.now, cells_of c.in-Some.row.now.cells.entries) _ _ (ap seen c.in-Some.ensures) c.self.invariant

-- its cells are left, and the rows behind it
pub invariant_of-self-2 : goal.invariant_of-self-2
invariant_of-self-2 c = rw c.iter.ensures.rest (row_begun _ _ _ (c.in-Some.key.now, cells_of c.in-Some.row.now.cells.entries) _ _ (ap seen c.in-Some.ensures) c.self.invariant)
