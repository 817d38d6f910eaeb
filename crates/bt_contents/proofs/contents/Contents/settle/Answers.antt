use Rattle.bt_contents.proofs.Rows.{table_of}
use Rattle.bt_contents.proofs.contents.Contents.settle.Goals as goal

pub returns-clause-table : goal.returns-clause-table
returns-clause-table c = table_of c.settle_row.new.rows.entries c.settle_row.ensures.held
