use Rattle.bt_contents.proofs.Rows.{table_of}
use Rattle.bt_contents.proofs.contents.Contents.make_places.Goals as goal

pub returns-clause-table : goal.returns-clause-table
returns-clause-table c = table_of c.make_row_places.new.rows.entries c.make_row_places.ensures.held
