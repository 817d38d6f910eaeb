use Rattle.std.proofs.Common.{subst}
use Rattle.bt_contents.specs.Contents.{IsTable}
use Rattle.bt_contents.proofs.Rows.{table_of}
use Rattle.bt_contents.proofs.contents.Contents.is_empty.Goals as goal

pub returns-clause-table : goal.returns-clause-table
returns-clause-table c = subst IsTable c.self.view_is (table_of c.self.inside.rows.entries c.self.invariant)
