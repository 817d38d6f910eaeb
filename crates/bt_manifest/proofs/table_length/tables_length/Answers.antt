use Rattle.std.proofs.Common.{arith}
use Rattle.bt_manifest.specs.Spelling.{table}
use Rattle.bt_manifest.proofs.Lengths.{one_longer}
use Rattle.bt_manifest.proofs.table_length.tables_length.Goals as goal

pub loop-table-preserved : goal.loop-table-preserved
loop-table-preserved c = omega (arith, one_longer table c.args.tables.now c.loop-table.table-index c.table-item.result c.loop-table-test.true c.table-item.is, c.table_length.ensures, c.saturating_add-length.ensures, c.loop-table.invariant)
