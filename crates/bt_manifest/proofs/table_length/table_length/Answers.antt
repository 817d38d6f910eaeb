use Rattle.std.proofs.Common.{arith, ap, length}
use Rattle.bt_manifest.proofs.Lengths.{table_long}
use Rattle.bt_manifest.proofs.table_length.table_length.Goals as goal

pub returns : goal.returns
returns c = omega (arith, table_long c.args.t.now, ap length c.items.ensures, c.saturating_mul.ensures, c.saturating_add.ensures)
