use Rattle.std.proofs.Common.{arith, ap, length, List}
use Rattle.std.specs.List.{flat_map}
use Rattle.bt_manifest.specs.declared.snapshot.TableFiles.{TableFiles}
use Rattle.bt_manifest.specs.Spelling.{table}
use Rattle.bt_manifest.proofs.Lengths.{snapshot_long}
use Rattle.bt_manifest.proofs.snapshot.Snapshot.body_length.Goals as goal

pub returns : goal.returns
returns c =
    let tables = ap (λ (l : List TableFiles). length (flat_map table l)) c.items-2.ensures in
    omega (arith, snapshot_long c.args.self.now, tables, ap length c.items.ensures, ap length c.bytes.ensures, c.tables_length-tables.ensures, c.saturating_mul-segments.ensures, c.saturating_add.ensures, c.saturating_add-2.ensures, c.saturating_add-3.ensures)
