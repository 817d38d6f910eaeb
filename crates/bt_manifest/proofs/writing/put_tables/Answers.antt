use Rattle.std.proofs.Common.{length}
use Rattle.std.specs.Int.{w32, to_be_bytes}
use Rattle.bt_manifest.specs.Spelling.{table}
use Rattle.bt_codec.proofs.Items.{one_more}
use Rattle.bt_manifest.proofs.Parts.{few_files}
use Rattle.bt_manifest.proofs.writing.put_tables.Goals as goal

pub put_table-requires : goal.put_table-requires
put_table-requires c = rw c.table-item.is (few_files _ _ c.loop-table.table-index _ c.requires c.items-tables.ensures c.loop-table-test.true)

pub loop-table-preserved : goal.loop-table-preserved
loop-table-preserved c =
    one_more table c.items-tables.result.now c.loop-table.table-index c.table-item.result c.args.out.now.items (to_be_bytes w32 (length c.items-tables.result.now)) c.loop-table.out.items c.put_table.new.out.items c.loop-table-test.true c.table-item.is c.loop-table.invariant
    c.in_ok-put_table.ensures
