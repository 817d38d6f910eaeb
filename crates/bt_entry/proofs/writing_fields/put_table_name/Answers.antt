use Rattle.std.proofs.Common.{arith}
use Rattle.bt_types.proofs.LawfulNames.{table_len}
use Rattle.bt_entry.proofs.writing_fields.put_table_name.Goals as goal

pub put_text16-requires : goal.put_text16-requires
put_text16-requires c = rw c.bytes.ensures.value (omega (arith, table_len c.args.name.now c.bytes.ensures.lawful))
