use Rattle.std.proofs.Common.{arith}
use Rattle.bt_types.proofs.LawfulNames.{qualifier_len}
use Rattle.bt_entry.proofs.writing_fields.put_qualifier.Goals as goal

pub put_text16-requires : goal.put_text16-requires
put_text16-requires c = rw c.bytes.ensures.value (omega (arith, qualifier_len c.args.qualifier.now c.bytes.ensures.lawful))
