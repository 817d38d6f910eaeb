use Rattle.std.proofs.Common.{arith}
use Rattle.bt_types.proofs.LawfulNames.{key_len}
use Rattle.bt_entry.proofs.writing_fields.put_key.Goals as goal

pub put_text16-requires : goal.put_text16-requires
put_text16-requires c = rw c.bytes.ensures.value (omega (arith, key_len c.args.key.now c.bytes.ensures.lawful))
