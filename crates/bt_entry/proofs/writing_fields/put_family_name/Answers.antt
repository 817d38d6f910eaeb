use Rattle.std.proofs.Common.{arith}
use Rattle.bt_types.proofs.LawfulNames.{family_len}
use Rattle.bt_entry.proofs.writing_fields.put_family_name.Goals as goal

pub put_text8-requires : goal.put_text8-requires
put_text8-requires c = rw c.bytes.ensures.value (omega (arith, family_len c.args.name.now c.bytes.ensures.lawful))
