use Rattle.std.proofs.Common.{◌≡◌, Some, refl, rules}
use Rattle.bt_messages.specs.declared.response.Response.TheVariants.{DeleteTable}
use Rattle.bt_schema.specs.Schema.{table_of}
use Rattle.bt_table_replies.proofs.delete_table.delete_table.Goals as goal

pub returns : goal.returns
returns c =
    let found : table_of c.args.name.now c.args.present.now.schema ≡ Some c.in-Some.table.now = search rules in
    rw (found, ← c.incarnation_of-incarnation.ensures) (c.changes.ensures.reply DeleteTable refl)
