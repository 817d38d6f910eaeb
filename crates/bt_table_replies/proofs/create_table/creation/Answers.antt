use Rattle.std.proofs.Common.{rules}
use Rattle.bt_messages.specs.declared.response.Response.TheVariants.{CreateTable}
use Rattle.bt_table_replies.proofs.create_table.creation.Goals as goal

pub returns : goal.returns
returns c = c.changes.ensures.reply (CreateTable c.args.table) (search rules)
