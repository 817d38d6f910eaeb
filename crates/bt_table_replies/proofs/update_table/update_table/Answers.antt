use Rattle.std.proofs.Common.{◌≡◌, ◌+◌, true, None, Some, rules}
use Rattle.bt_messages.specs.declared.response.Response.TheVariants.{UpdateTable}
use Rattle.bt_table_replies.proofs.Updates.{update_reply-is}
use Rattle.bt_table_replies.specs.Tables.{is_stream_mask, retention_refusal, retention_used}
use Rattle.bt_schema.specs.Schema.{table_of, with_retention}
use Rattle.bt_table_replies.proofs.update_table.update_table.Goals as goal

pub returns : goal.returns
returns c =
    let p = c.args.present.now in
    let t = c.in-Some.table.now in
    let found : table_of c.args.name.now p.schema ≡ Some t = search rules in
    let mask : is_stream_mask c.args.mask.now ≡ true = search rules in
    let none : retention_refusal c.args.retention ≡ None = search rules in
    let used : c.in-Ok.retention ≡ retention_used c.args.retention = search rules in
    let kept : c.set_retention.new.table ≡ with_retention (p.last + 1) c.args.moment c.in-Ok.retention t = search rules in
    rw (found, update_reply-is p c.args.moment c.args.mask.now c.args.retention t mask none c.in-Ok.retention used c.set_retention.new.table kept)
    (c.changes.ensures.reply (UpdateTable c.set_retention.new.table) (search rules))
