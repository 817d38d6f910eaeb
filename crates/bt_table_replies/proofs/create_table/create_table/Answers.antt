use Rattle.std.proofs.Common.{◌≡◌, ◌+◌, true, None, rules}
use Rattle.bt_table_replies.proofs.Creates.{may_create}
use Rattle.bt_table_replies.specs.Tables.{create_refusal, families_of, retention_used}
use Rattle.bt_schema.specs.Schema.{new_table, table_of}
use Rattle.bt_types.specs.Grammar.{is_table_name}
use Rattle.bt_table_replies.proofs.create_table.create_table.Goals as goal

pub creation-requires : goal.creation-requires
creation-requires c =
    let p = c.args.present.now in
    let none : create_refusal p c.args.families c.args.retention ≡ None = search rules in
    let absent : table_of c.args.name p.schema ≡ None = search rules in
    let named : is_table_name c.args.name ≡ true = search rules in
    let is : c.in-Ok.table ≡ new_table (p.last + 1) c.args.moment c.args.name (families_of c.args.families) (retention_used c.args.retention) = search rules in
    rw is (may_create p c.args.moment c.args.name c.args.families c.args.retention none absent c.requires.order named c.requires.not_before c.requires.not_past)
