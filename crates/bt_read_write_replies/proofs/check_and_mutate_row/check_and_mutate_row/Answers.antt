use Rattle.std.proofs.Common.{◌≡◌, [], None, Some, refl, rules}
use Rattle.bt_messages.specs.Lines.{response_data}
use Rattle.bt_messages.specs.Responses.{shown}
use Rattle.bt_messages.specs.declared.refusal.Refusal.TheVariants.{TableNotFound}
use Rattle.bt_messages.specs.declared.response.Response.TheVariants.{CheckAndMutateRow}
use Rattle.bt_plans.proofs.InTurn.{reply_lines-is}
use Rattle.bt_plans.specs.Replies.{answers, changes, refused}
use Rattle.bt_read_write_replies.proofs.Checking.{plan_of_some}
use Rattle.bt_read_write_replies.specs.CheckAndMutate.{IsCheckedReply}
use Rattle.bt_schema.specs.Schema.{table_of}
use Rattle.bt_state.specs.State.{rows_of}
use Rattle.bt_read_write_replies.proofs.check_and_mutate_row.check_and_mutate_row.Goals as goal

pub returns-in_default : goal.returns-in_default
returns-in_default c =
    let none : table_of c.args.name.now c.args.present.now.schema ≡ None = search rules in
    rw none (refused TableNotFound, refl, search rules)

pub returns-in-Some-entry : goal.returns-in-Some-entry
returns-in-Some-entry c =
    let p = c.args.present.now in
    let t = c.in-Some.table.now in
    let Replies = IsCheckedReply c.args.moment t c.args.check (rows_of t.incarnation p.contents) in
    let r = changes (CheckAndMutateRow c.in-Ok.field-0.met) c.args.moment c.in-Some-entry.entry in
    let there : table_of c.args.name.now p.schema ≡ Some t = search rules in
    let led : IsCheckedReply c.args.moment t c.args.check (rows_of t.incarnation p.contents) r = search rules in
    rw there (plan_of_some p Replies r c.changes.result led (c.changes.ensures.reply (CheckAndMutateRow c.in-Ok.field-0.met) c.in_ok-lines-in-Ok.ensures))

pub returns-in-None : goal.returns-in-None
returns-in-None c =
    let p = c.args.present.now in
    let t = c.in-Some.table.now in
    let r = answers (CheckAndMutateRow c.in-Ok.field-0.met) in
    let there : table_of c.args.name.now p.schema ≡ Some t = search rules in
    let led : IsCheckedReply c.args.moment t c.args.check (rows_of t.incarnation p.contents) r = search rules in
    let lines = reply_lines-is (response_data (shown (CheckAndMutateRow c.in-Ok.field-0.met))) c.in_ok-lines-in-Ok.lines [] c.in_ok-lines-in-Ok.ensures in
    rw there (r, led, record { lines = lines; records = refl })

pub returns-in-Err-Refused : goal.returns-in-Err-Refused
returns-in-Err-Refused c =
    let p = c.args.present.now in
    let t = c.in-Some.table.now in
    let there : table_of c.args.name.now p.schema ≡ Some t = search rules in
    let led : IsCheckedReply c.args.moment t c.args.check (rows_of t.incarnation p.contents) (refused c.in-Err-Refused.refusal) = search rules in
    rw there (refused c.in-Err-Refused.refusal, led, search rules)
