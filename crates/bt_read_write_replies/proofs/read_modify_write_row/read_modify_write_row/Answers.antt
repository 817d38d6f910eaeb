use Rattle.std.proofs.Common.{◌≡◌, [], Err, Some, option_map, rules, subst, unwrap_or}
use Rattle.std.specs.Prelude.{IfOk}
use Rattle.bt_contents.specs.Contents.{row_at}
use Rattle.bt_messages.specs.declared.response.Response.TheVariants.{ReadModifyWriteRow}
use Rattle.bt_plans.specs.Plans.{IsPlan}
use Rattle.bt_plans.specs.Replies.{Reply}
use Rattle.bt_plans.specs.declared.no_plan.NoPlan.{NoPlan}
use Rattle.bt_read_write_replies.proofs.Modifying.{reply_made, reply_refused}
use Rattle.bt_read_write_replies.specs.ReadModifyWrite.{IsModified, modify_refusal}
use Rattle.bt_rmw.specs.Modified.{modified}
use Rattle.bt_rmw.specs.Rules.{rules_of}
use Rattle.bt_schema.specs.Schema.{table_of}
use Rattle.bt_read_write_replies.proofs.read_modify_write_row.read_modify_write_row.Goals as goal

pub returns-in_ok-lines-in-Ok : goal.returns-in_ok-lines-in-Ok
returns-in_ok-lines-in-Ok c =
    let p = c.args.present.now in
    let t = c.in-Some.table.now in
    let rows = unwrap_or (option_map (λ r. r.now) c.rows_of-rows.result) [] in
    let x = c.in-Ok.field-0 in
    let is = c.in-Ok.ensures.modified in
    let there : table_of c.args.name.now p.schema ≡ Some t = search rules in
    let made = reply_made p c.args.moment t c.args.key.now c.args.rules rows c.rows_of-rows.ensures.rows x.cells x.key x.entry is.0 is.1 is.2 is.3 in
    rw there (subst (λ (r : Reply). IfOk c.changes.result (λ plan. IsPlan plan p r)) made (c.changes.ensures.reply (ReadModifyWriteRow x.key x.cells) c.in_ok-lines-in-Ok.ensures))

pub returns-in-Err-Refused : goal.returns-in-Err-Refused
returns-in-Err-Refused c =
    let p = c.args.present.now in
    let t = c.in-Some.table.now in
    let rows = unwrap_or (option_map (λ r. r.now) c.rows_of-rows.result) [] in
    let there : table_of c.args.name.now p.schema ≡ Some t = search rules in
    let why = modify_refusal c.args.key.now c.args.rules t in
    let made = modified c.args.moment (rules_of c.args.rules) (row_at c.args.key.now rows) in
    let bad = subst (λ (e : NoPlan). IsModified why t c.args.key.now made (Err e)) c.in-Err-Refused.field-0-is c.in-Err-Refused.ensures.modified in
    let is = reply_refused p c.args.moment t c.args.key.now c.args.rules rows c.rows_of-rows.ensures.rows c.in-Err-Refused.refusal bad in
    rw (there, ← is) (search rules)
