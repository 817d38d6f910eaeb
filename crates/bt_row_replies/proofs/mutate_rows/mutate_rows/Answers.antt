use Rattle.std.proofs.Common.{◌≡◌, ◌+◌, ◌++◌, map, None, Some, rules}
use Rattle.std.specs.List.{AllByRecursion}
use Rattle.bt_entry.specs.Grammar.{IsSpellableEntry}
use Rattle.bt_messages.specs.Lines.{line_of, ok_line, response_data}
use Rattle.bt_messages.specs.Responses.{shown}
use Rattle.bt_messages.specs.declared.response.Response.TheVariants.{MutateRows}
use Rattle.bt_row_replies.proofs.Judging.{mutate_rows-plan, rows_of}
use Rattle.bt_row_replies.specs.MutateRows.{entries_refusal, entry_refusal, status_of}
use Rattle.bt_plans.specs.Records.{as_record, numbered_from, plan_of}
use Rattle.bt_plans.specs.declared.answer.Answer.TheVariants.{Lines}
use Rattle.bt_schema.specs.Schema.{table_at, table_of}
use Rattle.bt_row_replies.proofs.mutate_rows.mutate_rows.Goals as goal

pub returns : goal.returns
returns c =
    let p = c.args.present.now in
    let t = c.in-Some.table.now in
    let m = c.args.moment in
    let entries = c.args.entries in
    let judged = c.in_ok-judged.judged in
    let found : table_of c.args.name.now p.schema ≡ Some t = search rules in
    let own : table_at t.incarnation p.schema ≡ Some t = search rules in
    let none : entries_refusal entries ≡ None = search rules in
    let statuses : judged.statuses ≡ map (λ e. status_of (entry_refusal t e)) entries = search rules in
    let rows : judged.rows ≡ numbered_from (p.last + 1) m (rows_of t m entries) = search rules in
    let spellable : AllByRecursion (λ n. IsSpellableEntry n.entry) judged.rows = search rules in
    let said : c.in_ok-lines.lines ≡ line_of (response_data (shown (MutateRows judged.statuses))) ++ ok_line = search rules in
    let is : c.plan_of.result ≡ plan_of (as_record judged.rows) (Lines c.in_ok-lines.lines) = search rules in
    rw (found, is) (mutate_rows-plan t m p entries judged.statuses judged.rows c.in_ok-lines.lines none statuses rows spellable said own c.requires.not_before c.requires.not_past)
