use Rattle.std.proofs.Common.{◌≡◌, ◌++◌, ◌+◌, ◌∙◌, [], ◌∷◌, length, map, ap, subst, rules}
use Rattle.std.specs.Prelude.{IsTrue}
use Rattle.std.specs.List.{AllByRecursion}
use Rattle.std.specs.List.Sorted.{IsStrictlySortedBy}
use Rattle.std.specs.Cmp.Lexicographic.{slice_cmp}
use Rattle.std.specs.Map.{keys_of}
use Rattle.std.specs.Ordering.{nat_cmp}
use Rattle.bt_contents.specs.Contents.{Contents}
use Rattle.bt_entry.specs.declared.entry.Entry.TheVariants.{Alter}
use Rattle.bt_messages.specs.Lines.{line_of, ok_line, response_data}
use Rattle.bt_messages.specs.Responses.{shown}
use Rattle.bt_messages.specs.declared.response.Response.TheVariants.{ModifyColumnFamilies}
use Rattle.bt_table_replies.proofs.Modifying.{record_plan}
use Rattle.bt_table_replies.specs.Losses.{Losses, loss_entry, losses}
use Rattle.bt_plans.specs.Records.{as_record, numbered_from, plan_of}
use Rattle.bt_plans.specs.Replies.{event}
use Rattle.bt_plans.specs.declared.answer.Answer.TheVariants.{Lines}
use Rattle.bt_state.specs.State.{numbered, rows_of}
use Rattle.bt_types.specs.Grammar.{is_row_key}
use Rattle.bt_table_replies.proofs.modify_column_families.modification.Goals as goal

pub returns-clause-plan : goal.returns-clause-plan
returns-clause-plan c =
    let p = c.args.present.now in
    let m = c.args.moment in
    let t = c.args.table in
    let names = c.args.dropped.now in
    let found = c.in_ok-all.all.entries in
    let rows = c.in_ok-batch.batch in
    let batch = c.put_entry.new.batch in
    let lines = c.in_ok-lines.lines in
    let found_is : found ≡ losses names (rows_of t.incarnation p.contents) = c.in_ok-all.ensures.losses ∙ ap (losses names) c.rows_of.ensures.rows in
    let rows_are : rows ≡ numbered_from (p.last + 1) m (map (loss_entry t.incarnation) found) = search rules in
    let batch_is : batch ≡ rows ++ numbered (p.last + 1 + length rows) (event m (Alter t.incarnation t.families)) ∷ [] = search rules in
    let said : lines ≡ line_of (response_data (shown (ModifyColumnFamilies t))) ++ ok_line = search rules in
    let is : c.plan_of.result ≡ plan_of (as_record batch) (Lines lines) = search rules in
    rw is (record_plan p m t names found rows batch lines found_is rows_are batch_is said)

pub returns-clause-found : goal.returns-clause-found
returns-clause-found c =
    let p = c.args.present.now in
    let t = c.args.table in
    let names = c.args.dropped.now in
    let found_is : c.in_ok-all.all.entries ≡ losses names (rows_of t.incarnation p.contents) = c.in_ok-all.ensures.losses ∙ ap (losses names) c.rows_of.ensures.rows in
    record {
      sorted = subst (λ (rows : Contents). IsStrictlySortedBy (slice_cmp nat_cmp) (keys_of rows)) c.rows_of.ensures.rows c.in_ok-all.ensures.sorted;
      keys = subst (λ (ls : Losses). AllByRecursion (λ l. IsTrue (is_row_key l.0)) ls) found_is c.in_ok-batch.ensures.keys;
      ordered = c.rows_of.ensures.ordered;
    }
