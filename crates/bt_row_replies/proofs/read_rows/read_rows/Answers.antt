use Rattle.std.proofs.Common.{◌≡◌, ℕ, List, None, Some, filter, refl, inl, inr, sym, ap, ◌∙◌, subst, rules}
use Rattle.std.proofs.Math.Facts.{to_z-of_z}
use Rattle.std.specs.Prelude.{IsTrue}
use Rattle.bt_types.specs.Grammar.{is_row_key}
use Rattle.bt_types.specs.declared.row_range.RowRange.{RowRange}
use Rattle.bt_contents.specs.Contents.{Contents}
use Rattle.bt_filter.specs.Building.{filter_of}
use Rattle.bt_filter.specs.Flaws.{IsRefusedFor, IsValidFilter}
use Rattle.bt_filter.specs.declared.filter.Filter.{Filter}
use Rattle.bt_filter.specs.declared.refusal.FilterRefusal.TheVariants.{BadFilter}
use Rattle.bt_messages.specs.declared.refusal.Refusal.TheVariants.{NegativeRowsLimit, TableNotFound}
use Rattle.bt_plans.specs.FilterRefusals.{refusal_for_filter}
use Rattle.bt_plans.specs.Replies.{refused, rows_reply}
use Rattle.bt_range.specs.RowSets.{is_in_any, is_selected}
use Rattle.bt_range.specs.declared.asked_range.AskedRange.{AskedRange}
use Rattle.bt_read.specs.Answers.{answer, found, limit_of, limited}
use Rattle.bt_row_replies.proofs.Selecting.{selected_rows}
use Rattle.bt_row_replies.specs.Rows.{limit_in}
use Rattle.bt_schema.specs.Schema.{table_of}
use Rattle.bt_state.specs.State.{rows_of}
use Rattle.bt_row_replies.proofs.read_rows.read_rows.Goals as goal

pub returns-in_default : goal.returns-in_default
returns-in_default c =
    let none : table_of c.args.name.now c.args.present.now.schema ≡ None = search rules in
    rw none (refused TableNotFound, refl, search rules)

pub returns-in_default-limit_in : goal.returns-in_default-limit_in
returns-in_default-limit_in c =
    let is_there : table_of c.args.name.now c.args.present.now.schema ≡ Some c.in-Some.table.now = search rules in
    let none : limit_in c.args.rows_limit ≡ None = ap limit_in (sym (to_z-of_z c.ranges.rows_limit)) ∙ sym c.limit_in.ensures ∙ c.in_default-limit_in.is in
    rw (is_there, none) (refused NegativeRowsLimit, refl, search rules)

pub returns-in-Ok : goal.returns-in-Ok
returns-in-Ok c =
    let p = c.args.present.now in
    let t = c.in-Some.table.now in
    let n = c.in-Some-limit_in.rows_limit in
    let f = filter_of c.args.filter in
    let keys = c.args.keys in
    let ranges = c.args.ranges in
    let rows = rows_of t.incarnation p.contents in
    let set = c.in_ok-new-in-Ok.field-0 in
    let is_there : table_of c.args.name.now p.schema ≡ Some t = search rules in
    let some : limit_in c.args.rows_limit ≡ Some n = ap limit_in (sym (to_z-of_z c.ranges.rows_limit)) ∙ sym c.limit_in.ensures ∙ c.in-Some-limit_in.is in
    let valid : IsValidFilter c.args.filter = search rules in
    let node : c.in_ok-new-in-Ok-2.field-0 ≡ f = search rules in
    let same : (k : List ℕ) → IsTrue (is_row_key k) → is_in_any set k ≡ is_selected keys ranges k =
    subst (λ (ks : List (List ℕ)). (k : List ℕ) → IsTrue (is_row_key k) → is_in_any set k ≡ is_selected ks ranges k) c.items.ensures
    (subst (λ (rs : List AskedRange). (k : List ℕ) → IsTrue (is_row_key k) → is_in_any set k ≡ is_selected c.items.result.now rs k) c.items-in-Ok.ensures c.in_ok-new-in-Ok.ensures)
    in
    let selected : filter (λ r. is_in_any set r.0) rows ≡ filter (λ r. is_selected keys ranges r.0) rows = selected_rows set keys ranges same rows c.rows_of-rows.ensures.keyed in
    rw (is_there, some) (
      rows_reply (answer rows keys ranges f n),
      inl (valid, refl),
      ap (λ (rs : Contents). rows_reply (limited (limit_of n) (found f rs))) (sym selected)
          ∙ ap (λ (h : Filter). rows_reply (limited (limit_of n) (found h (filter (λ r. is_in_any set r.0) rows)))) (sym node),
    )

pub returns-in-Err-BadFilter : goal.returns-in-Err-BadFilter
returns-in-Err-BadFilter c =
    let why = c.in-Err-BadFilter.why in
    let node = c.in-Err-BadFilter.field-0-1 in
    let is_there : table_of c.args.name.now c.args.present.now.schema ≡ Some c.in-Some.table.now = search rules in
    let some : limit_in c.args.rows_limit ≡ Some c.in-Some-limit_in.rows_limit = ap limit_in (sym (to_z-of_z c.ranges.rows_limit)) ∙ sym c.limit_in.ensures ∙ c.in-Some-limit_in.is in
    let bad : IsRefusedFor c.args.filter (BadFilter why node) = search rules in
    rw (is_there, some) (refused (refusal_for_filter why), inr (why, node, bad, refl), search rules)
