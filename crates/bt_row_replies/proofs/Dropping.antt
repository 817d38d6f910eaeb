-- Rows that are dropped.
use Rattle.std.proofs.Common.{◌≡◌, ◌≤◌, ◌<◌, ◌^◌, ◌+◌, ℕ, true, false, List, [], ◌∷◌, map, Some, None, refl, ap, ◌∙◌, sym, subst, arith}
use Rattle.std.specs.Prelude.{filter}
use Rattle.std.specs.List.{AllByRecursion}
use Rattle.std.specs.Map.{keys_of}
use Rattle.std.proofs.lemmas.Simd.{map-map}
use Rattle.bt_contents.specs.Contents.{Contents}
use Rattle.bt_contents.specs.Ranges.{rows_within}
use Rattle.bt_entry.specs.Grammar.{last_moment}
use Rattle.bt_entry.specs.declared.numbered.Numbered.{Numbered}
use Rattle.bt_entry.specs.declared.table_info.TableInfo.{TableInfo}
use Rattle.bt_requests.specs.declared.request.DropTarget.{DropTarget}
use Rattle.bt_requests.specs.declared.request.DropTarget.TheVariants.{Prefix, All}
use Rattle.bt_row_replies.proofs.Cutting.{come_as_records, events-numbered_on, map-cut_every, pieces}
use Rattle.bt_plans.proofs.InTurn.{MayCome, is_plan, reply_lines-is}
use Rattle.bt_row_replies.proofs.Prefixes.{keys_in_prefix}
use Rattle.bt_row_replies.specs.Drops.{IsKey, cut_every, deletion_of, drop_reply, target_keys, target_range, target_refusal}
use Rattle.bt_messages.specs.Lines.{line_of, ok_line, response_data}
use Rattle.bt_messages.specs.Responses.{shown}
use Rattle.bt_messages.specs.declared.response.Response.TheVariants.{DropRowRange}
use Rattle.bt_plans.specs.Plans.{AreRecords, IsPlan, answer_bytes}
use Rattle.bt_row_replies.specs.Prefixes.{prefix_range}
use Rattle.bt_plans.specs.Beginnings.{begins_with}
use Rattle.bt_plans.specs.Records.{numbered_on, plan_of}
use Rattle.bt_plans.specs.Replies.{event}
use Rattle.bt_plans.specs.declared.answer.Answer.TheVariants.{Empty}
use Rattle.bt_plans.specs.declared.plan.Plan.TheVariants.{Says}
use Rattle.bt_schema.specs.Schema.{table_at}
use Rattle.bt_state.specs.State.{Present, events_of, rows_of}
use Rattle.bt_types.specs.declared.row_range.RowRange.{RowRange}

module _ (t : TableInfo) (m : ℕ) (small : t.incarnation < 2 ^ 64) (not_past : m ≤ last_moment) where
  deletion_comes : (key : List ℕ) → IsKey key → MayCome t m (deletion_of t key)
  deletion_comes key is = record {
    of_row = tt;
    lawful = λ p found before. record { spellable = (small, is.lawful, (omega arith, omega arith, (tt, tt))); not_past = not_past; not_before = before; allowed = rw found refl };
  }

  -- the table takes the deletions of rows
  deletions_come : (keys : List (List ℕ)) → AllByRecursion IsKey keys → AllByRecursion (MayCome t m) (map (deletion_of t) keys)
  deletions_come [] all = tt
  deletions_come (key ∷ keys) all = (deletion_comes key all.0, deletions_come keys all.1)

none_pass : (keys : List (List ℕ)) → filter (λ key. false) keys ≡ []
none_pass [] = refl
none_pass (key ∷ keys) = none_pass keys

-- the keys in the range are those of the rows that are to go
keys_of_range : (front : List ℕ) (range : RowRange) (rows : Contents) → prefix_range front ≡ range → AllByRecursion IsKey (keys_of (rows_within range rows)) → keys_of (rows_within range rows) ≡ filter (begins_with front) (keys_of rows)
keys_of_range front range rows is all =
    subst (λ (r : RowRange). AllByRecursion IsKey (keys_of (rows_within r rows)) → keys_of (rows_within r rows) ≡ filter (begins_with front) (keys_of rows)) is (keys_in_prefix front rows) all

keys_are : (target : DropTarget) (range : RowRange) (rows : Contents) → target_range target ≡ Some range → AllByRecursion IsKey (keys_of (rows_within range rows)) → keys_of (rows_within range rows) ≡ target_keys (Some target) rows
keys_are (Prefix front) range rows is all = keys_of_range front range rows (cc) all
keys_are (All true) range rows is all = keys_of_range [] range rows (cc) all
keys_are (All false) range rows is all = absurd cc

no_keys : (target : DropTarget) (rows : Contents) → target_range target ≡ None → target_keys (Some target) rows ≡ []
no_keys (Prefix front) rows is = absurd cc
no_keys (All true) rows is = absurd cc
no_keys (All false) rows is = none_pass (keys_of rows)

module _ (t : TableInfo) (m : ℕ) (p : Present) (target : DropTarget) (lawful : target_refusal (Some target) ≡ None) where
  -- no rows go
  pub none_dropped : target_range target ≡ None → IsPlan (Says Empty) p (drop_reply p m (Some target) (Some t))
  none_dropped is =
      rw lawful (record {
        lines = reply_lines-is (response_data (shown DropRowRange)) _ [] refl;
        records = ap (λ keys. cut_every 1000 (map (λ key. event m (deletion_of t key)) keys)) (no_keys target (rows_of t.incarnation p.contents) is);
      })

  -- the records of the rows that go
  pub drop-plan : (range : RowRange) (keys : List (List ℕ)) (records : List (List Numbered)) → target_range target ≡ Some range → keys ≡ keys_of (rows_within range (rows_of t.incarnation p.contents)) → AllByRecursion IsKey keys
      → records ≡ numbered_on (p.last + 1) m (cut_every 1000 (map (deletion_of t) keys)) → t.incarnation < 2 ^ 64 → table_at t.incarnation p.schema ≡ Some t → p.floor ≤ m → m ≤ last_moment
      → IsPlan (plan_of records Empty) p (drop_reply p m (Some target) (Some t))
  drop-plan range keys records is are all made small found before not_past =
      let rows = rows_of t.incarnation p.contents in
      let entries = map (deletion_of t) keys in
      let gone : keys ≡ target_keys (Some target) rows = are ∙ keys_are target range rows is (subst (AllByRecursion IsKey) are all) in
      let events : cut_every 1000 (map (λ key. event m (deletion_of t key)) (target_keys (Some target) rows)) ≡ map events_of records =
      ap (λ ks. cut_every 1000 (map (λ key. event m (deletion_of t key)) ks)) (sym gone)
      ∙ ap (cut_every 1000) (sym (map-map (event m) (deletion_of t) keys))
      ∙ sym (map-cut_every 1000 (event m) entries)
      ∙ sym (events-numbered_on (p.last + 1) m (cut_every 1000 entries))
      ∙ ap (map events_of) (sym made) in
      let in_turn : AreRecords p records =
      subst (AreRecords p) (sym made) (come_as_records t m 1000 (cut_every 1000 entries) (pieces 1000 (MayCome t m) entries (deletions_come t m small not_past keys all)) p found before) in
      let events_said = cut_every 1000 (map (λ key. event m (deletion_of t key)) (target_keys (Some target) rows)) in
      rw lawful (is_plan p records Empty (record { responses = line_of (response_data (shown DropRowRange)) ∷ []; status = ok_line; records = events_said })
      (reply_lines-is (response_data (shown DropRowRange)) (answer_bytes Empty) events_said refl) events in_turn)
