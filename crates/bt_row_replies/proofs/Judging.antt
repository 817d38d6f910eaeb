-- Entries of MutateRows, each by itself.
use Rattle.std.proofs.Common.{◌≡◌, ◌≤◌, ◌+◌, ℕ, Bool, true, false, List, [], ◌∷◌, ◌++◌, map, Option, Some, None, refl, ap, ◌∙◌, sym, cond}
use Rattle.std.specs.Prelude.{is_none}
use Rattle.std.specs.List.{AllByRecursion}
use Rattle.bt_entry.specs.Grammar.{IsSpellableEntry, last_moment}
use Rattle.bt_entry.specs.declared.entry.Entry.{Entry}
use Rattle.bt_entry.specs.declared.numbered.Numbered.{Numbered}
use Rattle.bt_entry.specs.declared.table_info.TableInfo.{TableInfo}
use Rattle.bt_messages.specs.Lines.{line_of, ok_line, response_data}
use Rattle.bt_messages.specs.Responses.{shown}
use Rattle.bt_messages.specs.declared.refusal.Refusal.{Refusal}
use Rattle.bt_messages.specs.declared.response.EntryStatus.{EntryStatus}
use Rattle.bt_messages.specs.declared.response.Response.TheVariants.{MutateRows}
use Rattle.bt_requests.specs.declared.rows.AskedEntry.{AskedEntry}
use Rattle.bt_plans.proofs.InTurn.{MayCome, as_one_record, events-numbered_from, is_plan, reply_lines-is}
use Rattle.bt_plans.proofs.Mutates.{may_come}
use Rattle.bt_row_replies.specs.MutateRows.{accepted, entries_refusal, entry_refusal, mutate_rows_reply, one_record, row_of, status_of}
use Rattle.bt_plans.specs.Plans.{IsPlan}
use Rattle.bt_plans.specs.Records.{as_record, numbered_from, plan_of}
use Rattle.bt_plans.specs.Replies.{event, reply_lines}
use Rattle.bt_plans.specs.declared.answer.Answer.TheVariants.{Lines}
use Rattle.bt_schema.specs.Schema.{table_at}
use Rattle.bt_state.specs.State.{Present, events_of}

none_of : (o : Option Refusal) → is_none o ≡ true → o ≡ None
none_of None e = refl
none_of (Some why) e = absurd cc

-- numbered entries that can be spelled
pub spellable_of : (first m : ℕ) (es : List Entry) → AllByRecursion (λ n. IsSpellableEntry n.entry) (numbered_from first m es) → AllByRecursion IsSpellableEntry es
spellable_of first m [] all = tt
spellable_of first m (e ∷ es) all = (all.0, spellable_of (first + 1) m es all.1)

one_record-is : (first m : ℕ) (es : List Entry) → one_record (map (event m) es) ≡ map events_of (as_record (numbered_from first m es))
one_record-is first m [] = refl
one_record-is first m (e ∷ es) = ap (λ xs. (event m e ∷ xs) ∷ []) (sym (events-numbered_from (first + 1) m es))

module _ (t : TableInfo) (m : ℕ) where
  abbrev pub rows_of : List AskedEntry → List Entry
  rows_of entries = map (row_of m t) (accepted t entries)

  come_by : (b : Bool) (e : AskedEntry) (es : List AskedEntry) → is_none (entry_refusal t e) ≡ b → m ≤ last_moment
      → AllByRecursion IsSpellableEntry (map (row_of m t) (cond b (e ∷ accepted t es) (accepted t es)))
      → (AllByRecursion IsSpellableEntry (rows_of es) → AllByRecursion (MayCome t m) (rows_of es))
      → AllByRecursion (MayCome t m) (map (row_of m t) (cond b (e ∷ accepted t es) (accepted t es)))
  come_by true e es is not_past all rest = (may_come t m e.key e.mutations (none_of (entry_refusal t e) is) all.0 not_past, rest all.1)
  come_by false e es is not_past all rest = rest all

  -- the table takes those that are accepted
  all_come : (es : List AskedEntry) → m ≤ last_moment → AllByRecursion IsSpellableEntry (rows_of es) → AllByRecursion (MayCome t m) (rows_of es)
  all_come [] not_past all = tt
  all_come (e ∷ es) not_past all = come_by (is_none (entry_refusal t e)) e es refl not_past all (all_come es not_past)

  same_events : (es : List AskedEntry) → map (λ e. event m (row_of m t e)) es ≡ map (event m) (map (row_of m t) es)
  same_events [] = refl
  same_events (e ∷ es) = ap (λ xs. event m (row_of m t e) ∷ xs) (same_events es)

  -- what becomes of a first entry, and then of the others
  rows_split : (e : AskedEntry) (es : List AskedEntry) → rows_of (e ∷ es) ≡ rows_of (e ∷ []) ++ rows_of es
  rows_split e es = split_by (is_none (entry_refusal t e)) e es
    where
      split_by : (b : Bool) (e : AskedEntry) (es : List AskedEntry) → map (row_of m t) (cond b (e ∷ accepted t es) (accepted t es)) ≡ map (row_of m t) (cond b (e ∷ []) []) ++ rows_of es
      split_by true e es = refl
      split_by false e es = refl

  -- the statuses and the record that they make
  pub mutate_rows-plan : (p : Present) (entries : List AskedEntry) (statuses : List EntryStatus) (batch : List Numbered) (lines : List ℕ) → entries_refusal entries ≡ None
      → statuses ≡ map (λ e. status_of (entry_refusal t e)) entries → batch ≡ numbered_from (p.last + 1) m (rows_of entries) → AllByRecursion (λ n. IsSpellableEntry n.entry) batch
      → lines ≡ line_of (response_data (shown (MutateRows statuses))) ++ ok_line → table_at t.incarnation p.schema ≡ Some t → p.floor ≤ m → m ≤ last_moment
      → IsPlan (plan_of (as_record batch) (Lines lines)) p (mutate_rows_reply m entries (Some t))
  mutate_rows-plan p entries statuses batch lines none are is spellable said found before not_past =
      let rows = rows_of entries in
      let all : AllByRecursion IsSpellableEntry rows = spellable_of (p.last + 1) m rows (rw is at spellable) in
      let events = one_record (map (λ e. event m (row_of m t e)) (accepted t entries)) in
      let shows : lines ≡ reply_lines (record { responses = line_of (response_data (shown (MutateRows (map (λ e. status_of (entry_refusal t e)) entries)))) ∷ []; status = ok_line; records = events }) =
      reply_lines-is (response_data (shown (MutateRows (map (λ e. status_of (entry_refusal t e)) entries)))) lines events
      (said ∙ ap (λ (ss : List EntryStatus). line_of (response_data (shown (MutateRows ss))) ++ ok_line) are) in
      rw (none, is) (is_plan p (as_record (numbered_from (p.last + 1) m rows)) (Lines lines)
      (record { responses = line_of (response_data (shown (MutateRows (map (λ e. status_of (entry_refusal t e)) entries)))) ∷ []; status = ok_line; records = events })
      shows (ap one_record (same_events (accepted t entries)) ∙ one_record-is (p.last + 1) m rows) (as_one_record t m rows (all_come entries not_past all) p found before))
