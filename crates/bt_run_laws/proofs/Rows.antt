-- Replies to requests that write rows: their records may come.
use Rattle.std.proofs.Common.{◌≡◌, ◌<◌, ◌≤◌, ◌^◌, ◌==◌, ◌||◌, ◌-◌, ◌%◌, ◌+◌, ℕ, Bool, true, false, List, [], ◌∷◌, length, map, filter, Option, Some, None, refl, subst, ap, ◌∙◌, cond, arith, bytes_eq, ltb-false, lt-ltb, eq-eqb}
use Rattle.std.specs.Prelude.{ℤ, pos, negsuc, not, nat_lt, is_none, IsTrue}
use Rattle.std.specs.List.{AllByRecursion}
use Rattle.std.specs.Map.{keys_of}
use Rattle.std.proofs.lemmas.Bool.{and_from}
use Rattle.std.proofs.lemmas.List.{length-map}
use Rattle.std.proofs.lemmas.Simd.{map-map}
use Rattle.bt_types.specs.Grammar.{is_family_name, is_qualifier, is_row_key}
use Rattle.bt_types.specs.Time.{is_micros}
use Rattle.bt_rules.specs.declared.family.Family.{Family}
use Rattle.bt_entry.specs.Grammar.{AreSpellableFamilies, IsSpellableMutation, last_moment, most_of_value}
use Rattle.bt_entry.specs.declared.entry.Entry.{Entry}
use Rattle.bt_entry.specs.declared.entry.Entry.TheVariants.{Row}
use Rattle.bt_entry.specs.declared.table_info.TableInfo.{TableInfo}
use Rattle.bt_contents.specs.Contents.{Contents}
use Rattle.bt_messages.specs.declared.refusal.Refusal.{Refusal}
use Rattle.bt_mutation.specs.Checks.{column_refusal, family_refusal, first_refusal, has_family, is_asked_time, list_refusal, mutation_refusal}
use Rattle.bt_mutation.specs.Resolution.{bound_used, resolved, resolved_mutation, time_used}
use Rattle.bt_mutation.specs.declared.asked.AskedMutation.{AskedMutation}
use Rattle.bt_mutation.specs.declared.asked.AskedMutation.TheVariants.{SetCell, DeleteColumn, DeleteFamily, DeleteRow, Missing}
use Rattle.bt_mutation.specs.declared.refusal.MutationRefusal.TheVariants.{NoMutations, TooMany, UnknownFamily, LongQualifier, BadTimestamp, TooLarge}
use Rattle.bt_plans.proofs.InTurn.{MayCome, come_in_turn, rows_after}
use Rattle.bt_plans.proofs.Mutates.{may_come}
use Rattle.bt_plans.specs.Replies.{event}
use Rattle.bt_plans.specs.RowEntries.{most_mutations, mutate_refusal, refusal_for}
use Rattle.bt_requests.specs.declared.request.DropTarget.{DropTarget}
use Rattle.bt_requests.specs.declared.rows.AskedEntry.{AskedEntry}
use Rattle.bt_row_replies.proofs.Cutting.{map-cut_every, pieces}
use Rattle.bt_row_replies.specs.Drops.{cut_every, deletion_of, drop_reply, is_target, target_keys, target_refusal}
use Rattle.bt_row_replies.specs.MutateRows.{accepted, entries_refusal, entry_refusal, mutate_rows_reply, one_record, row_of}
use Rattle.bt_row_replies.specs.Rows.{mutate_reply}
use Rattle.bt_schema.specs.Schema.{table_at}
use Rattle.bt_state.specs.State.{AreLawful, Event, Present, presents_after, rows_of}
use Rattle.bt_table_replies.proofs.Altering.{named_of, same_name}
use Rattle.bt_laws.specs.Tables.{IsLawfulRow}
use Rattle.bt_run_laws.proofs.Asked.{AreSoundEntries, AreSoundMutations, IsSoundMutation}
use Rattle.bt_run_laws.proofs.Json.{IsWithin}
use Rattle.bt_run_laws.proofs.Refusals.{both_none, is_passed, key_and_list, not_refused, passes, some_of}
use Rattle.bt_run_laws.proofs.Turning.{row_keys, ComeInTurn, Comes, IsOwn, one, unless}

-- ---- times

-- a time in whole milliseconds that fits
pub is_time : (n : ℕ) → n % 1000 ≡ 0 → n < 2 ^ 63 → is_micros n ≡ true
is_time n whole small = and_from (n % 1000 == 0) (nat_lt n (2 ^ 63)) (eq-eqb (n % 1000) 0 whole) (lt-ltb n (2 ^ 63) small)

pub whole_millis : (m : ℕ) → m ≤ last_moment → is_micros (m - m % 1000) ≡ true
whole_millis m not_past = is_time (m - m % 1000) (omega arith) (omega (arith, not_past))

-- ---- families

-- a name among those of families that can be written is lawful
pub family_named : (fs : List Family) (name : List ℕ) → AllByRecursion (λ f. is_family_name f.name ≡ true) fs → has_family fs name ≡ true → is_family_name name ≡ true
family_named [] name all e = absurd cc
family_named (f ∷ fs) name all e = by (bytes_eq f.name name) refl e (family_named fs name all.1)
  where
    by : (b : Bool) → bytes_eq f.name name ≡ b → (b || has_family fs name) ≡ true → (has_family fs name ≡ true → is_family_name name ≡ true) → is_family_name name ≡ true
    by true is e rest = subst (λ n. is_family_name n ≡ true) (same_name f.name name is) all.0
    by false is e rest = rest e

-- ---- mutations

module _ (t : TableInfo) (families : AreSpellableFamilies t.families) (m : ℕ) (not_past : m ≤ last_moment) where
  pub lawful_name : (name : List ℕ) → has_family t.families name ≡ true → is_family_name name ≡ true
  lawful_name name e = family_named t.families name (named_of [] t.families families.1) e

  known : (index : ℕ) (name : List ℕ) → family_refusal t.families index name ≡ None → is_family_name name ≡ true
  known index name none = lawful_name name (passes (has_family t.families name) (UnknownFamily index) none)

  known_column : (index : ℕ) (name qualifier : List ℕ) → column_refusal t.families index name qualifier ≡ None → (is_family_name name ≡ true) × (is_qualifier qualifier ≡ true)
  known_column index name qualifier none =
      let both = both_none (family_refusal t.families index name) _ none in
      (known index name both.0, passes (is_qualifier qualifier) (LongQualifier index) both.1)

  time_is : (at : ℤ) → is_asked_time at ≡ true → IsWithin at → is_micros (time_used m at) ≡ true
  time_is (pos n) asked small = and_from (n % 1000 == 0) (nat_lt n (2 ^ 63)) asked (lt-ltb n (2 ^ 63) small)
  time_is (negsuc n) asked small = whole_millis m not_past

  bound_is : (at : ℤ) → IsWithin at → bound_used at ≤ 9223372036854775807
  bound_is (pos n) small = omega (arith, small)
  bound_is (negsuc n) small = omega arith

  spellable : (index : ℕ) (a : AskedMutation) → IsSoundMutation a → mutation_refusal t.families index a ≡ None → IsSpellableMutation (resolved_mutation m a)
  spellable index (SetCell name qualifier at value) sound none =
      let both = both_none (column_refusal t.families index name qualifier) _ none in
      let column = known_column index name qualifier both.0 in
      let time = not_refused (not (is_asked_time at)) (BadTimestamp index) _ both.1 in
      let size = not_refused (nat_lt most_of_value (length value)) (TooLarge index) _ time.1 in
      (column.0, column.1, time_is at (is_passed (is_asked_time at) time.0) sound, ltb-false most_of_value (length value) size.0)
  spellable index (DeleteColumn name qualifier start end) sound none =
      let column = known_column index name qualifier (both_none (column_refusal t.families index name qualifier) _ none).0 in
      (column.0, column.1, bound_is start sound.0, bound_is end sound.1)
  spellable index (DeleteFamily name) sound none = known index name none
  spellable index DeleteRow sound none = tt
  spellable index Missing sound none = absurd cc

  all_spellable : (index : ℕ) (ms : List AskedMutation) → AreSoundMutations ms → first_refusal t.families index ms ≡ None → AllByRecursion IsSpellableMutation (resolved m ms)
  all_spellable index [] sound none = tt
  all_spellable index (a ∷ ms) sound none =
      let both = both_none (mutation_refusal t.families index a) (first_refusal t.families (index + 1) ms) none in
      (spellable index a sound.0 both.0, all_spellable (index + 1) ms sound.1 both.1)

  -- what is known of a list of mutations that is not refused
  pub list_spellable : (ms : List AskedMutation) → AreSoundMutations ms → list_refusal t.families most_mutations ms ≡ None → (1 ≤ length ms) × (length ms ≤ most_mutations) × AllByRecursion IsSpellableMutation (resolved m ms)
  list_spellable ms sound none =
      let some = not_refused (length ms == 0) NoMutations _ none in
      let few = not_refused (nat_lt most_mutations (length ms)) TooMany _ some.1 in
      (some_of (length ms) some.0, ltb-false most_mutations (length ms) few.0, all_spellable 0 ms sound few.1)

none_of : (o : Option Refusal) → is_none o ≡ true → o ≡ None
none_of None e = refl
none_of (Some why) e = absurd cc

module _ (p : Present) (m : ℕ) (before : p.floor ≤ m) (not_past : m ≤ last_moment) where
  module _ (t : TableInfo) (is : IsOwn p t) where
    -- the table takes the entry of a row that is not refused
    pub row_comes : (key : List ℕ) (ms : List AskedMutation) → AreSoundMutations ms → mutate_refusal key ms t ≡ None → MayCome t m (Row t.incarnation key false (resolved m ms))
    row_comes key ms sound none =
        let both = key_and_list refusal_for (is_row_key key) (list_refusal t.families most_mutations ms) none in
        let list = list_spellable t is.families m not_past ms sound both.1 in
        let same : length (resolved m ms) ≡ length ms = length-map ms (resolved_mutation m) in
        let some = list.0 in
        let few = list.1 in
        may_come t m key ms none (is.small, both.0, (omega (arith, same, some), omega (arith, same, few), list.2)) not_past

    -- ---- MutateRows

    accepted_come : (entries : List AskedEntry) → AreSoundEntries entries → AllByRecursion (MayCome t m) (map (row_of m t) (accepted t entries))
    accepted_come [] sound = tt
    accepted_come (e ∷ es) sound = by (is_none (entry_refusal t e)) refl (accepted_come es sound.1)
      where
        by : (b : Bool) → is_none (entry_refusal t e) ≡ b → AllByRecursion (MayCome t m) (map (row_of m t) (accepted t es)) → AllByRecursion (MayCome t m) (map (row_of m t) (cond b (e ∷ accepted t es) (accepted t es)))
        by true fine rest = (row_comes e.key e.mutations sound.0 (none_of (entry_refusal t e) fine), rest)
        by false fine rest = rest

    one_record_comes : (es : List Event) → AreLawful p es → ComeInTurn p (one_record es)
    one_record_comes [] lawful = tt
    one_record_comes (e ∷ es) lawful = (lawful, tt)

    rows_come : (entries : List AskedEntry) → AreSoundEntries entries → ComeInTurn p (one_record (map (λ e. event m (row_of m t e)) (accepted t entries)))
    rows_come entries sound =
        let come = come_in_turn t m (map (row_of m t) (accepted t entries)) (accepted_come entries sound) p is.own before in
        one_record_comes (map (λ e. event m (row_of m t e)) (accepted t entries)) (subst (AreLawful p) (map-map (event m) (row_of m t) (accepted t entries)) come)

  pub mutate_comes : (key : List ℕ) (ms : List AskedMutation) (o : Option TableInfo) → ((t : TableInfo) → o ≡ Some t → IsOwn p t) → AreSoundMutations ms → Comes p (mutate_reply m key ms o)
  mutate_comes key ms None is sound = tt
  mutate_comes key ms (Some t) is sound =
      unless p (mutate_refusal key ms t) _ (λ none. one p _ ((row_comes t (is t refl) key ms sound none).lawful p (is t refl).own before))

  pub mutate_rows_comes : (entries : List AskedEntry) (o : Option TableInfo) → ((t : TableInfo) → o ≡ Some t → IsOwn p t) → AreSoundEntries entries → Comes p (mutate_rows_reply m entries o)
  mutate_rows_comes entries None is sound = tt
  mutate_rows_comes entries (Some t) is sound = unless p (entries_refusal entries) _ (λ none. rows_come t (is t refl) entries sound)

  -- ---- DropRowRange

  all_filtered : (q : List ℕ → Bool) (keys : List (List ℕ)) → AllByRecursion (λ k. IsTrue (is_row_key k)) keys → AllByRecursion (λ k. IsTrue (is_row_key k)) (filter q keys)
  all_filtered q [] all = tt
  all_filtered q (k ∷ ks) all = by (q k) (all_filtered q ks all.1)
    where
      by : (b : Bool) → AllByRecursion (λ k. IsTrue (is_row_key k)) (filter q ks) → AllByRecursion (λ k. IsTrue (is_row_key k)) (cond b (k ∷ filter q ks) (filter q ks))
      by true rest = (all.0, rest)
      by false rest = rest

  keys_lawful : (target : Option DropTarget) (rows : Contents) → AllByRecursion IsLawfulRow rows → AllByRecursion (λ k. IsTrue (is_row_key k)) (target_keys target rows)
  keys_lawful None rows all = tt
  keys_lawful (Some target) rows all = all_filtered (is_target target) (keys_of rows) (row_keys rows all)

  module _ (t : TableInfo) (small : t.incarnation < 2 ^ 64) where
    deletion_comes : (key : List ℕ) → IsTrue (is_row_key key) → MayCome t m (deletion_of t key)
    deletion_comes key is = record {
      of_row = tt;
      lawful = λ q found behind. record { spellable = (small, is, (omega arith, omega arith, (tt, tt))); not_past = not_past; not_before = behind; allowed = rw found refl };
    }

    deletions_come : (keys : List (List ℕ)) → AllByRecursion (λ k. IsTrue (is_row_key k)) keys → AllByRecursion (MayCome t m) (map (deletion_of t) keys)
    deletions_come [] all = tt
    deletions_come (key ∷ keys) all = (deletion_comes key all.0, deletions_come keys all.1)

    -- pieces of such entries come one after another
    pieces_come : (ess : List (List Entry)) → AllByRecursion (λ es. (1 ≤ length es) × AllByRecursion (MayCome t m) es) ess → (q : Present) → table_at t.incarnation q.schema ≡ Some t → q.floor ≤ m → ComeInTurn q (map (map (event m)) ess)
    pieces_come [] all q found behind = tt
    pieces_come (es ∷ ess) all q found behind =
        let after = rows_after t m es all.0.1 q behind in
        let there : table_at t.incarnation (presents_after q (map (event m) es)).schema ≡ Some t = ap (table_at t.incarnation) after.schema ∙ found in
        (come_in_turn t m es all.0.1 q found behind, pieces_come ess all.1 (presents_after q (map (event m) es)) there after.floor)

  dropped_come : (t : TableInfo) (target : Option DropTarget) → IsOwn p t → ComeInTurn p (cut_every 1000 (map (λ key. event m (deletion_of t key)) (target_keys target (rows_of t.incarnation p.contents))))
  dropped_come t target is =
      let keys = target_keys target (rows_of t.incarnation p.contents) in
      let entries = map (deletion_of t) keys in
      let lawful = keys_lawful target (rows_of t.incarnation p.contents) is.rows.lawful.each in
      let come = pieces_come t is.small (cut_every 1000 entries) (pieces 1000 (MayCome t m) entries (deletions_come t is.small keys lawful)) p is.own before in
      subst (ComeInTurn p) (map-cut_every 1000 (event m) entries ∙ ap (cut_every 1000) (map-map (event m) (deletion_of t) keys)) come

  pub drop_comes : (target : Option DropTarget) (o : Option TableInfo) → ((t : TableInfo) → o ≡ Some t → IsOwn p t) → Comes p (drop_reply p m target o)
  drop_comes target None is = tt
  drop_comes target (Some t) is = unless p (target_refusal target) _ (λ none. dropped_come t target (is t refl))
