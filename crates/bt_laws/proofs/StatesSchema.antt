-- Tables stay as they are to be, after an entry that may come.
use Rattle.std.proofs.Common.{◌≡◌, ◌<◌, ◌≤◌, ◌+◌, ℕ, Bool, true, false, ◌==◌, List, [], ◌∷◌, length, Option, Some, None, cond, not, refl, sym, ap, ◌∙◌, subst, arith, if◌then◌else◌, eqb-true}
use Rattle.std.specs.Prelude.{IsTrue, nat_le, option_map, is_some}
use Rattle.std.specs.List.{AllByRecursion}
use Rattle.std.specs.List.Sorted.{IsStrictlySortedBy}
use Rattle.std.specs.Option.{option_or}
use Rattle.std.specs.Ordering.{nat_cmp, match_ordering}
use Rattle.std.specs.declared.cmp.Ordering.{Ordering}
use Rattle.std.specs.declared.cmp.Ordering.TheVariants.{Less, Equal, Greater}
use Rattle.std.specs.Cmp.Lexicographic.{slice_cmp}
use Rattle.std.specs.Map.{keys_of, values_of}
use Rattle.std.specs.BTreeMap.{insert_entry}
use Rattle.std.proofs.lemmas.Bool.{leb-false}
use Rattle.std.proofs.lemmas.List.{length-map}
use Rattle.std.proofs.lemmas.List.Elements.{All-cons, All-nil}
use Rattle.std.proofs.lemmas.Map.Keys.{sorted_head, sorted_tail}
use Rattle.std.proofs.lemmas.Map.Lookups.{exact_bytes}
use Rattle.std.proofs.lemmas.Cmp.{nat_list_cmp_total}
use Rattle.bt_rules.specs.declared.family.Family.{Family}
use Rattle.bt_entry.specs.declared.entry.Entry.{Entry}
use Rattle.bt_entry.specs.declared.entry.Entry.TheVariants.{Row, Create, Delete, Alter, Stream, Floor}
use Rattle.bt_entry.specs.declared.table_info.TableInfo.{TableInfo}
use Rattle.bt_entry.specs.Grammar.{AreSpellableFamilies, IsSpellableEntry, is_retention}
use Rattle.bt_schema.specs.declared.refusal.SchemaRefusal.{SchemaRefusal}
use Rattle.bt_schema.specs.declared.refusal.SchemaRefusal.TheVariants.{AlreadyExists, TooManyTables}
use Rattle.bt_schema.specs.Schema.{Schema, change_refusal, changed_at, families_refusal, most_tables, new_table, room_refusal, schema_after, table_at, table_of, with_families, with_retention, without}
use Rattle.bt_schema.proofs.Altered.{gone}
use Rattle.bt_state.specs.State.{AreMade}
use Rattle.bt_state.proofs.Made.{none_past}
use Rattle.bt_state.proofs.Maps.{sorted_insert}
use Rattle.bt_laws.specs.States.{HaveOwnIncarnations, IsTableAt}

-- ---- the table of an incarnation

module _ (n : ℕ) where
  module _ (name : List ℕ) (info : TableInfo) (other : (info.incarnation == n) ≡ false) where
    -- a new table of another incarnation, at a name that was free
    put_by : (t : List ℕ × TableInfo) (ts : Schema) (r : Ordering) → slice_cmp nat_cmp name t.0 ≡ r → table_of name (t ∷ ts) ≡ None → (table_of name ts ≡ None → table_at n (insert_entry (slice_cmp nat_cmp) ts name info) ≡ table_at n ts)
        → table_at n (match_ordering r ((name, info) ∷ t ∷ ts) ((t.0, info) ∷ ts) (t ∷ insert_entry (slice_cmp nat_cmp) ts name info)) ≡ table_at n (t ∷ ts)
    put_by t ts Less is free rest = rw other refl
    put_by t ts Equal is free rest = cc (rw is at free)
    put_by t ts Greater is free rest = ap (λ o. if t.1.incarnation == n then Some t.1 else o) (rest (rw is at free))

    pub at_insert : (ts : Schema) → table_of name ts ≡ None → table_at n (insert_entry (slice_cmp nat_cmp) ts name info) ≡ table_at n ts
    at_insert [] free = rw other refl
    at_insert (t ∷ ts) free = put_by t ts (slice_cmp nat_cmp name t.0) refl free (at_insert ts)

  module _ (incarnation : ℕ) where
    without_by : (t : List ℕ × TableInfo) (ts : Schema) (b : Bool) → (t.1.incarnation == incarnation) ≡ b → (incarnation == n) ≡ false → table_at n (without incarnation ts) ≡ table_at n ts
        → table_at n (cond (not b) (t ∷ without incarnation ts) (without incarnation ts)) ≡ table_at n (t ∷ ts)
    without_by t ts true is other rest =
        let apart : (t.1.incarnation == n) ≡ false = ap (λ m. m == n) (eqb-true t.1.incarnation incarnation is) ∙ other in
        rest ∙ rw apart refl
    without_by t ts false is other rest = ap (λ o. if t.1.incarnation == n then Some t.1 else o) rest

    -- without the table of another
    pub at_without : (ts : Schema) → (incarnation == n) ≡ false → table_at n (without incarnation ts) ≡ table_at n ts
    at_without [] other = refl
    at_without (t ∷ ts) other = without_by t ts (t.1.incarnation == incarnation) refl other (at_without ts other)

    module _ (change : TableInfo → TableInfo) (keeps : (t : TableInfo) → (change t).incarnation ≡ t.incarnation) where
      abbrev pub changed : TableInfo → TableInfo
      changed t = if t.incarnation == incarnation then change t else t

      changed_by : (t : List ℕ × TableInfo) (ts : Schema) (b d : Bool) → (t.1.incarnation == incarnation) ≡ b → (t.1.incarnation == n) ≡ d → table_at n (changed_at incarnation change ts) ≡ option_map changed (table_at n ts)
          → table_at n ((if b then (t.0, change t.1) else t) ∷ changed_at incarnation change ts) ≡ option_map changed (if d then Some t.1 else table_at n ts)
      changed_by t ts true true is here rest = rw (keeps t.1, here, is) refl
      changed_by t ts true false is here rest = rw (keeps t.1, here) rest
      changed_by t ts false true is here rest = rw (here, is) refl
      changed_by t ts false false is here rest = rw here rest

      -- where the table of an incarnation changes
      pub at_changed : (ts : Schema) → table_at n (changed_at incarnation change ts) ≡ option_map changed (table_at n ts)
      at_changed [] = refl
      at_changed (t ∷ ts) = changed_by t ts (t.1.incarnation == incarnation) (t.1.incarnation == n) refl refl (at_changed ts)

  found_by : (t : List ℕ × TableInfo) (ts : Schema) (info : TableInfo) (b : Bool) → (t.1.incarnation == n) ≡ b → (if b then Some t.1 else table_at n ts) ≡ Some info → (table_at n ts ≡ Some info → info.incarnation ≡ n) → info.incarnation ≡ n
  found_by t ts info true is found rest = let same : t.1 ≡ info = cc found in subst (λ (i : TableInfo). i.incarnation ≡ n) same (eqb-true t.1.incarnation n is)
  found_by t ts info false is found rest = rest found

  -- the table has it
  pub at_found : (ts : Schema) (info : TableInfo) → table_at n ts ≡ Some info → info.incarnation ≡ n
  at_found [] info found = cc found
  at_found (t ∷ ts) info found = found_by t ts info (t.1.incarnation == n) refl found (at_found ts info)

-- ---- what holds of each table

module _ (P : List ℕ × TableInfo → Type 0) where
  module _ (name : List ℕ) (info : TableInfo) (new : P (name, info)) where
    each_by : (t : List ℕ × TableInfo) (ts : Schema) (r : Ordering) → slice_cmp nat_cmp name t.0 ≡ r → AllByRecursion P (t ∷ ts) → AllByRecursion P (insert_entry (slice_cmp nat_cmp) ts name info)
        → AllByRecursion P (match_ordering r ((name, info) ∷ t ∷ ts) ((t.0, info) ∷ ts) (t ∷ insert_entry (slice_cmp nat_cmp) ts name info))
    each_by t ts Less is all rest = (new, all)
    each_by t ts Equal is all rest = (subst (λ k. P (k, info)) (exact_bytes name t.0 is) new, all.1)
    each_by t ts Greater is all rest = (all.0, rest)

    each_insert : (ts : Schema) → AllByRecursion P ts → AllByRecursion P (insert_entry (slice_cmp nat_cmp) ts name info)
    each_insert [] all = (new, tt)
    each_insert (t ∷ ts) all = each_by t ts (slice_cmp nat_cmp name t.0) refl all (each_insert ts all.1)

  module _ (incarnation : ℕ) where
    kept_by : (t : List ℕ × TableInfo) (ts : Schema) (b : Bool) → P t → AllByRecursion P ts → AllByRecursion P (cond b (t ∷ ts) ts)
    kept_by t ts true here all = (here, all)
    kept_by t ts false here all = all

    each_without : (ts : Schema) → AllByRecursion P ts → AllByRecursion P (without incarnation ts)
    each_without [] all = tt
    each_without (t ∷ ts) all = kept_by t (without incarnation ts) (not (t.1.incarnation == incarnation)) all.0 (each_without ts all.1)

    module _ (change : TableInfo → TableInfo) (keeps : (t : List ℕ × TableInfo) → P t → P (t.0, change t.1)) where
      all_by : (t : List ℕ × TableInfo) (b : Bool) → P t → P (if b then (t.0, change t.1) else t)
      all_by t true here = keeps t here
      all_by t false here = here

      each_changed : (ts : Schema) → AllByRecursion P ts → AllByRecursion P (changed_at incarnation change ts)
      each_changed [] all = tt
      each_changed (t ∷ ts) all = (all_by t (t.1.incarnation == incarnation) all.0, each_changed ts all.1)

each_later : (last floor moment : ℕ) (ts : Schema) → floor ≤ moment → AllByRecursion (IsTableAt last floor) ts → AllByRecursion (IsTableAt (last + 1) moment) ts
each_later last floor moment [] le all = tt
each_later last floor moment (t ∷ ts) le all =
    let made = all.0.made.1 in
    let since = all.0.since in
    let began = all.0.since_moment in (
      record {
        named = all.0.named;
        lawful = all.0.lawful;
        made = (all.0.made.0, omega (arith, made));
        since = omega (arith, since);
        since_moment = omega (arith, began, le);
        streams = all.0.streams;
        families = all.0.families;
        retention = all.0.retention;
      },
      each_later last floor moment ts le all.1,
    )

within_if : (b : Bool) (n m k : ℕ) → n ≤ k → m ≤ k → (if b then n else m) ≤ k
within_if true n m k first second = first
within_if false n m k first second = second

-- where there is a stream, its sequence is not 0
streams_if : (b : Bool) (n : ℕ) → (n == 0) ≡ false → ((if b then 0 else n) == 0) ≡ b
streams_if true n some = refl
streams_if false n some = some

some_if : (b : Bool) (n m : ℕ) → (n == 0) ≡ b → (m == 0) ≡ false → ((if b then m else n) == 0) ≡ false
some_if true n m is some = some
some_if false n m is some = is

not_none : (n : ℕ) → (n + 1 == 0) ≡ false
not_none n = grind arith

module _ (last moment : ℕ) where
  new_at : (name : List ℕ) (families : List Family) (retention : ℕ) → IsSpellableEntry (Create name families retention) → IsTableAt (last + 1) moment (name, new_table (last + 1) moment name families retention)
  new_at name families retention is = record {
    named = refl;
    lawful = is.0;
    made = (omega arith, omega arith);
    since = within_if (retention == 0) 0 (last + 1) (last + 1) (omega arith) (omega arith);
    since_moment = within_if (retention == 0) 0 moment moment (omega arith) (omega arith);
    streams = streams_if (retention == 0) (last + 1) (not_none last);
    families = is.1;
    retention = is.2;
  }

  families_at : (families : List Family) → AreSpellableFamilies families → (t : List ℕ × TableInfo) → IsTableAt (last + 1) moment t → IsTableAt (last + 1) moment (t.0, with_families families t.1)
  families_at families spellable t is = record {
    named = is.named;
    lawful = is.lawful;
    made = is.made;
    since = is.since;
    since_moment = is.since_moment;
    streams = is.streams;
    families = spellable;
    retention = is.retention;
  }

  stream_at : (retention : ℕ) → IsTrue (is_retention retention) → (t : List ℕ × TableInfo) → IsTableAt (last + 1) moment t → IsTableAt (last + 1) moment (t.0, with_retention (last + 1) moment retention t.1)
  stream_at retention lawful t is = record {
    named = is.named;
    lawful = is.lawful;
    made = is.made;
    since = within_if (retention == 0) 0 (if t.1.since == 0 then last + 1 else t.1.since) (last + 1) (omega arith) (within_if (t.1.since == 0) (last + 1) t.1.since (last + 1) (omega arith) is.since);
    since_moment = within_if (retention == 0) 0 (if t.1.since == 0 then moment else t.1.since_moment) moment (omega arith) (within_if (t.1.since == 0) moment t.1.since_moment moment (omega arith) is.since_moment);
    streams = streams_if (retention == 0) (if t.1.since == 0 then last + 1 else t.1.since) (some_if (t.1.since == 0) t.1.since (last + 1) refl (not_none last));
    families = is.families;
    retention = lawful;
  }

  each_at : (e : Entry) (ts : Schema) → IsSpellableEntry e → AllByRecursion (IsTableAt (last + 1) moment) ts → AllByRecursion (IsTableAt (last + 1) moment) (schema_after (last + 1) moment e ts)
  each_at (Row incarnation key by_rule mutations) ts is all = all
  each_at (Create name families retention) ts is all = each_insert (IsTableAt (last + 1) moment) name (new_table (last + 1) moment name families retention) (new_at name families retention is) ts all
  each_at (Delete incarnation) ts is all = each_without (IsTableAt (last + 1) moment) incarnation ts all
  each_at (Alter incarnation families) ts is all = each_changed (IsTableAt (last + 1) moment) incarnation (with_families families) (families_at families is.1) ts all
  each_at (Stream incarnation retention) ts is all = each_changed (IsTableAt (last + 1) moment) incarnation (with_retention (last + 1) moment retention) (stream_at retention is.1) ts all
  each_at Floor ts is all = all

  -- each table is one after the entry of the next sequence
  pub tables_after : (floor : ℕ) (e : Entry) (ts : Schema) → IsSpellableEntry e → floor ≤ moment → AllByRecursion (IsTableAt last floor) ts → AllByRecursion (IsTableAt (last + 1) moment) (schema_after (last + 1) moment e ts)
  tables_after floor e ts is le all = each_at e ts is (each_later last floor moment ts le all)

-- ---- the order of names

sorted_cons : (k : List ℕ) (ks : List (List ℕ)) → AllByRecursion (λ y. slice_cmp nat_cmp k y ≡ Less) ks → IsStrictlySortedBy (slice_cmp nat_cmp) ks → IsStrictlySortedBy (slice_cmp nat_cmp) (k ∷ ks)
unfolding IsStrictlySortedBy
sorted_cons k ks above sorted = (above, sorted)

module _ (incarnation : ℕ) where
  keys_by : (P : List ℕ → Type 0) (t : List ℕ × TableInfo) (ts : Schema) (b : Bool) → P t.0 → AllByRecursion P (keys_of ts) → AllByRecursion P (keys_of (cond b (t ∷ ts) ts))
  keys_by P t ts true here all = (here, all)
  keys_by P t ts false here all = all

  keys_without : (P : List ℕ → Type 0) (ts : Schema) → AllByRecursion P (keys_of ts) → AllByRecursion P (keys_of (without incarnation ts))
  keys_without P [] all = tt
  keys_without P (t ∷ ts) all = keys_by P t (without incarnation ts) (not (t.1.incarnation == incarnation)) all.0 (keys_without P ts all.1)

  sorted_by : (t : List ℕ × TableInfo) (ts : Schema) (b : Bool) → AllByRecursion (λ y. slice_cmp nat_cmp t.0 y ≡ Less) (keys_of ts) → IsStrictlySortedBy (slice_cmp nat_cmp) (keys_of ts) → IsStrictlySortedBy (slice_cmp nat_cmp) (keys_of (cond b (t ∷ ts) ts))
  sorted_by t ts true above sorted = sorted_cons t.0 (keys_of ts) above sorted
  sorted_by t ts false above sorted = sorted

  sorted_without : (ts : Schema) → IsStrictlySortedBy (slice_cmp nat_cmp) (keys_of ts) → IsStrictlySortedBy (slice_cmp nat_cmp) (keys_of (without incarnation ts))
  sorted_without [] sorted = sorted
  sorted_without (t ∷ ts) sorted =
      sorted_by t (without incarnation ts) (not (t.1.incarnation == incarnation)) (keys_without (λ y. slice_cmp nat_cmp t.0 y ≡ Less) ts (sorted_head (slice_cmp nat_cmp) t.0 (keys_of ts) sorted))
      (sorted_without ts (sorted_tail (slice_cmp nat_cmp) t.0 (keys_of ts) sorted))

  name_by : (change : TableInfo → TableInfo) (t : List ℕ × TableInfo) (b : Bool) → (if b then (t.0, change t.1) else t).0 ≡ t.0
  name_by change t true = refl
  name_by change t false = refl

  names_changed : (change : TableInfo → TableInfo) (ts : Schema) → keys_of (changed_at incarnation change ts) ≡ keys_of ts
  names_changed change [] = refl
  names_changed change (t ∷ ts) = cc (name_by change t (t.1.incarnation == incarnation), names_changed change ts)

  sorted_changed : (change : TableInfo → TableInfo) (ts : Schema) → IsStrictlySortedBy (slice_cmp nat_cmp) (keys_of ts) → IsStrictlySortedBy (slice_cmp nat_cmp) (keys_of (changed_at incarnation change ts))
  sorted_changed change ts sorted = subst (λ ks. IsStrictlySortedBy (slice_cmp nat_cmp) ks) (sym (names_changed change ts)) sorted

pub sorted_after : (sequence moment : ℕ) (e : Entry) (ts : Schema) → IsStrictlySortedBy (slice_cmp nat_cmp) (keys_of ts) → IsStrictlySortedBy (slice_cmp nat_cmp) (keys_of (schema_after sequence moment e ts))
sorted_after sequence moment (Row incarnation key by_rule mutations) ts sorted = sorted
sorted_after sequence moment (Create name families retention) ts sorted = sorted_insert nat_list_cmp_total name (new_table sequence moment name families retention) ts sorted
sorted_after sequence moment (Delete incarnation) ts sorted = sorted_without incarnation ts sorted
sorted_after sequence moment (Alter incarnation families) ts sorted = sorted_changed incarnation (with_families families) ts sorted
sorted_after sequence moment (Stream incarnation retention) ts sorted = sorted_changed incarnation (with_retention sequence moment retention) ts sorted
sorted_after sequence moment Floor ts sorted = sorted

-- ---- what may come

free_by : (found : Bool) (families room : Option SchemaRefusal) → (if found then Some AlreadyExists else option_or families room) ≡ None → found ≡ false
free_by true families room none = cc none
free_by false families room none = refl

none_found : {X : Type 0} (o : Option X) → is_some o ≡ false → o ≡ None
none_found None is = refl
none_found (Some x) is = cc is

-- a new table takes a name that was free
pub is_free : (name : List ℕ) (families : List Family) (retention : ℕ) (ts : Schema) → change_refusal (Create name families retention) ts ≡ None → table_of name ts ≡ None
is_free name families retention ts allowed = none_found (table_of name ts) (free_by (is_some (table_of name ts)) (families_refusal families) (room_refusal ts) allowed)

-- ---- incarnations differ

pub made_of : (last floor : ℕ) (ts : Schema) → AllByRecursion (IsTableAt last floor) ts → AreMade last ts
made_of last floor [] all = All-nil (λ (t : TableInfo). t.incarnation ≤ last)
made_of last floor (t ∷ ts) all = All-cons (λ (t : TableInfo). t.incarnation ≤ last) t.1 (values_of ts) all.0.made.1 (made_of last floor ts all.1)

module _ (last floor moment : ℕ) where
  module _ (name : List ℕ) (families : List Family) (retention : ℕ) where
    abbrev info : TableInfo
    info = new_table (last + 1) moment name families retention

    earlier : (n : ℕ) (b : Bool) → (last + 1 == n) ≡ b → n ≤ last → b ≡ false
    earlier n true is le = let same : last + 1 ≡ n = eqb-true (last + 1) n is in absurd (omega (arith, same, le))
    earlier n false is le = refl

    apart_by : (t : List ℕ × TableInfo) (ts : Schema) (r : Ordering) → slice_cmp nat_cmp name t.0 ≡ r → table_of name (t ∷ ts) ≡ None → AllByRecursion (IsTableAt last floor) (t ∷ ts) → HaveOwnIncarnations (t ∷ ts)
        → (table_of name ts ≡ None → HaveOwnIncarnations (insert_entry (slice_cmp nat_cmp) ts name info)) → HaveOwnIncarnations (match_ordering r ((name, info) ∷ t ∷ ts) ((t.0, info) ∷ ts) (t ∷ insert_entry (slice_cmp nat_cmp) ts name info))
    apart_by t ts Less is free all apart rest = (none_past last (last + 1) (omega arith) (t ∷ ts) (made_of last floor (t ∷ ts) all), apart)
    apart_by t ts Equal is free all apart rest = absurd (cc (rw is at free))
    apart_by t ts Greater is free all apart rest =
        let behind : table_of name ts ≡ None = rw is at free in
        (at_insert t.1.incarnation name info (earlier t.1.incarnation (last + 1 == t.1.incarnation) refl all.0.made.1) ts behind ∙ apart.0, rest behind)

    apart_insert : (ts : Schema) → table_of name ts ≡ None → AllByRecursion (IsTableAt last floor) ts → HaveOwnIncarnations ts → HaveOwnIncarnations (insert_entry (slice_cmp nat_cmp) ts name info)
    apart_insert [] free all apart = (refl, tt)
    apart_insert (t ∷ ts) free all apart = apart_by t ts (slice_cmp nat_cmp name t.0) refl free all apart (λ behind. apart_insert ts behind all.1 apart.1)

  module _ (incarnation : ℕ) where
    none_by : (n : ℕ) (ts : Schema) (b : Bool) → (incarnation == n) ≡ b → table_at n ts ≡ None → table_at n (without incarnation ts) ≡ None
    none_by n ts true is none = let same : incarnation ≡ n = eqb-true incarnation n is in subst (λ m. table_at m (without incarnation ts) ≡ None) same (gone [] incarnation ts)
    none_by n ts false is none = at_without n incarnation ts is ∙ none

    gone_by : (t : List ℕ × TableInfo) (ts : Schema) (b : Bool) → table_at t.1.incarnation ts ≡ None → HaveOwnIncarnations ts → HaveOwnIncarnations (cond b (t ∷ ts) ts)
    gone_by t ts true none rest = (none, rest)
    gone_by t ts false none rest = rest

    apart_without : (ts : Schema) → HaveOwnIncarnations ts → HaveOwnIncarnations (without incarnation ts)
    apart_without [] apart = tt
    apart_without (t ∷ ts) apart =
        gone_by t (without incarnation ts) (not (t.1.incarnation == incarnation)) (none_by t.1.incarnation ts (incarnation == t.1.incarnation) refl apart.0) (apart_without ts apart.1)

    module _ (change : TableInfo → TableInfo) (keeps : (t : TableInfo) → (change t).incarnation ≡ t.incarnation) where
      same_by : (t : List ℕ × TableInfo) (b : Bool) → (if b then (t.0, change t.1) else t).1.incarnation ≡ t.1.incarnation
      same_by t true = keeps t.1
      same_by t false = refl

      apart_changed : (ts : Schema) → HaveOwnIncarnations ts → HaveOwnIncarnations (changed_at incarnation change ts)
      apart_changed [] apart = tt
      apart_changed (t ∷ ts) apart =
          let none : table_at t.1.incarnation (changed_at incarnation change ts) ≡ None = at_changed t.1.incarnation incarnation change keeps ts ∙ ap (option_map (changed t.1.incarnation incarnation change keeps)) apart.0 in
          (ap (λ n. table_at n (changed_at incarnation change ts)) (same_by t (t.1.incarnation == incarnation)) ∙ none, apart_changed ts apart.1)

  pub apart_after : (e : Entry) (ts : Schema) → change_refusal e ts ≡ None → AllByRecursion (IsTableAt last floor) ts → HaveOwnIncarnations ts → HaveOwnIncarnations (schema_after (last + 1) moment e ts)
  apart_after (Row incarnation key by_rule mutations) ts allowed all apart = apart
  apart_after (Create name families retention) ts allowed all apart = apart_insert name families retention ts (is_free name families retention ts allowed) all apart
  apart_after (Delete incarnation) ts allowed all apart = apart_without incarnation ts apart
  apart_after (Alter incarnation families) ts allowed all apart = apart_changed incarnation (with_families families) (λ t. refl) ts apart
  apart_after (Stream incarnation retention) ts allowed all apart = apart_changed incarnation (with_retention (last + 1) moment retention) (λ t. refl) ts apart
  apart_after Floor ts allowed all apart = apart

-- ---- not too many tables

module _ (name : List ℕ) (info : TableInfo) where
  more_by : (t : List ℕ × TableInfo) (ts : Schema) (r : Ordering) → length (insert_entry (slice_cmp nat_cmp) ts name info) ≤ length ts + 1
      → length (match_ordering r ((name, info) ∷ t ∷ ts) ((t.0, info) ∷ ts) (t ∷ insert_entry (slice_cmp nat_cmp) ts name info)) ≤ length (t ∷ ts) + 1
  more_by t ts Less rest = omega (arith, rest)
  more_by t ts Equal rest = omega (arith, rest)
  more_by t ts Greater rest = omega (arith, rest)

  one_more : (ts : Schema) → length (insert_entry (slice_cmp nat_cmp) ts name info) ≤ length ts + 1
  one_more [] = omega arith
  one_more (t ∷ ts) = more_by t ts (slice_cmp nat_cmp name t.0) (one_more ts)

module _ (incarnation : ℕ) where
  fewer_by : (t : List ℕ × TableInfo) (ts rest : Schema) (b : Bool) → length rest ≤ length ts → length (cond b (t ∷ rest) rest) ≤ length (t ∷ ts)
  fewer_by t ts rest true le = omega (arith, le)
  fewer_by t ts rest false le = omega (arith, le)

  fewer : (ts : Schema) → length (without incarnation ts) ≤ length ts
  fewer [] = omega arith
  fewer (t ∷ ts) = fewer_by t ts (without incarnation ts) (not (t.1.incarnation == incarnation)) (fewer ts)

  as_many : (change : TableInfo → TableInfo) (ts : Schema) → length (changed_at incarnation change ts) ≡ length ts
  as_many change ts = length-map ts _

room_by : (found full : Bool) (families : Option SchemaRefusal) → (if found then Some AlreadyExists else option_or families (if full then Some TooManyTables else None)) ≡ None → full ≡ false
room_by true full families none = cc none
room_by false full (Some refusal) none = cc none
room_by false true None none = cc none
room_by false false None none = refl

pub few_after : (sequence moment : ℕ) (e : Entry) (ts : Schema) → change_refusal e ts ≡ None → length ts ≤ most_tables → length (schema_after sequence moment e ts) ≤ most_tables
few_after sequence moment (Row incarnation key by_rule mutations) ts allowed few = few
few_after sequence moment (Create name families retention) ts allowed few =
    let room : length ts < most_tables = leb-false most_tables (length ts) (room_by (is_some (table_of name ts)) (nat_le most_tables (length ts)) (families_refusal families) allowed) in
    let more = one_more name (new_table sequence moment name families retention) ts in
    omega (arith, room, more)
few_after sequence moment (Delete incarnation) ts allowed few = let less = fewer incarnation ts in omega (arith, less, few)
few_after sequence moment (Alter incarnation families) ts allowed few = let same = as_many incarnation (with_families families) ts in omega (arith, same, few)
few_after sequence moment (Stream incarnation retention) ts allowed few = let same = as_many incarnation (with_retention sequence moment retention) ts in omega (arith, same, few)
few_after sequence moment Floor ts allowed few = few
