-- A table that is deleted: no later entry of a batch changes a row of it, so its rows may go before or after.
use Rattle.std.proofs.Common.{◌≡◌, ℕ, ◌+◌, ◌≤◌, ◌==◌, Bool, true, false, List, [], ◌∷◌, Some, None, cond, refl, ap, ◌∙◌, arith, if◌then◌else◌, not, eqb-true}
use Rattle.std.specs.Prelude.{unwrap_or}
use Rattle.std.specs.List.{AllByRecursion, cons_option}
use Rattle.std.specs.Ordering.{nat_cmp, match_ordering}
use Rattle.std.specs.declared.cmp.Ordering.{Ordering}
use Rattle.std.specs.declared.cmp.Ordering.TheVariants.{Less, Equal, Greater}
use Rattle.std.specs.Cmp.Lexicographic.{slice_cmp}
use Rattle.std.specs.BTreeMap.{insert_entry, is_at}
use Rattle.std.proofs.lemmas.Cmp.{nat_cmp_total}
use Rattle.bt_types.specs.declared.mutation.Mutation.{Mutation}
use Rattle.bt_entry.specs.declared.entry.Entry.{Entry}
use Rattle.bt_entry.specs.declared.entry.Entry.TheVariants.{Row, Create, Delete, Alter, Stream, Floor}
use Rattle.bt_entry.specs.declared.numbered.Numbered.{Numbered}
use Rattle.bt_entry.specs.declared.table_info.TableInfo.{TableInfo}
use Rattle.bt_schema.specs.Schema.{Schema, change_refusal, changed_at, new_table, schema_after, table_at, with_families, with_retention, without}
use Rattle.bt_all_contents.specs.declared.row_change.RowChange.{RowChange}
use Rattle.bt_contents.specs.Contents.{Contents, put_row}
use Rattle.bt_all_contents.specs.AllContents.{AllContents, all_changed, one_changed, rows_of, with_rows, without_rows}
use Rattle.bt_state.specs.State.{AreLawful, AreOrdered, Present, event_of, events_of, present_after}
use Rattle.bt_state.specs.Batches.{row_change_of, row_changes_of}
use Rattle.bt_state.proofs.Entries.{not_refused}
use Rattle.bt_state.proofs.Maps.{insert_remove, lookup_remove, remove_remove, sorted_insert, sorted_remove}

module _ (n : ℕ) where
  none_parts : (t : List ℕ × TableInfo) (ts : Schema) (b : Bool) → (t.1.incarnation == n) ≡ b → (if b then Some t.1 else table_at n ts) ≡ None → (b ≡ false) × (table_at n ts ≡ None)
  none_parts t ts true e none = cc none
  none_parts t ts false e none = (refl, none)

  parts_of : (t : List ℕ × TableInfo) (ts : Schema) → table_at n (t ∷ ts) ≡ None → ((t.1.incarnation == n) ≡ false) × (table_at n ts ≡ None)
  parts_of t ts none = none_parts t ts (t.1.incarnation == n) refl none

  none_behind : (t : List ℕ × TableInfo) (ts : Schema) → (t.1.incarnation == n) ≡ false → table_at n ts ≡ None → table_at n (t ∷ ts) ≡ None
  none_behind t ts other none = rw other none

  module _ (name : List ℕ) (info : TableInfo) (other : (info.incarnation == n) ≡ false) where
    put_by : (t : List ℕ × TableInfo) (ts : Schema) (r : Ordering) → ((t.1.incarnation == n) ≡ false) × (table_at n ts ≡ None) → table_at n (insert_entry (slice_cmp nat_cmp) ts name info) ≡ None
        → table_at n (match_ordering r ((name, info) ∷ t ∷ ts) ((t.0, info) ∷ ts) (t ∷ insert_entry (slice_cmp nat_cmp) ts name info)) ≡ None
    put_by t ts Less none rest = none_behind (name, info) (t ∷ ts) other (none_behind t ts none.0 none.1)
    put_by t ts Equal none rest = none_behind (t.0, info) ts other none.1
    put_by t ts Greater none rest = none_behind t (insert_entry (slice_cmp nat_cmp) ts name info) none.0 rest

    none_put : (ts : Schema) → table_at n ts ≡ None → table_at n (insert_entry (slice_cmp nat_cmp) ts name info) ≡ None
    none_put [] none = none_behind (name, info) [] other refl
    none_put (t ∷ ts) none = put_by t ts (slice_cmp nat_cmp name t.0) (parts_of t ts none) (none_put ts (parts_of t ts none).1)

  module _ (incarnation : ℕ) where
    without_by : (t : List ℕ × TableInfo) (ts : Schema) (b : Bool) → (t.1.incarnation == n) ≡ false → table_at n (without incarnation ts) ≡ None → table_at n (cond b (t ∷ without incarnation ts) (without incarnation ts)) ≡ None
    without_by t ts true other rest = none_behind t (without incarnation ts) other rest
    without_by t ts false other rest = rest

    none_without : (ts : Schema) → table_at n ts ≡ None → table_at n (without incarnation ts) ≡ None
    none_without [] none = refl
    none_without (t ∷ ts) none = without_by t ts (not (t.1.incarnation == incarnation)) (parts_of t ts none).0 (none_without ts (parts_of t ts none).1)

    module _ (change : TableInfo → TableInfo) (keeps : (t : TableInfo) → (change t).incarnation ≡ t.incarnation) where
      changed_by : (t : List ℕ × TableInfo) (b : Bool) → (t.1.incarnation == n) ≡ false → ((if b then (t.0, change t.1) else t).1.incarnation == n) ≡ false
      changed_by t true other = ap (λ i. i == n) (keeps t.1) ∙ other
      changed_by t false other = other

      none_changed : (ts : Schema) → table_at n ts ≡ None → table_at n (changed_at incarnation change ts) ≡ None
      none_changed [] none = refl
      none_changed (t ∷ ts) none =
          none_behind (if t.1.incarnation == incarnation then (t.0, change t.1) else t) (changed_at incarnation change ts) (changed_by t (t.1.incarnation == incarnation) (parts_of t ts none).0) (none_changed ts (parts_of t ts none).1)

  later_by : (last : ℕ) (b : Bool) → n ≤ last → (last + 1 == n) ≡ b → b ≡ false
  later_by last true le e = let same : last + 1 ≡ n = eqb-true (last + 1) n e in absurd (omega (arith, same, le))
  later_by last false le e = refl

  -- no later entry makes a table of an earlier sequence
  stays_gone : (last moment : ℕ) (e : Entry) (ts : Schema) → n ≤ last → table_at n ts ≡ None → table_at n (schema_after (last + 1) moment e ts) ≡ None
  stays_gone last moment (Row incarnation key by_rule mutations) ts le none = none
  stays_gone last moment (Create name families retention) ts le none =
      none_put name (new_table (last + 1) moment name families retention) (later_by last (last + 1 == n) le refl) ts none
  stays_gone last moment (Delete incarnation) ts le none = none_without incarnation ts none
  stays_gone last moment (Alter incarnation families) ts le none = none_changed incarnation (with_families families) (λ t. refl) ts none
  stays_gone last moment (Stream incarnation retention) ts le none = none_changed incarnation (with_retention (last + 1) moment retention) (λ t. refl) ts none
  stays_gone last moment Floor ts le none = none

  abbrev pub IsApart : RowChange → Type 0
  IsApart c = (c.incarnation == n) ≡ false

  row_by : (incarnation : ℕ) (key : List ℕ) (by_rule : Bool) (mutations : List Mutation) (ts : Schema) (b : Bool) → (incarnation == n) ≡ b → table_at n ts ≡ None → change_refusal (Row incarnation key by_rule mutations) ts ≡ None → b ≡ false
  row_by incarnation key by_rule mutations ts true e none allowed =
      let absent : table_at incarnation ts ≡ None = ap (λ i. table_at i ts) (eqb-true incarnation n e) ∙ none in
      cc (rw absent at allowed)
  row_by incarnation key by_rule mutations ts false e none allowed = refl

  apart_by : (e : Entry) (ts : Schema) (cs : List RowChange) → table_at n ts ≡ None → change_refusal e ts ≡ None → AllByRecursion IsApart cs → AllByRecursion IsApart (cons_option (row_change_of e) cs)
  apart_by (Row incarnation key by_rule mutations) ts cs none allowed rest = (row_by incarnation key by_rule mutations ts (incarnation == n) refl none allowed, rest)
  apart_by (Create name families retention) ts cs none allowed rest = rest
  apart_by (Delete incarnation) ts cs none allowed rest = rest
  apart_by (Alter incarnation families) ts cs none allowed rest = rest
  apart_by (Stream incarnation retention) ts cs none allowed rest = rest
  apart_by Floor ts cs none allowed rest = rest

  -- no row of it changes any more
  pub apart : (p : Present) (batch : List Numbered) → n ≤ p.last → table_at n p.schema ≡ None → AreLawful p (events_of batch) → AllByRecursion IsApart (row_changes_of batch)
  apart p [] le none lawful = tt
  apart p (m ∷ batch) le none lawful =
      apart_by m.entry p.schema (row_changes_of batch) none (not_refused p m lawful.0)
      (apart (present_after p (event_of m)) batch (omega (arith, le)) (stays_gone p.last m.moment m.entry p.schema le none) lawful.1)

  -- ---- its rows may go before or after

  equal_of : (k l : ℕ) → is_at (nat_cmp k) l ≡ true → k ≡ l
  equal_of k l is = grind arith

  other_of : (k l : ℕ) → (k == l) ≡ false → is_at (nat_cmp l) k ≡ false
  other_of k l other = grind arith

  module _ (m : ℕ) (other : (m == n) ≡ false) where
    stays : is_at (nat_cmp n) m ≡ false
    stays = other_of m n other

    apart_keys : (k : ℕ) → is_at (nat_cmp n) k ≡ true → is_at (nat_cmp m) k ≡ false
    apart_keys k is = grind arith

    apart_equal : (k : ℕ) → nat_cmp m k ≡ Equal → is_at (nat_cmp n) k ≡ false
    apart_equal k is = grind arith

    same_rows : (contents : AllContents) → rows_of m (without_rows n contents) ≡ rows_of m contents
    same_rows contents = ap (λ o. unwrap_or o []) (lookup_remove (is_at (nat_cmp n)) (is_at (nat_cmp m)) apart_keys contents)

    with_without : (rows : Contents) (contents : AllContents) → AreOrdered contents → with_rows m rows (without_rows n contents) ≡ without_rows n (with_rows m rows contents)
    with_without [] contents ordered = remove_remove (is_at (nat_cmp n)) (is_at (nat_cmp m)) apart_keys contents
    with_without (r ∷ rows) contents ordered = insert_remove nat_cmp_total (is_at (nat_cmp n)) m (r ∷ rows) stays apart_equal contents ordered

  one_apart : (c : RowChange) (contents : AllContents) → IsApart c → AreOrdered contents → one_changed c (without_rows n contents) ≡ without_rows n (one_changed c contents)
  one_apart c contents other ordered =
      ap (λ rows. with_rows c.incarnation (put_row c.key c.mutations rows) (without_rows n contents)) (same_rows c.incarnation other contents)
      ∙ with_without c.incarnation other (put_row c.key c.mutations (rows_of c.incarnation contents)) contents ordered

-- rows of a table that are put leave the tables in order
pub ordered_with : (incarnation : ℕ) (rows : Contents) (contents : AllContents) → AreOrdered contents → AreOrdered (with_rows incarnation rows contents)
ordered_with incarnation [] contents ordered = sorted_remove nat_cmp_total (is_at (nat_cmp incarnation)) contents ordered
ordered_with incarnation (r ∷ rows) contents ordered = sorted_insert nat_cmp_total incarnation (r ∷ rows) contents ordered

-- they may before or after all those changes
pub all_apart : (n : ℕ) (cs : List RowChange) (contents : AllContents) → AllByRecursion (IsApart n) cs → AreOrdered contents → all_changed cs (without_rows n contents) ≡ without_rows n (all_changed cs contents)
all_apart n [] contents apart ordered = refl
all_apart n (c ∷ cs) contents apart ordered =
    ap (all_changed cs) (one_apart n c contents apart.0 ordered)
    ∙ all_apart n cs (one_changed c contents) apart.1 (ordered_with c.incarnation (put_row c.key c.mutations (rows_of c.incarnation contents)) contents ordered)
