-- The rows of all tables, after an entry that may come.
use Rattle.std.proofs.Common.{◌≡◌, ◌+◌, ◌==◌, ℕ, Bool, true, false, List, [], Option, Some, None, cond, refl, sym, ap, ◌∙◌, subst, arith, if◌then◌else◌, eqb-true}
use Rattle.std.specs.Prelude.{option_map}
use Rattle.std.specs.List.{list_all}
use Rattle.std.specs.Ordering.{nat_cmp}
use Rattle.std.specs.BTreeMap.{is_at}
use Rattle.std.proofs.lemmas.Cmp.{nat_cmp_total}
use Rattle.std.proofs.lemmas.Map.Lookups.{exact_unsigned}
use Rattle.bt_types.specs.declared.mutation.Mutation.{Mutation}
use Rattle.bt_rules.specs.declared.family.Family.{Family}
use Rattle.bt_entry.specs.declared.entry.Entry.{Entry}
use Rattle.bt_entry.specs.declared.entry.Entry.TheVariants.{Row, Create, Delete, Alter, Stream, Floor}
use Rattle.bt_entry.specs.declared.table_info.TableInfo.{TableInfo}
use Rattle.bt_entry.specs.Grammar.{IsSpellableEntry}
use Rattle.bt_schema.specs.declared.refusal.SchemaRefusal.TheVariants.{NotFound}
use Rattle.bt_schema.specs.Schema.{Schema, change_refusal, changed_at, is_of_family, mutations_refusal, new_table, schema_after, table_at, with_families, with_retention, without}
use Rattle.bt_contents.specs.Contents.{AreFilled, Contents, put_row}
use Rattle.bt_contents.proofs.Lists.{at_with, filled_with}
use Rattle.bt_all_contents.specs.AllContents.{AllContents, rows_of, with_rows, without_rows}
use Rattle.bt_state.specs.State.{AreMade, AreOrdered, Present, contents_after, families_of, keep_used, keeps_rows}
use Rattle.bt_state.proofs.Made.{none_past}
use Rattle.bt_laws.specs.States.{AreRowsOf}
use Rattle.bt_laws.proofs.StatesRows.{no_rows, rows_kept, rows_put}
use Rattle.bt_laws.proofs.StatesSchema.{at_changed, at_found, at_insert, at_without, changed, is_free}

same_of : (n m : ℕ) → is_at (nat_cmp n) m ≡ true → n ≡ m
same_of n m is = grind arith

other_of : (n m : ℕ) → is_at (nat_cmp n) m ≡ false → (m == n) ≡ false
other_of n m is = grind arith

-- an incarnation that no table has has no rows
abbrev pub AreOwned : Schema → AllContents → Type 0
AreOwned ts contents = (n : ℕ) → table_at n ts ≡ None → rows_of n contents ≡ []

-- the rows of each incarnation are rows of its table
abbrev pub AreOfTables : Schema → AllContents → Type 0
AreOfTables ts contents = (n : ℕ) → AreRowsOf (families_of (table_at n ts)) (rows_of n contents)

-- no incarnation is there without a row
pub filled_after : (e : Entry) (contents : AllContents) → AreFilled contents → AreFilled (contents_after e contents)
filled_after (Row incarnation key by_rule mutations) contents filled = filled_with nat_cmp_total incarnation (put_row key mutations (rows_of incarnation contents)) contents filled
filled_after (Create name families retention) contents filled = filled
filled_after (Delete incarnation) contents filled = filled_with nat_cmp_total incarnation [] contents filled
filled_after (Alter incarnation families) contents filled = filled
filled_after (Stream incarnation retention) contents filled = filled
filled_after Floor contents filled = filled

module _ (ts : Schema) (contents : AllContents) (ordered : AreOrdered contents) (owned : AreOwned ts contents) (rows : AreOfTables ts contents) where
  -- ---- a row

  module _ (incarnation : ℕ) (key : List ℕ) (ms : List Mutation) (by_rule : Bool) (is : IsSpellableEntry (Row incarnation key by_rule ms)) (allowed : mutations_refusal ms (table_at incarnation ts) ≡ None) where
    abbrev new : Contents
    new = put_row key ms (rows_of incarnation contents)

    at_row : (n : ℕ) → rows_of n (with_rows incarnation new contents) ≡ cond (is_at (nat_cmp n) incarnation) new (rows_of n contents)
    at_row n = at_with nat_cmp_total exact_unsigned incarnation n new contents ordered

    all_of : (b : Bool) → (if b then None else Some NotFound) ≡ None → b ≡ true
    all_of true none = refl
    all_of false none = cc none

    put_in : (o : Option TableInfo) (rs : Contents) → mutations_refusal ms o ≡ None → AreRowsOf (families_of o) rs → AreRowsOf (families_of o) (put_row key ms rs)
    put_in None rs none all = absurd (cc none)
    put_in (Some t) rs none all = rows_put t key ms rs is.1 is.2.2 (all_of (list_all (is_of_family t) ms) none) all

    rows_by : (n : ℕ) (b : Bool) → is_at (nat_cmp n) incarnation ≡ b → AreRowsOf (families_of (table_at n ts)) (cond b new (rows_of n contents))
    rows_by n true same = subst (λ m. AreRowsOf (families_of (table_at m ts)) new) (sym (same_of n incarnation same)) (put_in (table_at incarnation ts) (rows_of incarnation contents) allowed (rows incarnation))
    rows_by n false other = rows n

    rows_row : AreOfTables ts (with_rows incarnation new contents)
    rows_row n = subst (λ rs. AreRowsOf (families_of (table_at n ts)) rs) (sym (at_row n)) (rows_by n (is_at (nat_cmp n) incarnation) refl)

    owned_by : (n : ℕ) (b : Bool) → is_at (nat_cmp n) incarnation ≡ b → table_at n ts ≡ None → cond b new (rows_of n contents) ≡ []
    owned_by n true same none =
        let absent : table_at incarnation ts ≡ None = ap (λ m. table_at m ts) (sym (same_of n incarnation same)) ∙ none in
        absurd (cc (rw absent at allowed))
    owned_by n false other none = owned n none

    owned_row : AreOwned ts (with_rows incarnation new contents)
    owned_row n none = at_row n ∙ owned_by n (is_at (nat_cmp n) incarnation) refl none

  -- ---- a new table

  module _ (last moment : ℕ) (made : AreMade last ts) (name : List ℕ) (families : List Family) (retention : ℕ) (allowed : change_refusal (Create name families retention) ts ≡ None) where
    abbrev with_table : Schema
    with_table = schema_after (last + 1) moment (Create name families retention) ts

    -- no table had its incarnation
    none_had : (n : ℕ) → (last + 1 == n) ≡ true → rows_of n contents ≡ []
    none_had n is = let same : last + 1 ≡ n = eqb-true (last + 1) n is in owned n (none_past last n (omega (arith, same)) ts made)

    as_before : (n : ℕ) → (last + 1 == n) ≡ false → table_at n with_table ≡ table_at n ts
    as_before n other = at_insert n name (new_table (last + 1) moment name families retention) other ts (is_free name families retention ts allowed)

    created_by : (n : ℕ) (b : Bool) → (last + 1 == n) ≡ b → AreRowsOf (families_of (table_at n with_table)) (rows_of n contents)
    created_by n true is = subst (λ rs. AreRowsOf (families_of (table_at n with_table)) rs) (sym (none_had n is)) (no_rows (families_of (table_at n with_table)))
    created_by n false other = subst (λ o. AreRowsOf (families_of o) (rows_of n contents)) (sym (as_before n other)) (rows n)

    rows_created : AreOfTables with_table contents
    rows_created n = created_by n (last + 1 == n) refl

    free_by : (n : ℕ) (b : Bool) → (last + 1 == n) ≡ b → table_at n with_table ≡ None → rows_of n contents ≡ []
    free_by n true is none = none_had n is
    free_by n false other none = owned n (sym (as_before n other) ∙ none)

    owned_created : AreOwned with_table contents
    owned_created n none = free_by n (last + 1 == n) refl none

  -- ---- a table that goes

  module _ (incarnation : ℕ) where
    at_gone : (n : ℕ) → rows_of n (without_rows incarnation contents) ≡ cond (is_at (nat_cmp n) incarnation) [] (rows_of n contents)
    at_gone n = at_with nat_cmp_total exact_unsigned incarnation n [] contents ordered

    gone_by : (n : ℕ) (b : Bool) → is_at (nat_cmp n) incarnation ≡ b → AreRowsOf (families_of (table_at n (without incarnation ts))) (cond b [] (rows_of n contents))
    gone_by n true same = no_rows (families_of (table_at n (without incarnation ts)))
    gone_by n false other = subst (λ o. AreRowsOf (families_of o) (rows_of n contents)) (sym (at_without n incarnation ts (other_of n incarnation other))) (rows n)

    rows_gone : AreOfTables (without incarnation ts) (without_rows incarnation contents)
    rows_gone n = subst (λ rs. AreRowsOf (families_of (table_at n (without incarnation ts))) rs) (sym (at_gone n)) (gone_by n (is_at (nat_cmp n) incarnation) refl)

    none_by : (n : ℕ) (b : Bool) → is_at (nat_cmp n) incarnation ≡ b → table_at n (without incarnation ts) ≡ None → cond b [] (rows_of n contents) ≡ []
    none_by n true same none = refl
    none_by n false other none = owned n (sym (at_without n incarnation ts (other_of n incarnation other)) ∙ none)

    owned_gone : AreOwned (without incarnation ts) (without_rows incarnation contents)
    owned_gone n none = at_gone n ∙ none_by n (is_at (nat_cmp n) incarnation) refl none

    -- ---- a table that changes

    module _ (change : TableInfo → TableInfo) (keeps : (t : TableInfo) → (change t).incarnation ≡ t.incarnation) where
      none_of : (o : Option TableInfo) (f : TableInfo → TableInfo) → option_map f o ≡ None → o ≡ None
      none_of None f none = refl
      none_of (Some t) f none = cc none

      owned_changed : AreOwned (changed_at incarnation change ts) contents
      owned_changed n none = owned n (none_of (table_at n ts) (changed n incarnation change keeps) (sym (at_changed n incarnation change keeps ts) ∙ none))

      module _ (fits : (n : ℕ) (t : TableInfo) → table_at n ts ≡ Some t → t.incarnation ≡ incarnation → AreRowsOf t.families (rows_of n contents) → AreRowsOf (change t).families (rows_of n contents)) where
        table_by : (n : ℕ) (t : TableInfo) (b : Bool) → (t.incarnation == incarnation) ≡ b → table_at n ts ≡ Some t → AreRowsOf t.families (rows_of n contents) → AreRowsOf (if b then change t else t).families (rows_of n contents)
        table_by n t true is found all = fits n t found (eqb-true t.incarnation incarnation is) all
        table_by n t false is found all = all

        changed_by : (n : ℕ) (o : Option TableInfo) → table_at n ts ≡ o → AreRowsOf (families_of o) (rows_of n contents) → AreRowsOf (families_of (option_map (changed n incarnation change keeps) o)) (rows_of n contents)
        changed_by n None is all = all
        changed_by n (Some t) is all = table_by n t (t.incarnation == incarnation) refl is all

        rows_changed : AreOfTables (changed_at incarnation change ts) contents
        rows_changed n = subst (λ o. AreRowsOf (families_of o) (rows_of n contents)) (sym (at_changed n incarnation change keeps ts)) (changed_by n (table_at n ts) refl (rows n))

    module _ (families : List Family) (keeps : keep_used families (families_of (table_at incarnation ts)) (rows_of incarnation contents) ≡ true) where
      fits_altered : (n : ℕ) (t : TableInfo) → table_at n ts ≡ Some t → t.incarnation ≡ incarnation → AreRowsOf t.families (rows_of n contents) → AreRowsOf families (rows_of n contents)
      fits_altered n t found its all =
          let here : incarnation ≡ n = sym its ∙ at_found n ts t found in
          let still : keep_used families (families_of (table_at n ts)) (rows_of n contents) ≡ true = subst (λ m. keep_used families (families_of (table_at m ts)) (rows_of m contents) ≡ true) here keeps in
          rows_kept t.families families (rows_of n contents) (subst (λ o. keep_used families (families_of o) (rows_of n contents) ≡ true) found still) all

-- ---- each entry

module _ (p : Present) (made : AreMade p.last p.schema) (ordered : AreOrdered p.contents) (owned : AreOwned p.schema p.contents) where
  pub owned_after : (e : Entry) (moment : ℕ) → change_refusal e p.schema ≡ None → AreOfTables p.schema p.contents → IsSpellableEntry e → AreOwned (schema_after (p.last + 1) moment e p.schema) (contents_after e p.contents)
  owned_after (Row incarnation key by_rule mutations) moment allowed rows is = owned_row p.schema p.contents ordered owned rows incarnation key mutations by_rule is allowed
  owned_after (Create name families retention) moment allowed rows is = owned_created p.schema p.contents ordered owned rows p.last moment made name families retention allowed
  owned_after (Delete incarnation) moment allowed rows is = owned_gone p.schema p.contents ordered owned rows incarnation
  owned_after (Alter incarnation families) moment allowed rows is = owned_changed p.schema p.contents ordered owned rows incarnation (with_families families) (λ t. refl)
  owned_after (Stream incarnation retention) moment allowed rows is = owned_changed p.schema p.contents ordered owned rows incarnation (with_retention (p.last + 1) moment retention) (λ t. refl)
  owned_after Floor moment allowed rows is = owned

  pub rows_after : (e : Entry) (moment : ℕ) → change_refusal e p.schema ≡ None → keeps_rows e p ≡ true → IsSpellableEntry e → AreOfTables p.schema p.contents → AreOfTables (schema_after (p.last + 1) moment e p.schema) (contents_after e p.contents)
  rows_after (Row incarnation key by_rule mutations) moment allowed keeps is rows = rows_row p.schema p.contents ordered owned rows incarnation key mutations by_rule is allowed
  rows_after (Create name families retention) moment allowed keeps is rows = rows_created p.schema p.contents ordered owned rows p.last moment made name families retention allowed
  rows_after (Delete incarnation) moment allowed keeps is rows = rows_gone p.schema p.contents ordered owned rows incarnation
  rows_after (Alter incarnation families) moment allowed keeps is rows =
      rows_changed p.schema p.contents ordered owned rows incarnation (with_families families) (λ t. refl) (fits_altered p.schema p.contents ordered owned rows incarnation families keeps)
  rows_after (Stream incarnation retention) moment allowed keeps is rows =
      rows_changed p.schema p.contents ordered owned rows incarnation (with_retention (p.last + 1) moment retention) (λ t. refl) (λ n t found its all. all)
  rows_after Floor moment allowed keeps is rows = rows
