-- Rows of several tables, and what becomes of each while plans are made and ended.
use Rattle.std.proofs.Common.{◌≡◌, ◌<◌, ℕ, Bool, true, false, List, [], ◌∷◌, ◌++◌, Option, Some, None, cond, length, refl, sym, ap, ◌∙◌, subst, arith}
use Rattle.std.specs.Prelude.{◌&&◌, ◌||◌, IfSome, is_some, unwrap_or}
use Rattle.std.specs.List.{IsAmong, list_any}
use Rattle.std.specs.Ordering.{nat_cmp, is_eq, ordering_then}
use Rattle.std.specs.declared.cmp.Ordering.{Ordering}
use Rattle.std.specs.declared.cmp.Ordering.TheVariants.{Less, Equal, Greater}
use Rattle.std.specs.Cmp.{IsTotalOrder}
use Rattle.std.specs.Cmp.Lexicographic.{slice_cmp}
use Rattle.std.specs.List.Sorted.{IsStrictlySortedBy}
use Rattle.std.specs.Map.{keys_of, lookup, remove_entry, set_value, values_of}
use Rattle.std.specs.BTreeMap.{insert_entry, is_at}
use Rattle.std.proofs.lemmas.Cmp.{eq_by_cmp_equiv, nat_cmp_total, nat_list_cmp_total, on_total, then_total, tied_itself}
use Rattle.std.proofs.lemmas.Map.{keys-set_value, lookup-none, lookup-set_value}
use Rattle.std.proofs.lemmas.Map.Entries.{lookup_head, none_past_head}
use Rattle.std.proofs.lemmas.Map.Keys.{IsDistinct-from_sorted}
use Rattle.std.proofs.lemmas.Map.Lookups.{exact_bytes, exact_unsigned}
use Rattle.std.proofs.lemmas.Map.Made.{is_some-lookup}
use Rattle.std.proofs.lemmas.Map.Views.{All-map-remove_entry, All-values-insert_entry, All-values-set_value, IfSome-lookup_from_All}
use Rattle.bt_types.specs.declared.cell.Cell.{Cell}
use Rattle.bt_types.specs.declared.mutation.Mutation.{Mutation}
use Rattle.bt_row.specs.declared.cell_key.CellKey.{CellKey}
use Rattle.bt_row.specs.declared.plan.Ending.{Ending}
use Rattle.bt_row.specs.declared.plan.Plan.{Plan}
use Rattle.bt_row.specs.declared.row.Row.{Row}
use Rattle.bt_all_contents.specs.declared.row_change.RowChange.{RowChange}
use Rattle.bt_all_contents.specs.AllContents.{AllContents, AreNewRows, ArePlans, AreTables, RowAt, all_placed, all_planned, all_settled, at_cmp, cells_there, is_wanted_by, is_wanted_there, new_at, plan_at, placed_or, planned_or, row_or, rows_of, settled_or}
use Rattle.bt_contents.specs.Contents.{Contents, IsTable, keyed_at, row_at, with_entry, with_row}
use Rattle.bt_row.specs.Sound.{IsSound}
use Rattle.bt_row.specs.Keys.{Keyed, cells_of, keyed}
use Rattle.bt_row.specs.Plans.{IsPlan, Values, is_wanted_at, placed, settled, value_after, value_at, values_after}
use Rattle.bt_row.proofs.Entries.{sorted_put, sorted_removed}
use Rattle.bt_contents.proofs.Lists.{at_with}
use Rattle.bt_contents.proofs.Rows.{keyed_cells}
use Rattle.bt_row.proofs.Plans.{same_values}

-- ---- where rows are

at_total : IsTotalOrder at_cmp
at_total = then_total (on_total (λ (a : RowAt). a.0) nat_cmp_total) (on_total (λ (a : RowAt). a.1) nat_list_cmp_total)

pub is_equal : (r : Ordering) → is_eq r ≡ true → r ≡ Equal
is_equal Less e = cc e
is_equal Equal e = refl
is_equal Greater e = cc e

pub both_equal : (r s : Ordering) → is_eq (ordering_then r s) ≡ (is_eq r && is_eq s)
both_equal Less s = refl
both_equal Equal s = refl
both_equal Greater s = refl

two_true : (s t : Bool) → (s && t) ≡ true → (s ≡ true) × (t ≡ true)
two_true true t e = (refl, e)
two_true false t e = cc e

-- places that are found are the same
pub same_at : (a b : RowAt) → is_at (at_cmp a) b ≡ true → a ≡ b
same_at a b same =
    let two = two_true (is_eq (nat_cmp a.0 b.0)) (is_eq (slice_cmp nat_cmp a.1 b.1)) (sym (both_equal (nat_cmp a.0 b.0) (slice_cmp nat_cmp a.1 b.1)) ∙ same) in
    let tables = exact_unsigned a.0 b.0 (is_equal (nat_cmp a.0 b.0) two.0) in
    let keys = exact_bytes a.1 b.1 (is_equal (slice_cmp nat_cmp a.1 b.1) two.1) in
    λ i. (tables i, keys i)

at_turned : (a b : RowAt) → is_at (at_cmp a) b ≡ is_at (at_cmp b) a
at_turned a b = (eq_by_cmp_equiv at_total).symm a b

-- ---- one row changes

-- the rows of a table are in the order of their keys
pub rows_sorted : (all : AllContents) (i : ℕ) → AreTables all → IsStrictlySortedBy (slice_cmp nat_cmp) (keys_of (rows_of i all))
unfolding IsStrictlySortedBy
rows_sorted all i tables = by (lookup (is_at (nat_cmp i)) all) (IfSome-lookup_from_All (λ rows. IsTable rows × (0 < length rows)) (is_at (nat_cmp i)) all tables.each)
  where
    by : (o : Option Contents) → IfSome o (λ rows. IsTable rows × (0 < length rows)) → IsStrictlySortedBy (slice_cmp nat_cmp) (keys_of (unwrap_or o []))
    by None held = tt
    by (Some rows) held = held.0.sorted

module _ (i : ℕ) (key : List ℕ) (rows : Contents) (old new : AllContents) (sorted : IsStrictlySortedBy nat_cmp (keys_of old)) (sorted_rows : IsStrictlySortedBy (slice_cmp nat_cmp) (keys_of (rows_of i old))) (changed : new ≡ with_entry nat_cmp i rows old) where
  rows_there : (j : ℕ) → rows_of j new ≡ cond (is_at (nat_cmp j) i) rows (rows_of j old)
  rows_there j = ap (rows_of j) changed ∙ at_with nat_cmp_total exact_unsigned i j rows old sorted

  -- the table has these rows now
  pub rows_here : rows_of i new ≡ rows
  rows_here = rows_there i ∙ rw (ap is_eq (tied_itself nat_cmp_total i)) refl

  -- the other rows stay
  pub elsewhere : (cs : List Cell) → rows ≡ with_row key cs (rows_of i old) → (a : RowAt) → is_at (at_cmp a) (i, key) ≡ false → cells_there new a ≡ cells_there old a
  elsewhere cs is a apart = ap (keyed_at a.1) (rows_there a.0) ∙ by (is_at (nat_cmp a.0) i) refl
    where
      in_table : (s : Bool) → is_at (slice_cmp nat_cmp a.1) key ≡ s → is_at (nat_cmp a.0) i ≡ true → keyed_at a.1 rows ≡ keyed_at a.1 (rows_of a.0 old)
      in_table true same_key same_table = let both : is_at (at_cmp a) (i, key) ≡ true = both_equal (nat_cmp a.0 i) (slice_cmp nat_cmp a.1 key) ∙ rw (same_table, same_key) refl in cc
      in_table false other_key same_table =
          let kept : row_at a.1 (with_row key cs (rows_of i old)) ≡ row_at a.1 (rows_of i old) = at_with nat_list_cmp_total exact_bytes key a.1 cs (rows_of i old) sorted_rows ∙ rw other_key refl in
          ap (keyed_at a.1) is ∙ ap keyed kept
          ∙ ap (λ j. keyed_at a.1 (rows_of j old)) (sym (exact_unsigned a.0 i (is_equal (nat_cmp a.0 i) same_table)))

      by : (t : Bool) → is_at (nat_cmp a.0) i ≡ t → keyed_at a.1 (cond t rows (rows_of a.0 old)) ≡ keyed_at a.1 (rows_of a.0 old)
      by true same = in_table (is_at (slice_cmp nat_cmp a.1) key) refl same
      by false other = refl

  -- the row has these values now
  pub here : (es : Keyed) → rows ≡ with_row key (cells_of es) (rows_of i old) → cells_there new (i, key) ≡ es
  here es is =
      ap (keyed_at key) rows_here ∙ ap (keyed_at key) is ∙ ap keyed (at_with nat_list_cmp_total exact_bytes key key (cells_of es) (rows_of i old) sorted_rows ∙ rw (ap is_eq (tied_itself nat_list_cmp_total key)) refl)
      ∙ keyed_cells es

  -- the row is gone, and the others stay
  pub one_gone : rows ≡ with_row key [] (rows_of i old) → (a : RowAt) → cells_there new a ≡ cond (is_at (at_cmp a) (i, key)) [] (cells_there old a)
  one_gone is a = by (is_at (at_cmp a) (i, key)) refl
    where
      by : (t : Bool) → is_at (at_cmp a) (i, key) ≡ t → cells_there new a ≡ cond t [] (cells_there old a)
      by true same = ap (cells_there new) (same_at a (i, key) same) ∙ here [] is
      by false other = elsewhere [] is a other

pub tables_over : (i : ℕ) (rows : Contents) (all : AllContents) → AreTables all → IsTable rows → 0 < length rows → AreTables (set_value (is_at (nat_cmp i)) all rows)
tables_over i rows all tables table filled = record {
  sorted = rw (keys-set_value (is_at (nat_cmp i)) all rows) tables.sorted;
  each = All-values-set_value (is_at (nat_cmp i)) (λ rows. IsTable rows × (0 < length rows)) all rows tables.each (table, filled);
}

pub tables_new : (i : ℕ) (rows : Contents) (all : AllContents) → AreTables all → IsTable rows → 0 < length rows → AreTables (insert_entry nat_cmp all i rows)
tables_new i rows all tables table filled = record {
  sorted = sorted_put nat_cmp_total i rows all tables.sorted;
  each = All-values-insert_entry nat_cmp i rows (λ rows. IsTable rows × (0 < length rows)) all tables.each (table, filled);
}

pub tables_without : (i : ℕ) (all : AllContents) → AreTables all → AreTables (remove_entry (is_at (nat_cmp i)) all)
tables_without i all tables = record {
  sorted = sorted_removed nat_cmp (is_at (nat_cmp i)) all tables.sorted;
  each = All-map-remove_entry (is_at (nat_cmp i)) (λ e. e.1) (λ rows. IsTable rows × (0 < length rows)) all tables.each;
}

-- the rows of a table that was found
pub found_table : (all : AllContents) (rows : Contents) → AreTables all → IsAmong (values_of all) rows → IsTable rows × (0 < length rows)
found_table all rows tables among = subst (λ rows. IsTable rows × (0 < length rows)) (sym among.1.1) (tables.each among.0 rows among.1.0)

-- ---- one plan after another

module _ {X : Type 0} (e : RowAt × X) (rest : List (RowAt × X)) (sorted : IsStrictlySortedBy at_cmp (keys_of (e ∷ rest))) where
  pub gone_past : (a : RowAt) → is_at (at_cmp a) e.0 ≡ true → lookup (is_at (at_cmp a)) rest ≡ None
  gone_past a same = lookup-none (is_at (at_cmp a)) rest (none_past_head (eq_by_cmp_equiv at_total) a e rest (IsDistinct-from_sorted at_cmp (keys_of (e ∷ rest)) sorted) same)

  pub first_there : lookup (is_at (at_cmp e.0)) (e ∷ rest) ≡ Some e.1
  first_there = lookup_head (is_at (at_cmp e.0)) e rest (ap is_eq (tied_itself at_total e.0))

  -- what holds of each entry holds of the first
  pub holds_first : (Q : RowAt → X → Type 0) → ((a : RowAt) → IfSome (lookup (is_at (at_cmp a)) (e ∷ rest)) (Q a)) → Q e.0 e.1
  holds_first Q all = rw first_there at (all e.0)

  -- and of the others, also where it is changed elsewhere
  pub holds_later : (P Q : RowAt → X → Type 0) → ((a : RowAt) (x : X) → is_at (at_cmp a) e.0 ≡ false → P a x → Q a x) → ((a : RowAt) → IfSome (lookup (is_at (at_cmp a)) (e ∷ rest)) (P a)) → (a : RowAt) → IfSome (lookup (is_at (at_cmp a)) rest) (Q a)
  holds_later P Q goes_on all a = by (is_at (at_cmp a) e.0) refl (all a)
    where
      later : (o : Option X) → is_at (at_cmp a) e.0 ≡ false → IfSome o (P a) → IfSome o (Q a)
      later None other holds = tt
      later (Some x) other holds = goes_on a x other holds

      by : (t : Bool) → is_at (at_cmp a) e.0 ≡ t → IfSome (cond t (Some e.1) (lookup (is_at (at_cmp a)) rest)) (P a) → IfSome (lookup (is_at (at_cmp a)) rest) (Q a)
      by true same holds = rw (gone_past a same) tt
      by false other holds = later (lookup (is_at (at_cmp a)) rest) other holds

module _ (e : RowAt × Plan) (rest : List (RowAt × Plan)) (sorted : IsStrictlySortedBy at_cmp (keys_of (e ∷ rest))) where
  module _ (old new : AllContents) (apart : (a : RowAt) → is_at (at_cmp a) e.0 ≡ false → cells_there new a ≡ cells_there old a) where
    -- the first plan has ended
    pub settled_one : (ending : Ending) → ((k : CellKey) → value_at (cells_there new e.0) k ≡ settled ending e.1 (cells_there old e.0) k) → (a : RowAt) (k : CellKey) → all_settled ending rest new a k ≡ all_settled ending (e ∷ rest) old a k
    settled_one ending values a k = by (is_at (at_cmp a) e.0) refl
      where
        by : (t : Bool) → is_at (at_cmp a) e.0 ≡ t → settled_or ending (plan_at rest a) (cells_there new a) k ≡ settled_or ending (cond t (Some e.1) (plan_at rest a)) (cells_there old a) k
        by true same = rw (gone_past e rest sorted a same) (rw (same_at a e.0 same) (values k))
        by false other = rw (apart a other) refl

    -- the first plan has its places
    pub placed_one : ((k : CellKey) → value_at (cells_there new e.0) k ≡ placed e.1.outcomes.entries (value_at (cells_there old e.0)) k) → (a : RowAt) (k : CellKey) → all_placed rest new a k ≡ all_placed (e ∷ rest) old a k
    placed_one values a k = by (is_at (at_cmp a) e.0) refl
      where
        by : (t : Bool) → is_at (at_cmp a) e.0 ≡ t → placed_or (plan_at rest a) (cells_there new a) k ≡ placed_or (cond t (Some e.1) (plan_at rest a)) (cells_there old a) k
        by true same = rw (gone_past e rest sorted a same) (rw (same_at a e.0 same) (values k))
        by false other = rw (apart a other) refl

    -- a cell that no plan wants keeps its value
    pub unwanted_kept : (all : List (RowAt × Plan)) (first : AllContents) → plan_at all e.0 ≡ Some e.1 → ((k : CellKey) → value_at (cells_there new e.0) k ≡ placed e.1.outcomes.entries (value_at (cells_there old e.0)) k)
        → ((a : RowAt) (k : CellKey) → is_wanted_there all a k ≡ false → value_at (cells_there old a) k ≡ value_at (cells_there first a) k) → (a : RowAt) (k : CellKey) → is_wanted_there all a k ≡ false → value_at (cells_there new a) k ≡ value_at (cells_there first a) k
    unwanted_kept all first agrees values kept a k unwanted = by (is_at (at_cmp a) e.0) refl
      where
        here : is_at (at_cmp a) e.0 ≡ true → value_at (cells_there new a) k ≡ value_at (cells_there old a) k
        here same =
            let there = same_at a e.0 same in
            let not_wanted : is_wanted_at e.1.outcomes.entries k ≡ false = ap (λ o. is_wanted_by o k) (sym agrees) ∙ ap (λ (b : RowAt). is_wanted_there all b k) (sym there) ∙ unwanted in
            rw there (values k ∙ rw not_wanted refl)

        by : (t : Bool) → is_at (at_cmp a) e.0 ≡ t → value_at (cells_there new a) k ≡ value_at (cells_there first a) k
        by true same = here same ∙ kept a k unwanted
        by false other = ap (λ (es : Keyed). value_at es k) (apart a other) ∙ kept a k unwanted

-- plans agree with themselves
pub agree_first : (plans : List (RowAt × Plan)) (a : RowAt) → IfSome (plan_at plans a) (λ p. plan_at plans a ≡ Some p)
agree_first plans a = by (plan_at plans a) refl
  where
    by : (o : Option Plan) → plan_at plans a ≡ o → IfSome o (λ p. plan_at plans a ≡ Some p)
    by None is = tt
    by (Some p) is = is

-- ---- plans of changes

-- one list of mutations after another
values_append : (ms ns : List Mutation) (f : Values) (k : CellKey) → values_after (ms ++ ns) f k ≡ values_after ns (values_after ms f) k
values_append [] ns f k = refl
values_append (m ∷ ms) ns f k = values_append ms ns (value_after m f) k

-- where the row is there, none is new
no_new : (rows : List (RowAt × Row)) (all : AllContents) (a : RowAt) → AreNewRows rows all → 0 < length (cells_there all a) → new_at rows a ≡ None
no_new rows all a new there = by (new_at rows a) (new a)
  where
    by : (o : Option Row) → IfSome o (λ r. IsSound r.cells.entries × (cells_there all a ≡ [])) → o ≡ None
    by None is = refl
    by (Some r) is = absurd (omega (arith, (rw is.1 at there)))

-- where it is not there, it has no plan
no_plan : (plans : List (RowAt × Plan)) (all : AllContents) (a : RowAt) → ArePlans plans all → cells_there all a ≡ [] → plan_at plans a ≡ None
no_plan plans all a are absent = by (plan_at plans a) (are a)
  where
    by : (o : Option Plan) → IfSome o (λ p. IsPlan p (cells_there all a) × (0 < length (cells_there all a))) → o ≡ None
    by None is = refl
    by (Some p) is = absurd (omega (arith, (rw absent at is.1)))

-- a plan that was put in is one for its row
module _ (at : RowAt) (es : Keyed) (olds news : List (RowAt × Plan)) (rows : List (RowAt × Row)) (all : AllContents) (there : cells_there all at ≡ es) (filled : 0 < length es) (others : (a : RowAt) → is_at (at_cmp a) at ≡ false → plan_at news a ≡ plan_at olds a) where
  pub plans_put : ArePlans olds all → IfSome (plan_at news at) (λ p. IsPlan p es) → ArePlans news all
  plans_put plans is a = by (is_at (at_cmp a) at) refl
    where
      both : (o : Option Plan) → IfSome o (λ p. IsPlan p es) → IfSome o (λ p. IsPlan p es × (0 < length es))
      both None held = tt
      both (Some p) held = (held, filled)

      by : (t : Bool) → is_at (at_cmp a) at ≡ t → IfSome (plan_at news a) (λ p. IsPlan p (cells_there all a) × (0 < length (cells_there all a)))
      by true same = rw (same_at a at same, there) (both (plan_at news at) is)
      by false other = rw (others a other) (plans a)

  -- what is planned then
  pub plan_added : (ms : List Mutation) → AreNewRows rows all → ((k : CellKey) → planned_or (plan_at news at) es k ≡ values_after ms (planned_or (plan_at olds at) es) k) → (a : RowAt) (k : CellKey)
      → all_planned news rows all a k ≡ values_after (cond (is_at (at_cmp a) at) ms []) (all_planned olds rows all a) k
  plan_added ms new leaves a k = by (is_at (at_cmp a) at) refl
    where
      none : new_at rows at ≡ None
      none = no_new rows all at new (rw there filled)

      by : (t : Bool) → is_at (at_cmp a) at ≡ t → planned_or (plan_at news a) (row_or (new_at rows a) (cells_there all a)) k ≡ values_after (cond t ms []) (λ q. planned_or (plan_at olds a) (row_or (new_at rows a) (cells_there all a)) q) k
      by true same = rw (same_at a at same, none, there) (leaves k)
      by false other = rw (others a other) refl

-- a new row is sound, and not there
module _ (at : RowAt) (olds news : List (RowAt × Row)) (plans : List (RowAt × Plan)) (all : AllContents) (absent : cells_there all at ≡ []) (others : (a : RowAt) → is_at (at_cmp a) at ≡ false → new_at news a ≡ new_at olds a) where
  pub rows_put : AreNewRows olds all → IfSome (new_at news at) (λ r. IsSound r.cells.entries) → AreNewRows news all
  rows_put rows is a = by (is_at (at_cmp a) at) refl
    where
      both : (o : Option Row) → IfSome o (λ r. IsSound r.cells.entries) → IfSome o (λ r. IsSound r.cells.entries × (cells_there all at ≡ []))
      both None held = tt
      both (Some r) held = (held, absent)

      by : (t : Bool) → is_at (at_cmp a) at ≡ t → IfSome (new_at news a) (λ r. IsSound r.cells.entries × (cells_there all a ≡ []))
      by true same = rw (same_at a at same) (both (new_at news at) is)
      by false other = rw (others a other) (rows a)

  -- what it is planned to have
  pub row_added : (ms : List Mutation) → ArePlans plans all → ((k : CellKey) → value_at (row_or (new_at news at) []) k ≡ values_after ms (value_at (row_or (new_at olds at) [])) k) → (a : RowAt) (k : CellKey)
      → all_planned plans news all a k ≡ values_after (cond (is_at (at_cmp a) at) ms []) (all_planned plans olds all a) k
  row_added ms are leaves a k = by (is_at (at_cmp a) at) refl
    where
      none : plan_at plans at ≡ None
      none = no_plan plans all at are absent

      by : (t : Bool) → is_at (at_cmp a) at ≡ t → planned_or (plan_at plans a) (row_or (new_at news a) (cells_there all a)) k ≡ values_after (cond t ms []) (λ q. planned_or (plan_at plans a) (row_or (new_at olds a) (cells_there all a)) q) k
      by true same = rw (same_at a at same, none, absent) (leaves k)
      by false other = rw (others a other) refl

-- an entry that was written over another
pub written_over : {X : Type 0} (at : RowAt) (x : X) (es : List (RowAt × X)) (old : X) → lookup (is_at (at_cmp at)) es ≡ Some old → (a : RowAt) → lookup (is_at (at_cmp a)) (set_value (is_at (at_cmp at)) es x) ≡ cond (is_at (at_cmp at) a) (Some x) (lookup (is_at (at_cmp a)) es)
written_over at x es old found a = lookup-set_value (eq_by_cmp_equiv at_total) (is_at (at_cmp at)) (λ y z same. (eq_by_cmp_equiv at_total).congr at y z same) a x es (rw found refl)

-- the entry that was put, and the others
module _ {X : Type 0} (at : RowAt) (x : X) (olds news : List (RowAt × X)) (put : (a : RowAt) → lookup (is_at (at_cmp a)) news ≡ cond (is_at (at_cmp at) a) (Some x) (lookup (is_at (at_cmp a)) olds)) where
  pub put_here : lookup (is_at (at_cmp at)) news ≡ Some x
  put_here = put at ∙ rw (ap is_eq (tied_itself at_total at)) refl

  pub put_apart : (a : RowAt) → is_at (at_cmp a) at ≡ false → lookup (is_at (at_cmp a)) news ≡ lookup (is_at (at_cmp a)) olds
  put_apart a other = put a ∙ rw (at_turned at a, other) refl

-- a further change is planned
pub change_planned : (c : RowChange) (ms : RowAt → List Mutation) (olds news : RowAt → Values)
    → ((a : RowAt) (k : CellKey) → news a k ≡ values_after (cond (is_at (at_cmp a) (c.incarnation, c.key)) c.mutations []) (olds a) k)
    → (a : RowAt) (k : CellKey) → values_after (ms a) (news a) k ≡ values_after (cond (is_at (at_cmp a) (c.incarnation, c.key)) c.mutations [] ++ ms a) (olds a) k
change_planned c ms olds news one a k =
    let here = cond (is_at (at_cmp a) (c.incarnation, c.key)) c.mutations [] in
    same_values (ms a) (news a) (values_after here (olds a)) k (one a k) ∙ sym (values_append here (ms a) (olds a) k)

-- ---- new rows, one after another

module _ (e : RowAt × Row) (rest : List (RowAt × Row)) (sorted : IsStrictlySortedBy at_cmp (keys_of (e ∷ rest))) (old new : AllContents) (apart : (a : RowAt) → is_at (at_cmp a) e.0 ≡ false → cells_there new a ≡ cells_there old a) where
  -- a row that is none of them is not the first, and none of the others
  pub not_first : (a : RowAt) → new_at (e ∷ rest) a ≡ None → is_at (at_cmp a) e.0 ≡ false
  not_first a none = by (is_at (at_cmp a) e.0) none
    where
      by : (t : Bool) → cond t (Some e.1) (new_at rest a) ≡ None → t ≡ false
      by true none = absurd (cc none)
      by false none = refl

  pub none_later : (a : RowAt) → new_at (e ∷ rest) a ≡ None → new_at rest a ≡ None
  none_later a none = rw (not_first a none) at none

  -- it stays as it is
  pub other_stays : (a : RowAt) → new_at (e ∷ rest) a ≡ None → cells_there new a ≡ cells_there old a
  other_stays a none = apart a (not_first a none)

  -- the others are not there yet
  pub rows_later : AreNewRows (e ∷ rest) old → AreNewRows rest new
  rows_later rows = holds_later {X = Row} e rest sorted (λ a r. IsSound r.cells.entries × (cells_there old a ≡ [])) (λ a r. IsSound r.cells.entries × (cells_there new a ≡ [])) (λ a r other held. (held.0, apart a other ∙ held.1)) rows

  -- the first is there now
  pub row_put : cells_there new e.0 ≡ e.1.cells.entries → (a : RowAt) → row_or (new_at rest a) (cells_there new a) ≡ row_or (new_at (e ∷ rest) a) (cells_there old a)
  row_put is a = by (is_at (at_cmp a) e.0) refl
    where
      by : (t : Bool) → is_at (at_cmp a) e.0 ≡ t → row_or (new_at rest a) (cells_there new a) ≡ row_or (cond t (Some e.1) (new_at rest a)) (cells_there old a)
      by true same = rw (gone_past e rest sorted a same) (ap (cells_there new) (same_at a e.0 same) ∙ is)
      by false other = rw (apart a other) refl

-- one row is taken out after another
pub taken_two : (s t : Bool) (es : Keyed) → cond t [] (cond s [] es) ≡ cond (s || t) [] es
taken_two true true es = refl
taken_two true false es = refl
taken_two false t es = refl

-- where the new rows are taken out, all is as it was
pub rows_taken : (rows : List (RowAt × Row)) (places : List RowAt) (old mid new : AllContents) → AreNewRows rows old → places ≡ keys_of rows → ((a : RowAt) → new_at rows a ≡ None → cells_there mid a ≡ cells_there old a)
    → ((a : RowAt) → cells_there new a ≡ cond (list_any (is_at (at_cmp a)) places) [] (cells_there mid a)) → (a : RowAt) → cells_there new a ≡ cells_there old a
rows_taken rows places old mid new are is others taken a =
    taken a ∙ ap (λ ps. cond (list_any (is_at (at_cmp a)) ps) [] (cells_there mid a)) is ∙ ap (λ t. cond t [] (cells_there mid a)) (sym (is_some-lookup (is_at (at_cmp a)) rows)) ∙ by (new_at rows a) (are a) (others a)
  where
    by : (o : Option Row) → IfSome o (λ r. IsSound r.cells.entries × (cells_there old a ≡ [])) → (o ≡ None → cells_there mid a ≡ cells_there old a) → cond (is_some o) [] (cells_there mid a) ≡ cells_there old a
    by None held stays = stays refl
    by (Some r) held stays = sym held.1
