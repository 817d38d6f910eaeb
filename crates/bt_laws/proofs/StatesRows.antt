-- The rows of a table stay rows of the table.
use Rattle.std.proofs.Common.{◌≡◌, ◌<◌, ℕ, Bool, true, false, ◌||◌, List, [], ◌∷◌, length, Some, None, cond, not, refl, subst}
use Rattle.std.specs.Prelude.{IsTrue, bytes_eq, unwrap_or}
use Rattle.std.specs.List.{AllByRecursion, list_all, list_any}
use Rattle.std.specs.List.Sorted.{IsStrictlySortedBy}
use Rattle.std.specs.Ordering.{nat_cmp, match_ordering}
use Rattle.std.specs.declared.cmp.Ordering.{Ordering}
use Rattle.std.specs.declared.cmp.Ordering.TheVariants.{Less, Equal, Greater}
use Rattle.std.specs.Cmp.Lexicographic.{slice_cmp}
use Rattle.std.specs.Map.{lookup, remove_entry}
use Rattle.std.specs.BTreeMap.{insert_entry}
use Rattle.std.proofs.lemmas.Bool.{and_parts, or_left, or_right}
use Rattle.std.proofs.lemmas.Cmp.{nat_list_cmp_total}
use Rattle.std.proofs.lemmas.List.Elements.{All-nil}
use Rattle.std.proofs.lemmas.Slice.Eq.{bytes_eq-Decides}
use Rattle.bt_types.specs.declared.cell.Cell.{Cell}
use Rattle.bt_types.specs.declared.mutation.Mutation.{Mutation}
use Rattle.bt_types.specs.Cells.{IsRow}
use Rattle.bt_types.specs.Grammar.{is_row_key}
use Rattle.bt_types.specs.Mutations.{applied}
use Rattle.bt_rules.specs.declared.family.Family.{Family}
use Rattle.bt_entry.specs.declared.table_info.TableInfo.{TableInfo}
use Rattle.bt_entry.specs.Grammar.{IsSpellableMutation}
use Rattle.bt_schema.specs.Schema.{is_family_of, is_of_family}
use Rattle.bt_contents.specs.Contents.{Contents, is_used, key_is, put_row, row_at, with_row}
use Rattle.bt_contents.proofs.Lists.{filled_with, sorted_with}
use Rattle.bt_state.specs.State.{keep_used}
use Rattle.bt_laws.specs.States.{AreRowsOf, IsCellOf}
use Rattle.bt_laws.specs.Tables.{HasLawfulNames, IsLawfulRow}
use Rattle.bt_laws.proofs.StatesCells.{all_applied, row_applied, set_cells, set_names}
use Rattle.bt_laws.proofs.StatesHistory.{weaker}

-- ---- one row is put or goes

module _ (P : List ℕ × List Cell → Type 0) where
  module _ (test : List ℕ → Bool) where
    gone_by : (r : List ℕ × List Cell) (rs : Contents) (b : Bool) → P r → AllByRecursion P rs → AllByRecursion P (remove_entry test rs) → AllByRecursion P (cond b rs (r ∷ remove_entry test rs))
    gone_by r rs true here all rest = all
    gone_by r rs false here all rest = (here, rest)

    each_gone : (rs : Contents) → AllByRecursion P rs → AllByRecursion P (remove_entry test rs)
    each_gone [] all = tt
    each_gone (r ∷ rs) all = gone_by r rs (test r.0) all.0 all.1 (each_gone rs all.1)

  module _ (k : List ℕ) (cs : List Cell) (new : P (k, cs)) (over : (l : List ℕ) (ds : List Cell) → P (l, ds) → P (l, cs)) where
    put_by : (r : List ℕ × List Cell) (rs : Contents) (o : Ordering) → AllByRecursion P (r ∷ rs) → AllByRecursion P (insert_entry (slice_cmp nat_cmp) rs k cs)
        → AllByRecursion P (match_ordering o ((k, cs) ∷ r ∷ rs) ((r.0, cs) ∷ rs) (r ∷ insert_entry (slice_cmp nat_cmp) rs k cs))
    put_by r rs Less all rest = (new, all)
    put_by r rs Equal all rest = (over r.0 r.1 all.0, all.1)
    put_by r rs Greater all rest = (all.0, rest)

    each_put : (rs : Contents) → AllByRecursion P rs → AllByRecursion P (insert_entry (slice_cmp nat_cmp) rs k cs)
    each_put [] all = (new, tt)
    each_put (r ∷ rs) all = put_by r rs (slice_cmp nat_cmp k r.0) all (each_put rs all.1)

each_with : (P : List ℕ × List Cell → Type 0) (k : List ℕ) (cs : List Cell) (rs : Contents) → P (k, cs) → ((l : List ℕ) (ds : List Cell) → P (l, ds) → P (l, cs)) → AllByRecursion P rs → AllByRecursion P (with_row k cs rs)
each_with P k [] rs new over all = each_gone P (key_is k) rs all
each_with P k (c ∷ cs) rs new over all = each_put P k (c ∷ cs) new over rs all

module _ (P : List ℕ × List Cell → Type 0) (Q : List Cell → Type 0) (gives : (r : List ℕ × List Cell) → P r → Q r.1) (none : Q []) (k : List ℕ) where
  at_by : (r : List ℕ × List Cell) (rs : Contents) (b : Bool) → P r → Q (row_at k rs) → Q (unwrap_or (cond b (Some r.1) (lookup (key_is k) rs)) [])
  at_by r rs true here rest = gives r here
  at_by r rs false here rest = rest

  -- what holds of each row holds of the row at a key
  at_row : (rs : Contents) → AllByRecursion P rs → Q (row_at k rs)
  at_row [] all = none
  at_row (r ∷ rs) all = at_by r rs (key_is k r.0) all.0 (at_row rs all.1)

none_sorted : IsStrictlySortedBy (slice_cmp nat_cmp) []
unfolding IsStrictlySortedBy
none_sorted = tt

-- no rows are rows of each table
pub no_rows : (families : List Family) → AreRowsOf families []
no_rows families = record { lawful = record { sorted = none_sorted; each = tt }; filled = All-nil (λ (cs : List Cell). 0 < length cs); cells = tt }

bare_row : IsRow []
bare_row = record { ordered = tt; unlabelled = All-nil (λ (c : Cell). c.label ≡ None) }

-- mutations of a row that may come
pub rows_put : (t : TableInfo) (key : List ℕ) (ms : List Mutation) (rows : Contents) → IsTrue (is_row_key key) → AllByRecursion IsSpellableMutation ms → list_all (is_of_family t) ms ≡ true
    → AreRowsOf t.families rows → AreRowsOf t.families (put_row key ms rows)
rows_put t key ms rows lawful_key spellable of is =
    let cs : List Cell = applied ms (row_at key rows) in
    let row : IsRow cs = row_applied ms (row_at key rows) (at_row IsLawfulRow IsRow (λ r row. row.cells) bare_row key rows is.lawful.each) in
    let names : AllByRecursion HasLawfulNames cs =
    all_applied HasLawfulNames ms (row_at key rows) (set_names ms spellable) (at_row IsLawfulRow (λ ds. AllByRecursion HasLawfulNames ds) (λ r row. row.named) tt key rows is.lawful.each) in
    let cells : AllByRecursion (IsCellOf t.families) cs =
    all_applied (IsCellOf t.families) ms (row_at key rows) (set_cells t ms spellable of)
    (at_row (λ r. AllByRecursion (IsCellOf t.families) r.1) (λ ds. AllByRecursion (IsCellOf t.families) ds) (λ r all. all) tt key rows is.cells) in
    record {
      lawful = record {
        sorted = sorted_with nat_list_cmp_total key cs rows is.lawful.sorted;
        each = each_with IsLawfulRow key cs rows (record { key = lawful_key; cells = row; named = names }) (λ l ds other. record { key = other.key; cells = row; named = names }) is.lawful.each;
      };
      filled = filled_with nat_list_cmp_total key cs rows is.filled;
      cells = each_with (λ r. AllByRecursion (IsCellOf t.families) r.1) key cs rows cells (λ l ds other. cells) is.cells;
    }

-- ---- families that are kept

module _ (kept : List Family) (name : List ℕ) (rows : Contents) (used : is_used name rows ≡ true) where
  has_by : (f : Family) (b : Bool) → bytes_eq f.name name ≡ b → (is_family_of kept f.name || not (is_used f.name rows)) ≡ true → b ≡ true → is_family_of kept name ≡ true
  has_by f true is keeps same =
      let here : f.name ≡ name = (bytes_eq-Decides f.name name).0 is in
      still (is_family_of kept name) (subst (λ n. (is_family_of kept n || not (is_used n rows)) ≡ true) here keeps)
    where
      still : (b : Bool) → (b || not (is_used name rows)) ≡ true → b ≡ true
      still true e = refl
      still false e = cc (used, e)
  has_by f false is keeps same = cc same

  kept_by : (f : Family) (fs : List Family) (b : Bool) → bytes_eq f.name name ≡ b → (b || is_family_of fs name) ≡ true → (is_family_of kept f.name || not (is_used f.name rows)) ≡ true
      → (is_family_of fs name ≡ true → is_family_of kept name ≡ true) → is_family_of kept name ≡ true
  kept_by f fs true is of keeps rest = has_by f true is keeps refl
  kept_by f fs false is of keeps rest = rest of

  -- a family that has a cell stays one of the table's
  still_of : (fs : List Family) → keep_used kept fs rows ≡ true → is_family_of fs name ≡ true → is_family_of kept name ≡ true
  still_of [] keeps of = cc of
  still_of (f ∷ fs) keeps of =
      let parts = and_parts (is_family_of kept f.name || not (is_used f.name rows)) (keep_used kept fs rows) keeps in
      kept_by f fs (bytes_eq f.name name) refl of parts.0 (still_of fs parts.1)

abbrev has_cell : List ℕ → List Cell → Bool
has_cell name cs = list_any (λ c. bytes_eq c.family name) cs

-- each cell is found by its family
own_cells : (cs : List Cell) → AllByRecursion (λ c. has_cell c.family cs ≡ true) cs
own_cells [] = tt
own_cells (c ∷ cs) = (
  or_left (bytes_eq c.family c.family) (has_cell c.family cs) ((bytes_eq-Decides c.family c.family).1 refl),
  weaker (λ d. has_cell d.family cs ≡ true) (λ d. has_cell d.family (c ∷ cs) ≡ true) (λ d has. or_right (bytes_eq c.family d.family) (has_cell d.family cs) has) cs (own_cells cs),
)

own_rows : (rs : Contents) → AllByRecursion (λ r. AllByRecursion (λ c. is_used c.family rs ≡ true) r.1) rs
own_rows [] = tt
own_rows (r ∷ rs) = (
  weaker (λ c. has_cell c.family r.1 ≡ true) (λ c. is_used c.family (r ∷ rs) ≡ true) (λ c has. or_left (has_cell c.family r.1) (is_used c.family rs) has) r.1 (own_cells r.1),
  weaker (λ q. AllByRecursion (λ c. is_used c.family rs ≡ true) q.1) (λ q. AllByRecursion (λ c. is_used c.family (r ∷ rs) ≡ true) q.1)
      (λ q. weaker (λ c. is_used c.family rs ≡ true) (λ c. is_used c.family (r ∷ rs) ≡ true) (λ c has. or_right (has_cell c.family r.1) (is_used c.family rs) has) q.1) rs (own_rows rs),
)

module _ (families kept : List Family) (rows : Contents) (keeps : keep_used kept families rows ≡ true) where
  cells_kept : (cs : List Cell) → AllByRecursion (λ c. is_used c.family rows ≡ true) cs → AllByRecursion (IsCellOf families) cs → AllByRecursion (IsCellOf kept) cs
  cells_kept [] used all = tt
  cells_kept (c ∷ cs) used all = (record { family = still_of kept c.family rows used.0 families keeps all.0.family; short = all.0.short }, cells_kept cs used.1 all.1)

  each_kept : (rs : Contents) → AllByRecursion (λ r. AllByRecursion (λ c. is_used c.family rows ≡ true) r.1) rs → AllByRecursion (λ r. AllByRecursion (IsCellOf families) r.1) rs
      → AllByRecursion (λ r. AllByRecursion (IsCellOf kept) r.1) rs
  each_kept [] used all = tt
  each_kept (r ∷ rs) used all = (cells_kept r.1 used.0 all.0, each_kept rs used.1 all.1)

  -- where families that rows use are kept, the rows stay rows of the table
  pub rows_kept : AreRowsOf families rows → AreRowsOf kept rows
  rows_kept is = record { lawful = is.lawful; filled = is.filled; cells = each_kept rows (own_rows rows) is.cells }
