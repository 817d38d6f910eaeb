-- What is known of each cell of each row tells what is known of all tables.
use Rattle.std.proofs.Common.{◌≡◌, ◌<◌, ℕ, Bool, true, false, List, [], ◌∷◌, ◌++◌, Option, Some, None, cond, length, refl, sym, ap, ◌∙◌, arith}
use Rattle.std.specs.Prelude.{◌&&◌, IfSome, All, unwrap_or}
use Rattle.std.specs.List.{AllByRecursion}
use Rattle.std.specs.List.Sorted.{IsStrictlySortedBy}
use Rattle.std.specs.Ordering.{nat_cmp}
use Rattle.std.specs.declared.cmp.Ordering.TheVariants.{Less}
use Rattle.std.specs.Cmp.Lexicographic.{slice_cmp}
use Rattle.std.specs.Map.{keys_of, lookup, values_of}
use Rattle.std.specs.BTreeMap.{is_at}
use Rattle.std.proofs.lemmas.Cmp.{nat_cmp_total, nat_list_cmp_total}
use Rattle.std.proofs.lemmas.List.Elements.{All-head, All-tail}
use Rattle.std.proofs.lemmas.Map.Lookups.{exact_bytes, exact_unsigned}
use Rattle.std.proofs.lemmas.Map.Views.{All-map-remove_entry, All-values-insert_entry, IfSome-lookup_from_All}
use Rattle.bt_types.specs.declared.cell.Cell.{Cell}
use Rattle.bt_types.specs.declared.mutation.Mutation.{Mutation}
use Rattle.bt_types.specs.Cells.{AreOrdered, IsRow, cell_cmp}
use Rattle.bt_types.specs.Mutations.{applied, mutated}
use Rattle.bt_row.specs.declared.cell_key.CellKey.{CellKey}
use Rattle.bt_row.specs.declared.plan.Ending.TheVariants.{CarryOut, TakeBack}
use Rattle.bt_row.specs.declared.plan.Plan.{Plan}
use Rattle.bt_row.specs.declared.row.Row.{Row}
use Rattle.bt_row.specs.Sound.{IsSound}
use Rattle.bt_all_contents.specs.declared.row_change.RowChange.{RowChange}
use Rattle.bt_all_contents.specs.AllContents.{AllContents, AreAllLawful, AreNewRows, ArePlans, AreTables, CanSettleAll, RowAt, all_changed, all_placed, all_settled, at_cmp, cells_there, is_wanted_by, is_wanted_there, mutations_at, new_at, one_changed, plan_at, placed_or, planned_or, row_or, rows_of, settled_or}
use Rattle.bt_contents.specs.Contents.{AreFilled, Contents, IsTable, put_row, row_at, with_entry}
use Rattle.bt_row.specs.Keys.{AreSorted, Keyed, cells_of, key_cmp, key_of, keyed}
use Rattle.bt_row.specs.Plans.{AreLawful, CanSettle, IsPlan, is_new_at, placed, value_at, values_after}
use Rattle.bt_all_contents.proofs.AllRows.{both_equal, is_equal}
use Rattle.bt_contents.proofs.Lists.{at_with, filled_with, same_lists, sorted_with}
use Rattle.bt_row.proofs.Laws.{applied_values}
use Rattle.bt_row.proofs.Plans.{first_value, has_places, planned_placed, taken_back}

-- ---- a row by the keys of its cells

cells_keyed : (cs : List Cell) → All (λ (c : Cell). c.label ≡ None) cs → cells_of (keyed cs) ≡ cs
cells_keyed [] plain = refl
cells_keyed (c ∷ cs) plain =
    let bare : c.label ≡ None = All-head (λ (c : Cell). c.label ≡ None) c cs plain in
    let rest = cells_keyed cs (All-tail (λ (c : Cell). c.label ≡ None) c cs plain) in
    λ i. record { family = c.family; qualifier = c.qualifier; at = c.at; value = c.value; label = sym bare i } ∷ rest i

keys_later : (c : Cell) (cs : List Cell) → All (λ d. cell_cmp c d ≡ Less) cs → AllByRecursion (λ q. key_cmp (key_of c) q ≡ Less) (keys_of (keyed cs))
keys_later c [] later = tt
keys_later c (d ∷ ds) later = (All-head (λ d. cell_cmp c d ≡ Less) d ds later, keys_later c ds (All-tail (λ d. cell_cmp c d ≡ Less) d ds later))

sorted_keyed : (cs : List Cell) → AreOrdered cs → AreSorted (keyed cs)
unfolding IsStrictlySortedBy
sorted_keyed [] ordered = tt
sorted_keyed (c ∷ cs) ordered = (keys_later c cs ordered.0, sorted_keyed cs ordered.1)

no_cells : IsRow []
no_cells = record { ordered = tt; unlabelled = λ k d lt. absurd (omega (arith, lt)) }

-- each row of the tables is a row
row_there : (all : AllContents) (a : RowAt) → AreTables all → IsRow (row_at a.1 (rows_of a.0 all))
row_there all a tables = of (lookup (is_at (nat_cmp a.0)) all) (IfSome-lookup_from_All (λ rows. IsTable rows × (0 < length rows)) (is_at (nat_cmp a.0)) all tables.each)
  where
    in_table : (o : Option (List Cell)) → IfSome o IsRow → IsRow (unwrap_or o [])
    in_table None held = no_cells
    in_table (Some cs) held = held

    of : (o : Option Contents) → IfSome o (λ rows. IsTable rows × (0 < length rows)) → IsRow (row_at a.1 (unwrap_or o []))
    of None held = no_cells
    of (Some rows) held = in_table (lookup (is_at (slice_cmp nat_cmp a.1)) rows) (IfSome-lookup_from_All IsRow (is_at (slice_cmp nat_cmp a.1)) rows held.0.ordered)

-- a row with the values that mutations leave is what they leave
pub row_left : (old new : AllContents) (a : RowAt) (ms : List Mutation) → AreTables old → AreTables new → ((k : CellKey) → value_at (cells_there new a) k ≡ values_after ms (value_at (cells_there old a)) k)
    → row_at a.1 (rows_of a.0 new) ≡ applied ms (row_at a.1 (rows_of a.0 old))
row_left old new a ms tables also leaves =
    let was = row_there old a tables in
    let is = row_there new a also in
    sym (cells_keyed (row_at a.1 (rows_of a.0 new)) is.unlabelled)
    ∙ applied_values ms (cells_there old a) (cells_there new a) (sorted_keyed (row_at a.1 (rows_of a.0 old)) was.ordered) (sorted_keyed (row_at a.1 (rows_of a.0 new)) is.ordered) leaves
    ∙ ap (applied ms) (cells_keyed (row_at a.1 (rows_of a.0 old)) was.unlabelled)

-- ---- tables in order

-- a table's rows are in order, and there are some, each with cells
abbrev IsInOrder : Contents → Type 0
IsInOrder rows = IsStrictlySortedBy (slice_cmp nat_cmp) (keys_of rows) × AreFilled rows × (0 < length rows)

record AreInOrder (all : AllContents) : Type 0 where
  sorted : IsStrictlySortedBy nat_cmp (keys_of all)
  each : All IsInOrder (values_of all)

in_order : (all : AllContents) → AreTables all → AreInOrder all
in_order all tables = record { sorted = tables.sorted; each = λ k d lt. let table = tables.each k d lt in (table.0.sorted, table.0.filled, table.1) }

-- the rows of a table are in order, also where it is not there
rows_in_order : (all : AllContents) (i : ℕ) → AreInOrder all → IsStrictlySortedBy (slice_cmp nat_cmp) (keys_of (rows_of i all)) × AreFilled (rows_of i all)
unfolding IsStrictlySortedBy
rows_in_order all i order = by (lookup (is_at (nat_cmp i)) all) (IfSome-lookup_from_All IsInOrder (is_at (nat_cmp i)) all order.each)
  where
    by : (o : Option Contents) → IfSome o IsInOrder → IsStrictlySortedBy (slice_cmp nat_cmp) (keys_of (unwrap_or o [])) × AreFilled (unwrap_or o [])
    by None held = (tt, λ k d lt. absurd (omega (arith, lt)))
    by (Some rows) held = (held.0, held.1)

-- tables with the same rows are the same
same_tables : (all other : AllContents) → AreInOrder all → AreInOrder other → ((a : RowAt) → row_at a.1 (rows_of a.0 all) ≡ row_at a.1 (rows_of a.0 other)) → all ≡ other
same_tables all other order also same = same_lists nat_cmp_total exact_unsigned all other order.sorted also.sorted (λ k d lt. (order.each k d lt).2) (λ k d lt. (also.each k d lt).2) (λ i.
    let here = rows_in_order all i order in
    let there = rows_in_order other i also in
    same_lists nat_list_cmp_total exact_bytes (rows_of i all) (rows_of i other) here.0 there.0 here.1 there.1 (λ k. same (i, k)))

module _ (c : RowChange) (all : AllContents) (order : AreInOrder all) where
  abbrev changed : Contents
  changed = put_row c.key c.mutations (rows_of c.incarnation all)

  abbrev cells : List Cell
  cells = applied c.mutations (row_at c.key (rows_of c.incarnation all))

  -- tables are in order after a change
  order_changed : AreInOrder (one_changed c all)
  order_changed = record { sorted = sorted_with nat_cmp_total c.incarnation changed all order.sorted; each = by changed sorted filled }
    where
      rows : IsStrictlySortedBy (slice_cmp nat_cmp) (keys_of (rows_of c.incarnation all)) × AreFilled (rows_of c.incarnation all)
      rows = rows_in_order all c.incarnation order

      sorted : IsStrictlySortedBy (slice_cmp nat_cmp) (keys_of changed)
      sorted = sorted_with nat_list_cmp_total c.key cells (rows_of c.incarnation all) rows.0

      filled : AreFilled changed
      filled = filled_with nat_list_cmp_total c.key cells (rows_of c.incarnation all) rows.1

      by : (rows : Contents) → IsStrictlySortedBy (slice_cmp nat_cmp) (keys_of rows) → AreFilled rows → All IsInOrder (values_of (with_entry nat_cmp c.incarnation rows all))
      by [] sorted filled = All-map-remove_entry (is_at (nat_cmp c.incarnation)) (λ e. e.1) IsInOrder all order.each
      by (r ∷ rs) sorted filled = All-values-insert_entry nat_cmp c.incarnation (r ∷ rs) IsInOrder all order.each (sorted, filled, omega arith)

  -- it changes its row
  row_changed : (a : RowAt) → row_at a.1 (rows_of a.0 (one_changed c all)) ≡ applied (cond (is_at (at_cmp a) (c.incarnation, c.key)) c.mutations []) (row_at a.1 (rows_of a.0 all))
  row_changed a = ap (row_at a.1) (at_with nat_cmp_total exact_unsigned c.incarnation a.0 changed all order.sorted) ∙ by (is_at (nat_cmp a.0) c.incarnation) refl
    where
      both : is_at (at_cmp a) (c.incarnation, c.key) ≡ (is_at (nat_cmp a.0) c.incarnation && is_at (slice_cmp nat_cmp a.1) c.key)
      both = both_equal (nat_cmp a.0 c.incarnation) (slice_cmp nat_cmp a.1 c.key)

      in_table : (s : Bool) → is_at (slice_cmp nat_cmp a.1) c.key ≡ s → is_at (nat_cmp a.0) c.incarnation ≡ true → cond s cells (row_at a.1 (rows_of c.incarnation all)) ≡ applied (cond s c.mutations []) (row_at a.1 (rows_of a.0 all))
      in_table true same_key same_table = ap (λ k. applied c.mutations (row_at k (rows_of c.incarnation all))) (sym (exact_bytes a.1 c.key (is_equal (slice_cmp nat_cmp a.1 c.key) same_key)))
          ∙ ap (λ i. applied c.mutations (row_at a.1 (rows_of i all))) (sym (exact_unsigned a.0 c.incarnation (is_equal (nat_cmp a.0 c.incarnation) same_table)))
      in_table false other same_table = ap (λ i. row_at a.1 (rows_of i all)) (sym (exact_unsigned a.0 c.incarnation (is_equal (nat_cmp a.0 c.incarnation) same_table)))

      by : (t : Bool) → is_at (nat_cmp a.0) c.incarnation ≡ t → row_at a.1 (cond t changed (rows_of a.0 all)) ≡ applied (cond (is_at (at_cmp a) (c.incarnation, c.key)) c.mutations []) (row_at a.1 (rows_of a.0 all))
      by true same = rw (both, same) (
          at_with nat_list_cmp_total exact_bytes c.key a.1 cells (rows_of c.incarnation all) (rows_in_order all c.incarnation order).0 ∙ in_table (is_at (slice_cmp nat_cmp a.1) c.key) refl same)
      by false other = rw (both, other) refl

applied_append : (ms ns : List Mutation) (cs : List Cell) → applied (ms ++ ns) cs ≡ applied ns (applied ms cs)
applied_append [] ns cs = refl
applied_append (m ∷ ms) ns cs = applied_append ms ns (mutated m cs)

-- changes leave tables in order, and of each row what its mutations leave
changes_order : (cs : List RowChange) (all : AllContents) → AreInOrder all → AreInOrder (all_changed cs all)
changes_order [] all order = order
changes_order (c ∷ cs) all order = changes_order cs (one_changed c all) (order_changed c all order)

rows_changed : (cs : List RowChange) (all : AllContents) → AreInOrder all → (a : RowAt) → row_at a.1 (rows_of a.0 (all_changed cs all)) ≡ applied (mutations_at cs a) (row_at a.1 (rows_of a.0 all))
rows_changed [] all order a = refl
rows_changed (c ∷ cs) all order a =
    rows_changed cs (one_changed c all) (order_changed c all order) a ∙ ap (applied (mutations_at cs a)) (row_changed c all order a)
    ∙ sym (applied_append (cond (is_at (at_cmp a) (c.incarnation, c.key)) c.mutations []) (mutations_at cs a) (row_at a.1 (rows_of a.0 all)))

-- tables whose cells are what changes leave at each key are what they leave
pub changes_left : (cs : List RowChange) (old new : AllContents) → AreTables old → AreTables new → ((a : RowAt) (k : CellKey) → value_at (cells_there new a) k ≡ values_after (mutations_at cs a) (value_at (cells_there old a)) k) → new ≡ all_changed cs old
changes_left cs old new tables also leaves = same_tables new (all_changed cs old) (in_order new also) (changes_order cs old (in_order old tables)) (λ a. row_left old new a (mutations_at cs a) tables also (leaves a) ∙ sym (rows_changed cs old (in_order old tables) a))

-- ---- plans of all rows, and new rows

-- entries that have nothing at any key are none
nothing_there : (es : Keyed) → ((k : CellKey) → value_at es k ≡ None) → es ≡ []
nothing_there [] none = refl
nothing_there (e ∷ es) none = absurd (cc (sym (first_value e es) ∙ none e.0))

module _ (plans : List (RowAt × Plan)) (rows : List (RowAt × Row)) (old : AllContents) (are : ArePlans plans old) (new_rows : AreNewRows rows old) where
  -- what is there once the new rows are in
  abbrev pub after_rows : RowAt → Keyed
  after_rows a = row_or (new_at rows a) (cells_there old a)

  -- where there is a plan no row is new
  pub not_both : (a : RowAt) (p : Plan) → plan_at plans a ≡ Some p → new_at rows a ≡ None
  not_both a p is = by (new_at rows a) (new_rows a) (rw is at (are a))
    where
      by : (o : Option Row) → IfSome o (λ r. IsSound r.cells.entries × (cells_there old a ≡ [])) → IsPlan p (cells_there old a) × (0 < length (cells_there old a)) → o ≡ None
      by None is there = refl
      by (Some r) is there = absurd (omega (arith, (rw is.1 at there.1)))

  pub still_plans : (a : RowAt) → IfSome (plan_at plans a) (λ p. IsPlan p (after_rows a))
  still_plans a = by (plan_at plans a) refl (are a)
    where
      by : (o : Option Plan) → plan_at plans a ≡ o → IfSome o (λ p. IsPlan p (cells_there old a) × (0 < length (cells_there old a))) → IfSome o (λ p. IsPlan p (after_rows a))
      by None is held = tt
      by (Some p) is held = rw (not_both a p is) held.0

  module _ (mid : AllContents) (places : (a : RowAt) (k : CellKey) → value_at (cells_there mid a) k ≡ all_placed plans old a k) where
    -- rows that are new are not there yet
    pub new_still : AreNewRows rows mid
    new_still a = by (new_at rows a) refl (new_rows a)
      where
        bare : cells_there old a ≡ [] → (o : Option Plan) → plan_at plans a ≡ o → IfSome o (λ p. IsPlan p (cells_there old a) × (0 < length (cells_there old a))) → cells_there mid a ≡ []
        bare absent None is held = nothing_there (cells_there mid a) (λ k. places a k ∙ rw (is, absent) refl)
        bare absent (Some p) is held = absurd (omega (arith, (rw absent at held.1)))

        by : (o : Option Row) → new_at rows a ≡ o → IfSome o (λ r. IsSound r.cells.entries × (cells_there old a ≡ [])) → IfSome o (λ r. IsSound r.cells.entries × (cells_there mid a ≡ []))
        by None is held = tt
        by (Some r) is held = (held.0, bare held.1 (plan_at plans a) refl (are a))

    -- the rows have their places, and the new ones are in
    pub places_with_rows : (new : AllContents) → ((a : RowAt) → cells_there new a ≡ row_or (new_at rows a) (cells_there mid a)) → (a : RowAt) (k : CellKey) → value_at (cells_there new a) k ≡ placed_or (plan_at plans a) (after_rows a) k
    places_with_rows new put a k = ap (λ (es : Keyed). value_at es k) (put a) ∙ by (plan_at plans a) refl
      where
        no_plan : (o : Option Row) → plan_at plans a ≡ None → value_at (row_or o (cells_there mid a)) k ≡ value_at (row_or o (cells_there old a)) k
        no_plan None is = places a k ∙ rw is refl
        no_plan (Some r) is = refl

        by : (o : Option Plan) → plan_at plans a ≡ o → value_at (row_or (new_at rows a) (cells_there mid a)) k ≡ placed_or o (after_rows a) k
        by None is = no_plan (new_at rows a) is
        by (Some p) is = rw (not_both a p is) (places a k ∙ rw is refl)

module _ (plans : List (RowAt × Plan)) (was : RowAt → Keyed) (mid : AllContents) (are : (a : RowAt) → IfSome (plan_at plans a) (λ p. IsPlan p (was a))) where
  pub all_lawful : AreAllLawful plans
  all_lawful a = by (plan_at plans a) (are a)
    where
      by : (o : Option Plan) → IfSome o (λ p. IsPlan p (was a)) → IfSome o (λ p. AreLawful p.outcomes.entries)
      by None is = tt
      by (Some p) is = is.lawful

  pub can_take_back : CanSettleAll TakeBack plans mid
  can_take_back a = by (plan_at plans a)
    where
      by : (o : Option Plan) → IfSome o (λ p. CanSettle TakeBack p (cells_there mid a))
      by None = tt
      by (Some p) = tt

  module _ (places : (a : RowAt) (k : CellKey) → value_at (cells_there mid a) k ≡ placed_or (plan_at plans a) (was a) k) where
    pub can_carry_out : CanSettleAll CarryOut plans mid
    can_carry_out a = by (plan_at plans a) (are a) (places a)
      where
        by : (o : Option Plan) → IfSome o (λ p. IsPlan p (was a)) → ((k : CellKey) → value_at (cells_there mid a) k ≡ placed_or o (was a) k) → IfSome o (λ p. CanSettle CarryOut p (cells_there mid a))
        by None is placed = tt
        by (Some p) is placed = has_places p (was a) (cells_there mid a) placed is.fresh

    -- carried out, the plans leave what was planned
    pub carried_out : (a : RowAt) (k : CellKey) → all_settled CarryOut plans mid a k ≡ planned_or (plan_at plans a) (was a) k
    carried_out a k = by (plan_at plans a) (places a)
      where
        by : (o : Option Plan) → ((k : CellKey) → value_at (cells_there mid a) k ≡ placed_or o (was a) k) → settled_or CarryOut o (cells_there mid a) k ≡ planned_or o (was a) k
        by None placed = placed k
        by (Some p) placed = planned_placed p (was a) (cells_there mid a) placed k

  -- taken back, they leave what was there
  pub all_taken_back : ((a : RowAt) (k : CellKey) → is_wanted_there plans a k ≡ false → value_at (cells_there mid a) k ≡ value_at (was a) k) → (a : RowAt) (k : CellKey) → all_settled TakeBack plans mid a k ≡ value_at (was a) k
  all_taken_back others a k = by (plan_at plans a) (are a) (others a)
    where
      by : (o : Option Plan) → IfSome o (λ p. IsPlan p (was a)) → ((k : CellKey) → is_wanted_by o k ≡ false → value_at (cells_there mid a) k ≡ value_at (was a) k) → settled_or TakeBack o (cells_there mid a) k ≡ value_at (was a) k
      by None is stays = stays k refl
      by (Some p) is stays = taken_back p.outcomes.entries (value_at (was a)) (value_at (cells_there mid a)) is.fresh stays (λ q. cond (is_new_at p.outcomes.entries q) None (value_at (cells_there mid a) q)) (λ q. refl) k

-- plans for rows that are there are plans for them
pub plans_there : (plans : List (RowAt × Plan)) (all : AllContents) → ArePlans plans all → (a : RowAt) → IfSome (plan_at plans a) (λ p. IsPlan p (cells_there all a))
plans_there plans all are a = by (plan_at plans a) (are a)
  where
    by : (o : Option Plan) → IfSome o (λ p. IsPlan p (cells_there all a) × (0 < length (cells_there all a))) → IfSome o (λ p. IsPlan p (cells_there all a))
    by None is = tt
    by (Some p) is = is.0
