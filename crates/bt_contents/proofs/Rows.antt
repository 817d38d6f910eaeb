-- The rows of a table as they are held, and as they are seen.
use Rattle.std.specs.Prelude.{All, IsTrue, ◌↔◌}
use Rattle.std.proofs.Common.{◌≡◌, ◌<◌, ℕ, Bor, Bool, true, false, List, [], ◌∷◌, Option, Some, None, cond, length, refl, sym, ap, ◌∙◌, arith, subst}
use Rattle.std.specs.Prelude.{bytes_eq, IfNone, IfSome, IsSome, filter, unwrap_or, option_map}
use Rattle.std.specs.Ordering.{is_eq, nat_cmp}
use Rattle.std.specs.Cmp.Lexicographic.{slice_cmp}
use Rattle.std.specs.List.{IsAmong, list_any}
use Rattle.std.specs.List.Sorted.{IsStrictlySortedBy}
use Rattle.std.specs.Map.{keys_of, lookup, remove_entry, set_value, values_of}
use Rattle.std.specs.Option.{option_copied}
use Rattle.std.specs.BTreeMap.{insert_entry}
use Rattle.std.proofs.lemmas.Cmp.{nat_list_cmp_total, tied_itself}
use Rattle.std.proofs.lemmas.Map.Lookups.{exact_bytes}
use Rattle.std.proofs.lemmas.List.Elements.{All-cons, All-head, All-tail}
use Rattle.std.proofs.lemmas.Map.Made.{keys_of-map_values, lookup-map_values}
use Rattle.std.proofs.lemmas.Map.Steps.{set_value_same}
use Rattle.std.proofs.lemmas.Map.Views.{All-map-remove_entry, All-values-insert_entry, All-values-set_value}
use Rattle.bt_types.specs.declared.cell.Cell.{Cell}
use Rattle.bt_types.specs.Cells.{IsRow}
use Rattle.bt_row.specs.declared.row.Row.{Row}
use Rattle.bt_contents.specs.Contents.{AreHeld, Contents, IsTable, is_used, key_is, keyed_at, keys_with, row_at, seen, with_row}
use Rattle.bt_row.specs.Sound.{AreShort, IsHeld, IsSound}
use Rattle.bt_row.specs.declared.cell_key.CellKey.{CellKey}
use Rattle.bt_row.specs.Extents.{AreTimed, IsTimed}
use Rattle.bt_row.specs.declared.plan.Ending.{Ending}
use Rattle.bt_row.specs.declared.plan.Ending.TheVariants.{CarryOut, TakeBack}
use Rattle.bt_row.specs.declared.plan.Outcome.{Outcome}
use Rattle.bt_row.specs.declared.plan.Plan.{Plan}
use Rattle.bt_row.specs.Keys.{Keyed, cells_of, keyed}
use Rattle.bt_row.specs.Plans.{CanSettle, is_new_at, is_wanted_at, outcome_or, placed, settled, value_at}
use Rattle.bt_row.proofs.Plans.{first_value}
use Rattle.bt_contents.specs.Ranges.{is_in, rows_within}
use Rattle.bt_types.specs.declared.row_range.RowRange.{RowRange}
use Rattle.bt_row.proofs.Cells.{row_of_sorted}
use Rattle.bt_row.proofs.Covering.{keys_filter}
use Rattle.std.proofs.lemmas.List.Kept.{IsStrictlySortedBy-filter}
use Rattle.std.proofs.lemmas.Map.{keys-set_value}
use Rattle.bt_row.proofs.Entries.{mapped_filter, mapped_insert, mapped_remove, mapped_set, remove_absent, remove_set, set_is_insert, sorted_put, sorted_removed}
use Rattle.bt_contents.proofs.Lists.{at_with, some_with, with_filled}

-- ---- what holds of the rows

-- a list is not empty where a test says so
pub filled_of : {A : Type 0} (b : Bool) (xs : List A) → IsTrue b ↔ (xs ≡ []) → b ≡ false → 0 < length xs
filled_of b [] tells not_empty = let empty : b ≡ true = tells.1 refl in cc
filled_of b (x ∷ xs) tells not_empty = omega arith

pub cells_filled : (es : Keyed) → 0 < length es → 0 < length (cells_of es)
cells_filled [] filled = filled
cells_filled (e ∷ es) filled = omega arith

module _ (P : List Cell → Type 0) (each : (r : Row) → IsHeld r → P (cells_of r.cells.entries)) where
  all_seen : (rows : List (List ℕ × Row)) → All IsHeld (values_of rows) → All P (values_of (seen rows))
  all_seen [] held = λ k d lt. absurd (omega (arith, lt))
  all_seen (r ∷ rs) held = All-cons P (cells_of r.1.cells.entries) (values_of (seen rs)) (each r.1 (All-head IsHeld r.1 (values_of rs) held)) (all_seen rs (All-tail IsHeld r.1 (values_of rs) held))

-- what is known of the rows
pub table_of : (rows : List (List ℕ × Row)) → AreHeld rows → IsTable (seen rows)
table_of rows held = record {
  sorted = rw (keys_of-map_values (λ (r : Row). cells_of r.cells.entries) rows) held.sorted;
  filled = all_seen (λ (cs : List Cell). 0 < length cs) (λ r held. cells_filled r.cells.entries held.1) rows held.each;
  ordered = all_seen IsRow (λ r held. row_of_sorted r.cells.entries held.0.sorted) rows held.each;
  short = all_seen AreShort (λ r held. held.0.short) rows held.each;
}

-- no rows are held
pub none_held : AreHeld []
unfolding IsStrictlySortedBy
none_held = record { sorted = tt; each = λ k d lt. absurd (omega (arith, lt)) }

-- the row that was found is held
pub found_held : (rows : List (List ℕ × Row)) (r : Row) → AreHeld rows → IsAmong (values_of rows) r → IsHeld r
found_held rows r held among = subst IsHeld (sym among.1.1) (held.each among.0 r among.1.0)

each_filter : (p : List ℕ → Bool) (rows : List (List ℕ × Row)) → All IsHeld (values_of rows) → All IsHeld (values_of (filter (λ r. p r.0) rows))
each_filter p [] held = held
each_filter p (r ∷ rs) held = by (p r.0) (each_filter p rs (All-tail IsHeld r.1 (values_of rs) held))
  where
    by : (t : Bool) → All IsHeld (values_of (filter (λ r. p r.0) rs)) → All IsHeld (values_of (cond t (r ∷ filter (λ r. p r.0) rs) (filter (λ r. p r.0) rs)))
    by true rest = All-cons IsHeld r.1 (values_of (filter (λ r. p r.0) rs)) (All-head IsHeld r.1 (values_of rs) held) rest
    by false rest = rest

-- so are the rows whose keys pass a test
pub held_filter : (p : List ℕ → Bool) (rows : List (List ℕ × Row)) → AreHeld rows → AreHeld (filter (λ r. p r.0) rows)
held_filter p rows held = record {
  sorted = rw (keys_filter p rows) (IsStrictlySortedBy-filter (slice_cmp nat_cmp) p (keys_of rows) held.sorted);
  each = each_filter p rows held.each;
}

pub seen_filter : (p : List ℕ → Bool) (rows : List (List ℕ × Row)) → seen (filter (λ r. p r.0) rows) ≡ filter (λ r. p r.0) (seen rows)
seen_filter p rows = mapped_filter (λ (r : Row). cells_of r.cells.entries) p rows

-- ---- a row that has changed

module _ (k : List ℕ) (rows : List (List ℕ × Row)) where
  abbrev cells_at : Row → List Cell
  cells_at r = cells_of r.cells.entries

  found_cells : (r : Row) → lookup (key_is k) rows ≡ Some r → lookup (key_is k) (seen rows) ≡ Some (cells_at r)
  found_cells r found = lookup-map_values cells_at (key_is k) rows ∙ ap (option_map cells_at) found

  absent_cells : lookup (key_is k) rows ≡ None → lookup (key_is k) (seen rows) ≡ None
  absent_cells absent = lookup-map_values cells_at (key_is k) rows ∙ ap (option_map cells_at) absent

  -- the cells of a row that was found
  pub row_found : (r : Row) → lookup (key_is k) rows ≡ Some r → row_at k (seen rows) ≡ cells_at r
  row_found r found = ap (λ o. unwrap_or o []) (found_cells r found)

  pub row_absent : lookup (key_is k) rows ≡ None → row_at k (seen rows) ≡ []
  row_absent absent = ap (λ o. unwrap_or o []) (absent_cells absent)

  -- a row that has cells is there
  pub none_there : lookup (key_is k) rows ≡ None → 0 < length (row_at k (seen rows)) → ⊥
  none_there absent filled = let bare : row_at k (seen rows) ≡ [] = row_absent absent in absurd (omega (arith, subst (λ (cs : List Cell). 0 < length cs) bare filled))

  -- a row that was there has cells
  pub over_row : (r new : Row) → IsStrictlySortedBy (slice_cmp nat_cmp) (keys_of rows) → lookup (key_is k) rows ≡ Some r → 0 < length new.cells.entries → seen (set_value (key_is k) rows new) ≡ with_row k (cells_at new) (seen rows)
  over_row r new sorted found filled =
      let sorted_seen : IsStrictlySortedBy (slice_cmp nat_cmp) (keys_of (seen rows)) = rw (keys_of-map_values cells_at rows) sorted in
      mapped_set cells_at (key_is k) rows new ∙ set_is_insert nat_list_cmp_total k (cells_at new) (cells_at r) (seen rows) sorted_seen (found_cells r found)
      ∙ sym (with_filled nat_list_cmp_total k (cells_at new) (seen rows) (cells_filled new.cells.entries filled))

  -- a row that was there has none
  pub gone_row : (new : Row) → new.cells.entries ≡ [] → seen (remove_entry (key_is k) (set_value (key_is k) rows new)) ≡ with_row k (cells_at new) (seen rows)
  gone_row new bare =
      ap seen (remove_set (key_is k) rows new) ∙ mapped_remove cells_at (key_is k) rows ∙ ap (λ cs. with_row k cs (seen rows)) (sym (ap cells_of bare))

  -- a row with cells is put where its key is
  pub new_row : (new : Row) → 0 < length new.cells.entries → seen (insert_entry (slice_cmp nat_cmp) rows k new) ≡ with_row k (cells_at new) (seen rows)
  new_row new filled = mapped_insert cells_at (slice_cmp nat_cmp) rows k new ∙ sym (with_filled nat_list_cmp_total k (cells_at new) (seen rows) (cells_filled new.cells.entries filled))

  -- a row that is taken out is not there
  pub removed_row : seen (remove_entry (key_is k) rows) ≡ with_row k [] (seen rows)
  removed_row = mapped_remove cells_at (key_is k) rows

  -- a row that was not there is not there, where nothing was put
  pub absent_itself : lookup (key_is k) rows ≡ None → seen rows ≡ with_row k (row_at k (seen rows)) (seen rows)
  absent_itself absent = sym (remove_absent (key_is k) (seen rows) (absent_cells absent)) ∙ ap (λ cs. with_row k cs (seen rows)) (sym (row_absent absent))

  -- a row that is as it was changes nothing
  pub same_row : (r new : Row) → lookup (key_is k) rows ≡ Some r → new.cells.entries ≡ r.cells.entries → seen (set_value (key_is k) rows new) ≡ seen rows
  same_row r new found same =
      mapped_set cells_at (key_is k) rows new ∙ ap (λ es. set_value (key_is k) (seen rows) (cells_of es)) same ∙ set_value_same (key_is k) (seen rows) (cells_at r) (found_cells r found)

  pub held_over : (new : Row) → AreHeld rows → IsSound new.cells.entries → 0 < length new.cells.entries → AreHeld (set_value (key_is k) rows new)
  held_over new held sound filled = record {
    sorted = rw (keys-set_value (key_is k) rows new) held.sorted;
    each = All-values-set_value (key_is k) IsHeld rows new held.each (sound, filled);
  }

  pub held_removed : AreHeld rows → AreHeld (remove_entry (key_is k) rows)
  held_removed held = record {
    sorted = sorted_removed (slice_cmp nat_cmp) (key_is k) rows held.sorted;
    each = All-map-remove_entry (key_is k) (λ e. e.1) IsHeld rows held.each;
  }

  pub held_gone : (new : Row) → AreHeld rows → AreHeld (remove_entry (key_is k) (set_value (key_is k) rows new))
  held_gone new held = rw (remove_set (key_is k) rows new) (held_removed held)

  pub held_new : (new : Row) → AreHeld rows → IsHeld new → AreHeld (insert_entry (slice_cmp nat_cmp) rows k new)
  held_new new held row = record {
    sorted = sorted_put nat_list_cmp_total k new rows held.sorted;
    each = All-values-insert_entry (slice_cmp nat_cmp) k new IsHeld rows held.each row;
  }

-- ---- values by the keys of cells

pub keyed_cells : (es : Keyed) → keyed (cells_of es) ≡ es
keyed_cells [] = refl
keyed_cells (e ∷ es) = ap (λ (es : Keyed). e ∷ es) (keyed_cells es)

module _ (k : List ℕ) (rows : List (List ℕ × Row)) where
  pub keyed_found : (r : Row) → lookup (key_is k) rows ≡ Some r → keyed_at k (seen rows) ≡ r.cells.entries
  keyed_found r found = ap keyed (row_found k rows r found) ∙ keyed_cells r.cells.entries

  pub keyed_absent : lookup (key_is k) rows ≡ None → keyed_at k (seen rows) ≡ []
  keyed_absent absent = ap keyed (row_absent k rows absent)

  -- a row that was looked for, where it is there
  pub got_row : (o : Option (Bor Row)) → AreHeld rows → option_copied o ≡ lookup (key_is k) rows → IfSome o (λ r. IsAmong (values_of rows) r.now) → IfSome o (λ r. IsHeld r.now × (keyed_at k (seen rows) ≡ r.now.cells.entries))
  got_row None held value member = tt
  got_row (Some r) held value member = (found_held rows r.now held member, keyed_found r.now (sym value))

  pub got_none : (o : Option (Bor Row)) → option_copied o ≡ lookup (key_is k) rows → IfNone o (keyed_at k (seen rows) ≡ [])
  got_none None value = keyed_absent (sym value)
  got_none (Some r) value = tt

  module _ (sorted : IsStrictlySortedBy (slice_cmp nat_cmp) (keys_of rows)) (new : Row) (after : Contents) (is : after ≡ with_row k (cells_of new.cells.entries) (seen rows)) where
    row_after : row_at k after ≡ cells_of new.cells.entries
    row_after =
        let sorted_seen : IsStrictlySortedBy (slice_cmp nat_cmp) (keys_of (seen rows)) = rw (keys_of-map_values (λ (r : Row). cells_of r.cells.entries) rows) sorted in
        ap (row_at k) is ∙ at_with nat_list_cmp_total exact_bytes k k (cells_of new.cells.entries) (seen rows) sorted_seen ∙ rw (ap is_eq (tied_itself nat_list_cmp_total k)) refl

    -- the row at the key was put there, and no other was changed
    pub row_is : after ≡ with_row k (row_at k after) (seen rows)
    row_is = is ∙ ap (λ cs. with_row k cs (seen rows)) (sym row_after)

    pub some_after : 0 < length new.cells.entries → 0 < length after
    some_after filled = rw is (some_with nat_list_cmp_total k (cells_of new.cells.entries) (seen rows) (cells_filled new.cells.entries filled))

    pub keyed_after : keyed_at k after ≡ new.cells.entries
    keyed_after = ap keyed row_after ∙ keyed_cells new.cells.entries

-- where a plan puts places, there are cells
pub places_filled : (outcomes : List (CellKey × Outcome)) (es fs : Keyed) → 0 < length es → ((k : CellKey) → value_at fs k ≡ placed outcomes (value_at es) k) → 0 < length fs
places_filled outcomes [] fs filled places = absurd (omega (arith, filled))
places_filled outcomes (e ∷ es) [] filled places = absurd (by (is_wanted_at outcomes e.0) (places e.0 ∙ ap (λ v. cond (is_wanted_at outcomes e.0) (Some []) v) (first_value e es)))
  where
    by : (t : Bool) → None ≡ cond t (Some []) (Some e.1) → ⊥
    by true e = cc e
    by false e = cc e
places_filled outcomes (e ∷ es) (f ∷ fs) filled places = omega arith

-- a plan of no row that can end leaves none
pub settled_none : (ending : Ending) (p : Plan) → CanSettle ending p [] → (k : CellKey) → None ≡ settled ending p [] k
settled_none CarryOut p can k = by (value_at p.outcomes.entries k) (can k) p.clears
  where
    of : (o : Option (List ℕ)) → (IsSome o → IsSome {T = List ℕ} None) → None ≡ o
    of None some = refl
    of (Some v) some = absurd (cc (some refl))

    by : (o : Option Outcome) → IfSome o (λ o. IsSome o.value → IsSome {T = List ℕ} None) → (c : Bool) → None ≡ outcome_or o (cond c None None)
    by None some true = refl
    by None some false = refl
    by (Some o) some c = of o.value some
settled_none TakeBack p can k = by (is_new_at p.outcomes.entries k)
  where
    by : (t : Bool) → None ≡ cond {A = Option (List ℕ)} t None None
    by true = refl
    by false = refl

-- ---- cells of a family

module _ (family : List ℕ) (q : CellKey → Bool) (same : (k : CellKey) → IsTimed k → q k ≡ bytes_eq k.family family) where
  cells_any : (es : Keyed) → AreTimed (keys_of es) → list_any q (keys_of es) ≡ list_any (λ c. bytes_eq c.family family) (cells_of es)
  cells_any [] timed = refl
  cells_any (e ∷ es) timed = rw (same e.0 (All-head IsTimed e.0 (keys_of es) timed), cells_any es (All-tail IsTimed e.0 (keys_of es) timed)) refl

  -- a row has a cell of the family exactly if a key of one passes such a test
  pub rows_any : (rows : List (List ℕ × Row)) → All IsHeld (values_of rows) → list_any (λ (r : Row). list_any q (keys_of r.cells.entries)) (values_of rows) ≡ is_used family (seen rows)
  rows_any [] held = refl
  rows_any (r ∷ rs) held =
      rw (cells_any r.1.cells.entries (All-head IsHeld r.1 (values_of rs) held).0.timed, rows_any rs (All-tail IsHeld r.1 (values_of rs) held)) refl

  -- the keys of such rows are those of the rows that have one
  pub keys_any : (rows : List (List ℕ × Row)) → All IsHeld (values_of rows) → keys_of (filter (λ r. list_any q (keys_of r.1.cells.entries)) rows) ≡ keys_with family (seen rows)
  keys_any [] held = refl
  keys_any (r ∷ rs) held =
      rw (cells_any r.1.cells.entries (All-head IsHeld r.1 (values_of rs) held).0.timed) (by (list_any (λ c. bytes_eq c.family family) (cells_of r.1.cells.entries)) (keys_any rs (All-tail IsHeld r.1 (values_of rs) held)))
    where
      by : (t : Bool) → keys_of (filter (λ r. list_any q (keys_of r.1.cells.entries)) rs) ≡ keys_with family (seen rs)
          → keys_of (cond t (r ∷ filter (λ r. list_any q (keys_of r.1.cells.entries)) rs) (filter (λ r. list_any q (keys_of r.1.cells.entries)) rs)) ≡ keys_of (cond t ((r.0, cells_of r.1.cells.entries) ∷ filter (λ r. list_any (λ c. bytes_eq c.family family) r.1) (seen rs)) (filter (λ r. list_any (λ c. bytes_eq c.family family) r.1) (seen rs)))
      by true rest = ap (λ ks. r.0 ∷ ks) rest
      by false rest = rest

-- the keys of the rows in a range are those of the rows that are seen there
pub keys_within : (range : RowRange) (rows : List (List ℕ × Row)) → keys_of (rows_within range rows) ≡ keys_of (rows_within range (seen rows))
keys_within range rows = sym (keys_of-map_values (λ (r : Row). cells_of r.cells.entries) (rows_within range rows)) ∙ ap (λ (rs : Contents). keys_of rs) (seen_filter (is_in range) rows)
