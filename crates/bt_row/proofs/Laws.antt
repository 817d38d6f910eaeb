-- What mutations leave at each key is what they leave of a row.
use Rattle.std.proofs.Common.{◌≡◌, ℕ, Bool, true, false, List, [], ◌∷◌, None, cond, refl, sym, ap, ◌∙◌}
use Rattle.std.specs.Prelude.{not, filter}
use Rattle.std.specs.Ordering.{match_ordering}
use Rattle.std.specs.declared.cmp.Ordering.{Ordering}
use Rattle.std.specs.declared.cmp.Ordering.TheVariants.{Less, Equal, Greater}
use Rattle.std.specs.List.Sorted.{IsStrictlySortedBy}
use Rattle.std.specs.Map.{keys_of}
use Rattle.std.specs.BTreeMap.{insert_entry, is_at}
use Rattle.std.proofs.lemmas.List.Kept.{IsStrictlySortedBy-filter}
use Rattle.std.proofs.lemmas.Map.Entries.{lookup-filter-keys}
use Rattle.bt_types.specs.declared.cell.Cell.{Cell}
use Rattle.bt_types.specs.declared.mutation.Mutation.{Mutation}
use Rattle.bt_types.specs.declared.mutation.Mutation.TheVariants.{SetCell, DeleteColumn, DeleteFamily, DeleteRow}
use Rattle.bt_types.specs.Mutations.{applied, mutated, set_cell}
use Rattle.bt_row.specs.declared.cell_key.CellKey.{CellKey}
use Rattle.bt_row.specs.Extents.{removes}
use Rattle.bt_row.specs.Keys.{AreSorted, Keyed, cell_at, cells_of, key_cmp, key_total}
use Rattle.bt_row.specs.Plans.{value_after, value_at, values_after}
use Rattle.bt_row.proofs.Covering.{keys_filter}
use Rattle.bt_row.proofs.Entries.{lookup_put, same_entries, sorted_put}
use Rattle.bt_row.proofs.Plans.{exact_key, same_key, same_values}

-- a cell is put where its key is
cells_put : (key : CellKey) (v : List ℕ) (es : Keyed) → cells_of (insert_entry key_cmp es key v) ≡ set_cell (cell_at key v) (cells_of es)
cells_put key v [] = refl
cells_put key v (e ∷ es) = by (key_cmp key e.0) refl (cells_put key v es)
  where
    by : (r : Ordering) → key_cmp key e.0 ≡ r → cells_of (insert_entry key_cmp es key v) ≡ set_cell (cell_at key v) (cells_of es)
        → cells_of (match_ordering r ((key, v) ∷ e ∷ es) ((e.0, v) ∷ es) (e ∷ insert_entry key_cmp es key v)) ≡ match_ordering r (cell_at key v ∷ cell_at e.0 e.1 ∷ cells_of es) (cell_at key v ∷ cells_of es) (cell_at e.0 e.1 ∷ set_cell (cell_at key v) (cells_of es))
    by Less is rest = refl
    by Equal is rest = ap (λ (x : CellKey). cell_at x v ∷ cells_of es) (sym (exact_key key e.0 is))
    by Greater is rest = ap (λ cs. cell_at e.0 e.1 ∷ cs) rest

-- ---- one mutation of entries

abbrev key_of : List ℕ → List ℕ → ℕ → CellKey
key_of family qualifier at = record { family = family; qualifier = qualifier; at = at }

abbrev changed : Mutation → Keyed → Keyed
changed (SetCell family qualifier at value) es = insert_entry key_cmp es (key_of family qualifier at) value
changed (DeleteColumn family qualifier start end) es = filter (λ e. not (removes (DeleteColumn family qualifier start end) e.0)) es
changed (DeleteFamily family) es = filter (λ e. not (removes (DeleteFamily family) e.0)) es
changed DeleteRow es = []

cells_kept : (p : CellKey → Bool) (q : Cell → Bool) → ((k : CellKey) (v : List ℕ) → q (cell_at k v) ≡ p k) → (es : Keyed) → cells_of (filter (λ e. not (p e.0)) es) ≡ filter (λ c. not (q c)) (cells_of es)
cells_kept p q same [] = refl
cells_kept p q same (e ∷ es) = rw (same e.0 e.1) (by (p e.0) (cells_kept p q same es))
  where
    by : (t : Bool) → cells_of (filter (λ e. not (p e.0)) es) ≡ filter (λ c. not (q c)) (cells_of es)
        → cells_of (cond (not t) (e ∷ filter (λ e. not (p e.0)) es) (filter (λ e. not (p e.0)) es)) ≡ cond (not t) (cell_at e.0 e.1 ∷ filter (λ c. not (q c)) (cells_of es)) (filter (λ c. not (q c)) (cells_of es))
    by true rest = rest
    by false rest = ap (λ cs. cell_at e.0 e.1 ∷ cs) rest

value_kept : (p : CellKey → Bool) (es : Keyed) (k : CellKey) → value_at (filter (λ e. not (p e.0)) es) k ≡ cond (p k) None (value_at es k)
value_kept p es k = lookup-filter-keys (is_at (key_cmp k)) (λ x. not (p x)) (not (p k)) (λ x same. ap (λ (y : CellKey). not (p y)) (sym (same_key k x same))) es ∙ turned (p k)
  where
    turned : (t : Bool) → cond (not t) (value_at es k) None ≡ cond t None (value_at es k)
    turned true = refl
    turned false = refl

sorted_kept : (p : CellKey → Bool) (es : Keyed) → AreSorted es → AreSorted (filter (λ e. not (p e.0)) es)
sorted_kept p es sorted = rw (keys_filter (λ x. not (p x)) es) (IsStrictlySortedBy-filter key_cmp (λ x. not (p x)) (keys_of es) sorted)

cells_changed : (m : Mutation) (es : Keyed) → cells_of (changed m es) ≡ mutated m (cells_of es)
cells_changed (SetCell family qualifier at value) es = cells_put (key_of family qualifier at) value es
cells_changed (DeleteColumn family qualifier start end) es = cells_kept (removes (DeleteColumn family qualifier start end)) _ (λ k v. refl) es
cells_changed (DeleteFamily family) es = cells_kept (removes (DeleteFamily family)) _ (λ k v. refl) es
cells_changed DeleteRow es = refl

value_changed : (m : Mutation) (es : Keyed) (k : CellKey) → value_at (changed m es) k ≡ value_after m (value_at es) k
value_changed (SetCell family qualifier at value) es k = lookup_put key_total exact_key (key_of family qualifier at) k value es
value_changed (DeleteColumn family qualifier start end) es k = value_kept (removes (DeleteColumn family qualifier start end)) es k
value_changed (DeleteFamily family) es k = value_kept (removes (DeleteFamily family)) es k
value_changed DeleteRow es k = refl

none_sorted : AreSorted {X = List ℕ} []
unfolding IsStrictlySortedBy
none_sorted = tt

sorted_changed : (m : Mutation) (es : Keyed) → AreSorted es → AreSorted (changed m es)
sorted_changed (SetCell family qualifier at value) es sorted = sorted_put key_total (key_of family qualifier at) value es sorted
sorted_changed (DeleteColumn family qualifier start end) es sorted = sorted_kept (removes (DeleteColumn family qualifier start end)) es sorted
sorted_changed (DeleteFamily family) es sorted = sorted_kept (removes (DeleteFamily family)) es sorted
sorted_changed DeleteRow es sorted = none_sorted

-- ---- a list of mutations

-- what has the values that the mutations leave has the cells that they leave
pub applied_values : (ms : List Mutation) (es fs : Keyed) → AreSorted es → AreSorted fs → ((k : CellKey) → value_at fs k ≡ values_after ms (value_at es) k) → cells_of fs ≡ applied ms (cells_of es)
applied_values [] es fs sorted also leaves = ap cells_of (same_entries key_total exact_key fs es also sorted leaves)
applied_values (m ∷ ms) es fs sorted also leaves =
    applied_values ms (changed m es) fs (sorted_changed m es sorted) also (λ k. leaves k ∙ same_values ms (value_after m (value_at es)) (value_at (changed m es)) k (sym (value_changed m es k)))
    ∙ ap (applied ms) (cells_changed m es)
