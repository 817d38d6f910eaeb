-- The rows of a table: a finite map from row keys to rows, by its entries in the order of keys.
use Rattle.std.specs.Prelude.{ℕ, ◌<◌, Bool, List, [], ◌∷◌, filter, length, map, bytes_eq, unwrap_or, All}
use Rattle.std.specs.List.{list_any}
use Rattle.std.specs.List.Sorted.{IsStrictlySortedBy}
use Rattle.std.specs.Ordering.{nat_cmp}
use Rattle.std.specs.declared.cmp.Ordering.{Ordering}
use Rattle.std.specs.Cmp.Lexicographic.{slice_cmp}
use Rattle.std.specs.Map.{keys_of, lookup, remove_entry, values_of}
use Rattle.std.specs.BTreeMap.{insert_entry, is_at}
use Rattle.bt_types.specs.declared.cell.Cell.{Cell}
use Rattle.bt_types.specs.declared.mutation.Mutation.{Mutation}
use Rattle.bt_types.specs.Cells.{IsRow}
use Rattle.bt_types.specs.Mutations.{applied}
use Rattle.bt_row.specs.declared.row.Row.{Row}
use Rattle.bt_row.specs.Keys.{Keyed, cells_of, keyed}
use Rattle.bt_row.specs.Sound.{AreShort, IsHeld}

abbrev pub Contents : Type 0
Contents = List (List ℕ × List Cell)

-- no row is without cells
abbrev pub HaveCells : Contents → Type 0
HaveCells rows = All (λ cs. 0 < length cs) (values_of rows)

-- the cells of each row are in order and have no labels
abbrev pub HaveRows : Contents → Type 0
HaveRows rows = All IsRow (values_of rows)

-- no cell's value in any row is too long
abbrev pub HaveShortValues : Contents → Type 0
HaveShortValues rows = All AreShort (values_of rows)

-- what is known of the rows of a table: their keys are in order; each row has cells, which are in order, without labels and short
pub record IsTable (rows : Contents) : Type 0 where
  pub sorted : IsStrictlySortedBy (slice_cmp nat_cmp) (keys_of rows)
  pub filled : HaveCells rows
  pub ordered : HaveRows rows
  pub short : HaveShortValues rows

-- a key is this one, by its bytes
abbrev pub key_is : List ℕ → List ℕ → Bool
key_is k = is_at (slice_cmp nat_cmp k)

module _ {K A : Type 0} (R : K → K → Ordering) where
  -- the list at a key: none where no entry is there
  abbrev pub list_at : K → List (K × List A) → List A
  list_at k es = unwrap_or (lookup (is_at (R k)) es) []

  -- the entries with this list at the key; an entry without items is not there
  abbrev pub with_entry : K → List A → List (K × List A) → List (K × List A)
  with_entry k [] es = remove_entry (is_at (R k)) es
  with_entry k (x ∷ xs) es = insert_entry R es k (x ∷ xs)

-- each entry has an item
abbrev pub AreFilled : {K A : Type 0} → List (K × List A) → Type 0
AreFilled es = All (λ xs. 0 < length xs) (values_of es)

-- the cells of the row at a key
abbrev pub row_at : List ℕ → Contents → List Cell
row_at k rows = list_at (slice_cmp nat_cmp) k rows

-- its values by the keys of its cells
abbrev pub keyed_at : List ℕ → Contents → Keyed
keyed_at k rows = keyed (row_at k rows)

-- the contents with this row at the key
abbrev pub with_row : List ℕ → List Cell → Contents → Contents
with_row k cs rows = with_entry (slice_cmp nat_cmp) k cs rows

-- the contents after these mutations of the row at the key
abbrev pub put_row : List ℕ → List Mutation → Contents → Contents
put_row k ms rows = with_row k (applied ms (row_at k rows)) rows

-- the family has a cell in some row
abbrev pub is_used : List ℕ → Contents → Bool
is_used family rows = list_any (λ r. list_any (λ c. bytes_eq c.family family) r.1) rows

-- the keys of the rows that have a cell of the family
abbrev pub keys_with : List ℕ → Contents → List (List ℕ)
keys_with family rows = keys_of (filter (λ r. list_any (λ c. bytes_eq c.family family) r.1) rows)

-- ---- how the rows are held

-- rows that are held, in the order of their keys
pub record AreHeld (rows : List (List ℕ × Row)) : Type 0 where
  pub sorted : IsStrictlySortedBy (slice_cmp nat_cmp) (keys_of rows)
  pub each : All IsHeld (values_of rows)

-- the rows that they are
abbrev pub seen : List (List ℕ × Row) → Contents
seen rows = map (λ r. (r.0, cells_of r.1.cells.entries)) rows
