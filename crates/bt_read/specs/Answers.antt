-- The rows that a read finds.
use Rattle.std.specs.Prelude.{◌≡◌, ℕ, ◌==◌, Bool, true, not, List, [], ◌∷◌, length, map, filter, take, Option, Some, None, if◌then◌else◌, IsTrue}
use Rattle.bt_types.specs.declared.cell.Cell.{Cell}
use Rattle.bt_types.specs.declared.found_row.FoundRow.{FoundRow}
use Rattle.bt_types.specs.Cells.{AreInOrder, AreShort}
use Rattle.bt_types.specs.Grammar.{is_row_key}
use Rattle.bt_range.specs.declared.asked_range.AskedRange.{AskedRange}
use Rattle.bt_range.specs.RowSets.{is_selected}
use Rattle.bt_filter.specs.declared.filter.Filter.{Filter}
use Rattle.bt_filter.specs.Meaning.{final_cells}

-- a row with the cells that the filter leaves
abbrev pub found_row : Filter → (List ℕ × List Cell) → FoundRow
found_row f row = record { key = row.0; cells = final_cells f row.0 row.1 }

-- the row has a cell
abbrev pub is_filled : FoundRow → Bool
is_filled r = not (length r.cells == 0)

-- the rows so, without those that are left with no cell
abbrev pub found : Filter → List (List ℕ × List Cell) → List FoundRow
found f rows = filter is_filled (map (found_row f) rows)

-- 0 is no limit
abbrev pub limit_of : ℕ → Option ℕ
limit_of n = if n == 0 then None else Some n

-- the first n, or all without a limit
abbrev pub limited : {A : Type 0} → Option ℕ → List A → List A
limited None xs = xs
limited (Some n) xs = take n xs

-- The answer of a read (google.bigtable.v2.ReadRowsRequest): the selected rows with what the filter leaves of them, those with cells alone, and of these the first n where n is not 0.
abbrev pub answer : List (List ℕ × List Cell) → List (List ℕ) → List AskedRange → Filter → ℕ → List FoundRow
answer rows keys ranges f n = limited (limit_of n) (found f (filter (λ r. is_selected keys ranges r.0) rows))

-- a filter that runs, and how many rows it may still give
pub record Read : Type 0 where
  pub filter : Filter
  pub rows_left : Option ℕ

-- the rows that it finds in these
abbrev pub left_of : Read → List (List ℕ × List Cell) → List FoundRow
left_of read rows = limited read.rows_left (found read.filter rows)

-- the next row, or none
abbrev pub GivesFound : Option FoundRow → List FoundRow → List FoundRow → Type 0
GivesFound None old new = (old ≡ []) × (new ≡ [])
GivesFound (Some r) old new = old ≡ r ∷ new

-- what is known of a row that was found
pub record IsFound (r : FoundRow) : Type 0 where
  pub key : IsTrue (is_row_key r.key)
  pub filled : is_filled r ≡ true
  pub ordered : AreInOrder r.cells
  pub short : AreShort r.cells
