-- Whether a row meets a condition (google.bigtable.v2.CheckAndMutateRowRequest.predicate_filter).
use Rattle.std.specs.Prelude.{ℕ, ◌==◌, Bool, false, not, List, [], ◌∷◌, length, Option, Some, None}
use Rattle.bt_types.specs.declared.cell.Cell.{Cell}
use Rattle.bt_filter.specs.declared.filter.Filter.{Filter}
use Rattle.bt_filter.specs.Meaning.{final_cells}

-- what the filter leaves of a row's cells; without a filter, all of them
abbrev pub left_by : Option Filter → List ℕ → List Cell → List Cell
left_by None key cells = cells
left_by (Some f) key cells = final_cells f key cells

-- the first row is there, and cells of it are left
abbrev pub is_met : Option Filter → List ℕ → List (List ℕ × List Cell) → Bool
is_met f key [] = false
is_met f key (row ∷ rows) = not (length (left_by f key row.1) == 0)
