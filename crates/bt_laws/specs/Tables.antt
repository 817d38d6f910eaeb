-- Rows of a table, of which a read makes its answer.
use Rattle.std.specs.Prelude.{ℕ, List, map, IsTrue}
use Rattle.std.specs.List.{AllByRecursion}
use Rattle.std.specs.List.Sorted.{IsStrictlySortedBy}
use Rattle.std.specs.Ordering.{nat_cmp}
use Rattle.std.specs.Cmp.Lexicographic.{slice_cmp}
use Rattle.bt_types.specs.declared.cell.Cell.{Cell}
use Rattle.bt_types.specs.Cells.{IsRow}
use Rattle.bt_types.specs.Grammar.{is_family_name, is_qualifier, is_row_key}
use Rattle.bt_types.specs.Time.{is_micros}

-- the names and the timestamp of the cell are lawful
pub record HasLawfulNames (c : Cell) : Type 0 where
  pub family : IsTrue (is_family_name c.family)
  pub qualifier : IsTrue (is_qualifier c.qualifier)
  pub at : IsTrue (is_micros c.at)

-- a row with a lawful key: its cells in order, without labels, with lawful names and timestamps
pub record IsLawfulRow (row : List ℕ × List Cell) : Type 0 where
  pub key : IsTrue (is_row_key row.0)
  pub cells : IsRow row.1
  pub named : AllByRecursion HasLawfulNames row.1

-- such rows, in the order of their keys
pub record AreLawfulRows (rows : List (List ℕ × List Cell)) : Type 0 where
  pub sorted : IsStrictlySortedBy (slice_cmp nat_cmp) (map (λ r. r.0) rows)
  pub each : AllByRecursion IsLawfulRow rows
