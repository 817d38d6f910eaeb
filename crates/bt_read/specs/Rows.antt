-- Rows on the way to an answer.
use Rattle.std.specs.Prelude.{IsTrue}
use Rattle.bt_types.specs.declared.found_row.FoundRow.{FoundRow}
use Rattle.bt_types.specs.Cells.{AreInOrder, AreShort}
use Rattle.bt_types.specs.Grammar.{is_row_key}

-- what is known of a row that was read and filtered
pub record IsRead (r : FoundRow) : Type 0 where
  pub key : IsTrue (is_row_key r.key)
  pub ordered : AreInOrder r.cells
  pub short : AreShort r.cells
