-- Cells of one column, one behind another.
use Rattle.std.specs.Prelude.{Bool, false, List, [], ◌∷◌}
use Rattle.bt_types.specs.declared.cell.Cell.{Cell}
use Rattle.bt_filter.specs.Meaning.{is_of_column}

-- the last of the cells is of the column of c
abbrev pub continues : List Cell → Cell → Bool
continues [] c = false
continues (b ∷ []) c = is_of_column c b
continues (a ∷ b ∷ bs) c = continues (b ∷ bs) c
