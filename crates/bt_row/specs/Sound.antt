-- What is known of a row, and of mutations of it.
use Rattle.std.specs.Prelude.{◌<◌, ◌≤◌, List, length, All}
use Rattle.std.specs.List.{AllByRecursion}
use Rattle.std.specs.Map.{keys_of}
use Rattle.bt_types.specs.declared.cell.Cell.{Cell}
use Rattle.bt_types.specs.declared.mutation.Mutation.{Mutation}
use Rattle.bt_types.specs.declared.mutation.Mutation.TheVariants.{SetCell, DeleteColumn, DeleteFamily, DeleteRow}
use Rattle.bt_entry.specs.Grammar.{most_of_value}
use Rattle.bt_row.specs.declared.row.Row.{Row}
use Rattle.bt_row.specs.Extents.{AreTimed}
use Rattle.bt_row.specs.Keys.{AreSorted, Keyed, cells_of}

-- no cell's value is too long
abbrev pub AreShort : List Cell → Type 0
AreShort cs = All (λ c. length c.value ≤ most_of_value) cs

-- the mutation sets no value that is too long
abbrev pub IsShort : Mutation → Type 0
IsShort (SetCell family qualifier at value) = length value ≤ most_of_value
IsShort (DeleteColumn family qualifier start end) = Unit {0}
IsShort (DeleteFamily family) = Unit {0}
IsShort DeleteRow = Unit {0}

abbrev pub HaveShort : List Mutation → Type 0
HaveShort mutations = AllByRecursion IsShort mutations

-- ---- how a row is held

-- the values of a row by the keys of its cells: in order, at timestamps that cells have, and short
pub record IsSound (es : Keyed) : Type 0 where
  pub sorted : AreSorted es
  pub timed : AreTimed (keys_of es)
  pub short : AreShort (cells_of es)

-- such values, of which there is one
abbrev pub IsHeld : Row → Type 0
IsHeld r = IsSound r.cells.entries × (0 < length r.cells.entries)
