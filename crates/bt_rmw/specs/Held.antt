-- What columns have, as it is held: a time and a value a column.
use Rattle.std.specs.Prelude.{◌≤◌, ℕ, List, length, map, All, Option, option_map, Result, Ok, Err}
use Rattle.std.specs.Map.{lookup, values_of}
use Rattle.std.specs.BTreeMap.{is_at}
use Rattle.bt_types.specs.Cells.{plain}
use Rattle.bt_types.specs.declared.cell.Cell.{Cell}
use Rattle.bt_entry.specs.Grammar.{most_of_value}
use Rattle.bt_rmw.specs.declared.column.Column.{Column}
use Rattle.bt_rmw.specs.declared.refusal.ModifyRefusal.{ModifyRefusal}
use Rattle.bt_rmw.specs.declared.rule.Action.{Action}
use Rattle.bt_rmw.specs.Columns.{column_order}
use Rattle.bt_rmw.specs.Modified.{latest_in, put_cell, time_after, value_after}

-- a time and a value
abbrev pub Stamped : Type 0
Stamped = ℕ × List ℕ

-- those of columns
abbrev pub Held : Type 0
Held = List (Column × Stamped)

-- what a column has
abbrev pub held_at : Held → Column → Option Stamped
held_at es column = lookup (is_at (column_order column)) es

-- what is read of a cell
abbrev pub stamped : Cell → Stamped
stamped c = (c.at, c.value)

-- what is read of the latest cell of a column
abbrev pub latest_stamped : List Cell → Column → Option Stamped
latest_stamped cells column = option_map stamped (latest_in column.family column.qualifier cells)

-- the cell of a column
abbrev pub cell_in : Column → Stamped → Cell
cell_in column s = plain column.family column.qualifier s.0 s.1

-- the cells of columns
abbrev pub cells_of : Held → List Cell
cells_of es = map (λ e. cell_in e.0 e.1) es

-- a value with its time
abbrev pub at_time : ℕ → Result (List ℕ) ModifyRefusal → Result Stamped ModifyRefusal
at_time time (Ok value) = Ok (time, value)
at_time time (Err why) = Err why

-- what an action makes of what a column has
abbrev pub stamped_after : ℕ → ℕ → Action → Option Stamped → Result Stamped ModifyRefusal
stamped_after moment index action before = at_time (time_after moment (option_map (λ s. s.0) before)) (value_after index action (option_map (λ s. s.1) before))

-- the cells of columns, once one of them was made anew
abbrev pub put_stamped : Column → Result Stamped ModifyRefusal → Held → Result (List Cell) ModifyRefusal
put_stamped column (Ok s) es = Ok (put_cell (cell_in column s) (cells_of es))
put_stamped column (Err why) es = Err why

-- no value has more bytes than a cell's may have
abbrev pub AreShort : Held → Type 0
AreShort es = All (λ s. length s.1 ≤ most_of_value) (values_of es)
