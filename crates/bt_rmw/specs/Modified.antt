-- What rules make of the latest cells of a row's columns (google.bigtable.v2.ReadModifyWriteRule).
use Rattle.std.specs.Prelude.{ℕ, ◌+◌, ◌-◌, ◌^◌, ◌%◌, ◌==◌, max, nat_le, nat_lt, Bool, ℤ, pos, negsuc, ◌+ℤ◌, List, [], ◌∷◌, ◌++◌, length, Option, Some, None, option_map, unwrap_or, Result, Ok, Err, if◌then◌else◌}
use Rattle.std.specs.List.{find}
use Rattle.std.specs.Option.{option_or}
use Rattle.std.specs.Ordering.{nat_cmp, match_ordering, ordering_then}
use Rattle.std.specs.Cmp.Lexicographic.{slice_cmp}
use Rattle.std.specs.declared.cmp.Ordering.{Ordering}
use Rattle.std.specs.Int.{w64, cast_signed, cast_unsigned, from_be_bytes, to_be_bytes}
use Rattle.bt_types.specs.Cells.{plain}
use Rattle.bt_types.specs.Mutations.{is_in_column}
use Rattle.bt_types.specs.declared.cell.Cell.{Cell}
use Rattle.bt_types.specs.declared.mutation.Mutation.{Mutation}
use Rattle.bt_types.specs.declared.mutation.Mutation.TheVariants.{SetCell}
use Rattle.bt_entry.specs.Grammar.{most_of_value}
use Rattle.bt_rmw.specs.declared.refusal.ModifyRefusal.{ModifyRefusal}
use Rattle.bt_rmw.specs.declared.refusal.ModifyRefusal.TheVariants.{NotEightBytes, IncrementRange, ValueTooLarge}
use Rattle.bt_rmw.specs.declared.rule.Action.{Action}
use Rattle.bt_rmw.specs.declared.rule.Action.TheVariants.{Append, Increment}
use Rattle.bt_rmw.specs.declared.rule.ModifyRule.{ModifyRule}

-- ---- values

-- eight bytes, the most significant first, as a number with a sign
abbrev pub number_in : List ℕ → ℤ
number_in bytes = cast_signed w64 (from_be_bytes w64 bytes)

-- and a number as such bytes
abbrev pub bytes_of : ℤ → List ℕ
bytes_of n = to_be_bytes w64 (cast_unsigned w64 n)

-- 64 bits hold the number
abbrev pub is_int64 : ℤ → Bool
is_int64 (pos n) = nat_lt n (2 ^ 63)
is_int64 (negsuc n) = nat_lt n (2 ^ 63)

-- the value after the rule of this index, from the one before, if there is one: an absent value is empty, or zero
abbrev pub value_after : ℕ → Action → Option (List ℕ) → Result (List ℕ) ModifyRefusal
value_after index (Append more) before =
    if nat_le (length (unwrap_or before [] ++ more)) most_of_value then Ok (unwrap_or before [] ++ more) else Err (ValueTooLarge index)
value_after index (Increment amount) None = Ok (bytes_of amount)
value_after index (Increment amount) (Some value) =
    if length value == 8
    then (if is_int64 (number_in value +ℤ amount) then Ok (bytes_of (number_in value +ℤ amount)) else Err (IncrementRange index))
    else Err (NotEightBytes index)

-- ---- cells

-- the first of the cells of a column: the latest, where they are in order
abbrev pub latest_in : List ℕ → List ℕ → List Cell → Option Cell
latest_in family qualifier cells = find (is_in_column family qualifier 0 0) cells

-- the moment, cut down to whole milliseconds, or the time of the cell before where that is later
abbrev pub time_after : ℕ → Option ℕ → ℕ
time_after moment before = max (moment - moment % 1000) (unwrap_or before 0)

-- the new cell of a rule's column, with this value
abbrev pub new_cell : ℕ → ModifyRule → Option Cell → List ℕ → Cell
new_cell moment rule before value = plain rule.family rule.qualifier (time_after moment (option_map (λ c. c.at) before)) value

abbrev pub cell_of : ℕ → ModifyRule → Option Cell → Result (List ℕ) ModifyRefusal → Result Cell ModifyRefusal
cell_of moment rule before (Ok value) = Ok (new_cell moment rule before value)
cell_of moment rule before (Err why) = Err why

-- what a rule makes of the latest cell of its column
abbrev pub cell_after : ℕ → ℕ → ModifyRule → Option Cell → Result Cell ModifyRefusal
cell_after moment index rule before = cell_of moment rule before (value_after index rule.action (option_map (λ c. c.value) before))

-- ---- rules in order

-- family ascending, qualifier ascending
abbrev pub column_cmp : Cell → Cell → Ordering
column_cmp a b = ordering_then (slice_cmp nat_cmp a.family b.family) (slice_cmp nat_cmp a.qualifier b.qualifier)

-- the new cells, in the order of their columns, with a further one in place of that of its column
abbrev pub put_cell : Cell → List Cell → List Cell
put_cell c [] = c ∷ []
put_cell c (d ∷ ds) = match_ordering (column_cmp c d) (c ∷ d ∷ ds) (c ∷ ds) (d ∷ put_cell c ds)

-- the latest cell of a rule's column: a new one, or else one of the row
abbrev pub cell_before : ModifyRule → List Cell → List Cell → Option Cell
cell_before rule made cells = option_or (latest_in rule.family rule.qualifier made) (latest_in rule.family rule.qualifier cells)

abbrev pub go_on : Result Cell ModifyRefusal → (Cell → Result (List Cell) ModifyRefusal) → Result (List Cell) ModifyRefusal
go_on (Ok c) rest = rest c
go_on (Err why) rest = Err why

-- the new cells once these rules, the first of which has that index, follow those that made some: each sees what the ones before it made
abbrev pub made_by : ℕ → List Cell → ℕ → List ModifyRule → List Cell → Result (List Cell) ModifyRefusal
made_by moment cells index [] made = Ok made
made_by moment cells index (rule ∷ rules) made =
    go_on (cell_after moment index rule (cell_before rule made cells)) (λ c. made_by moment cells (index + 1) rules (put_cell c made))

-- the new cells of a row with these cells: one for each column that a rule names, in the order of columns; or the first rule that cannot be carried out
abbrev pub modified : ℕ → List ModifyRule → List Cell → Result (List Cell) ModifyRefusal
modified moment rules cells = made_by moment cells 0 rules []

-- a cell, as a mutation that sets it
abbrev pub set_of : Cell → Mutation
set_of c = SetCell c.family c.qualifier c.at c.value
