-- The chunks of a cell, from the first of them on.
use Rattle.std.specs.Prelude.{ℕ, Bool, false, List, [], ◌∷◌, length, take, drop, Option, Some, None, if◌then◌else◌}
use Rattle.bt_types.specs.declared.cell.Cell.{Cell}
use Rattle.bt_chunks.specs.Chunks.{column_of, first_chunk, further_pieces, is_whole, most_of_piece}
use Rattle.bt_chunks.specs.declared.chunk.Chunk.{Chunk}
use Rattle.bt_chunks.specs.declared.last_column.LastColumn.{LastColumn}

-- the column of the cell before, which is the last one where none of these cells stands before
abbrev pub column_before : Option LastColumn → Option Cell → Option LastColumn
column_before last None = last
column_before last (Some c) = Some (column_of c)

-- the first chunk of a cell, still without its bytes
abbrev pub bare_chunk : List ℕ → Option LastColumn → Cell → Chunk
bare_chunk key before c = first_chunk key before c [] 0 false

-- the chunks of a cell with that value, of which the first is still without its bytes
abbrev pub value_chunks : Chunk → List ℕ → Bool → List Chunk
value_chunks first value last =
    if is_whole value then record first { value = value; size = 0; commit = last } ∷ []
    else record first { value = take most_of_piece value; size = length value; commit = false } ∷ further_pieces (length value) (length value) last (drop most_of_piece value)
