-- The chunks in which a read's answer goes out, and the responses that they are put into (google.bigtable.v2.ReadRowsResponse).
use Rattle.std.specs.Prelude.{ℕ, zero, suc, ◌+◌, ◌==◌, ◌||◌, Bool, true, false, not, nat_le, List, [], ◌∷◌, ◌++◌, length, take, drop, bytes_eq, Option, Some, None, pos, if◌then◌else◌}
use Rattle.std.specs.List.{flat_map}
use Rattle.bt_types.specs.declared.cell.Cell.{Cell}
use Rattle.bt_types.specs.declared.found_row.FoundRow.{FoundRow}
use Rattle.bt_chunks.specs.declared.chunk.Chunk.{Chunk}
use Rattle.bt_chunks.specs.declared.last_column.LastColumn.{LastColumn}

-- ---- the chunks of a cell

-- a value of so many bytes goes out whole; a longer one in pieces of so many, and a last piece
abbrev pub most_of_piece : ℕ
most_of_piece = 65536

abbrev pub is_whole : List ℕ → Bool
is_whole value = nat_le (length value) most_of_piece

-- a further piece of a value: the bytes, with the size of the whole value unless it is the last piece
abbrev pub piece : List ℕ → ℕ → Bool → Chunk
piece value size commit = record { key = []; family = None; qualifier = None; at = pos 0; label = None; value = value; size = size; commit = commit }

-- the further pieces of a value of that size, with its bytes that are left; the row may end with them
abbrev pub further_pieces : ℕ → ℕ → Bool → List ℕ → List Chunk
further_pieces zero size last value = []
further_pieces (suc n) size last value =
    if is_whole value then piece value 0 last ∷ []
    else piece (take most_of_piece value) size false ∷ further_pieces n size last (drop most_of_piece value)

-- no cell stands before in the row
abbrev pub is_first : Option LastColumn → Bool
is_first None = true
is_first (Some p) = false

-- the cell before, if there is one, is of another family
abbrev pub is_new_family : Option LastColumn → Cell → Bool
is_new_family None c = true
is_new_family (Some p) c = not (bytes_eq p.family c.family)

-- the cell before, if there is one, is of another column
abbrev pub is_new_column : Option LastColumn → Cell → Bool
is_new_column None c = true
is_new_column (Some p) c = if bytes_eq p.family c.family then not (bytes_eq p.qualifier c.qualifier) else true

-- x, where it is asked for
abbrev pub where_asked : {A : Type 0} → Bool → A → Option A
where_asked asked x = if asked then Some x else None

-- the first chunk of a cell, after the cell before it in the row
abbrev pub first_chunk : List ℕ → Option LastColumn → Cell → List ℕ → ℕ → Bool → Chunk
first_chunk key before c value size commit = record {
  key = if is_first before then key else [];
  family = where_asked (is_new_family before c) c.family;
  qualifier = where_asked (is_new_column before c) c.qualifier;
  at = pos c.at;
  label = c.label;
  value = value;
  size = size;
  commit = commit;
}

-- the chunks of a cell, after the cell before it; the row may end with it
abbrev pub cell_chunks : List ℕ → Option LastColumn → Cell → Bool → List Chunk
cell_chunks key before c last =
    if is_whole c.value then first_chunk key before c c.value 0 last ∷ []
    else first_chunk key before c (take most_of_piece c.value) (length c.value) false ∷ further_pieces (length c.value) (length c.value) last (drop most_of_piece c.value)

-- ---- the chunks of rows

abbrev pub column_of : Cell → LastColumn
column_of c = record { family = c.family; qualifier = c.qualifier }

-- no cell is left
abbrev pub is_end : List Cell → Bool
is_end cs = length cs == 0

-- the chunks of the cells left of a row, after the column of the cell before them
abbrev pub chunks_of_cells : List ℕ → Option LastColumn → List Cell → List Chunk
chunks_of_cells key before [] = []
chunks_of_cells key before (c ∷ cs) = cell_chunks key before c (is_end cs) ++ chunks_of_cells key (Some (column_of c)) cs

-- the chunks of rows
abbrev pub chunks_of : List FoundRow → List Chunk
chunks_of rows = flat_map (λ r. chunks_of_cells r.key None r.cells) rows

-- ---- responses

-- the bytes of their values
abbrev pub value_bytes : List Chunk → ℕ
value_bytes [] = 0
value_bytes (c ∷ cs) = length c.value + value_bytes cs

-- a response of these chunks takes no more
abbrev pub is_closed : List Chunk → Bool
is_closed cs = nat_le 64 (length cs) || nat_le 65536 (value_bytes cs)

-- one response, or none where there is no chunk
abbrev pub last_response : List Chunk → List (List Chunk)
last_response [] = []
last_response (c ∷ cs) = (c ∷ cs) ∷ []

-- the responses of chunks, put in order behind those that the open response has
abbrev pub packed : List Chunk → List Chunk → List (List Chunk)
packed open_ [] = last_response open_
packed open_ (c ∷ cs) = if is_closed (open_ ++ c ∷ []) then (open_ ++ c ∷ []) ∷ packed [] cs else packed (open_ ++ c ∷ []) cs

-- the responses of chunks: each is closed once it has 64 chunks or 65,536 bytes of values
abbrev pub responses_of : List Chunk → List (List Chunk)
responses_of chunks = packed [] chunks
