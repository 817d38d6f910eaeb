-- The rows that a client puts together from chunks (google.bigtable.v2.ReadRowsResponse.CellChunk).
use Rattle.std.specs.Prelude.{◌≡◌, ℕ, ◌+◌, ◌==◌, ◌&&◌, ◌||◌, Bool, true, false, not, nat_lt, List, [], ◌∷◌, ◌++◌, length, map, Option, Some, None, option_map, option_and_then, is_none, ℤ, pos, negsuc, if◌then◌else◌, IsTrue}
use Rattle.std.specs.List.{AllByRecursion}
use Rattle.std.specs.List.Sorted.{IsStrictlySortedBy}
use Rattle.std.specs.Ordering.{nat_cmp, is_gt, is_lt}
use Rattle.std.specs.Cmp.Lexicographic.{slice_cmp}
use Rattle.bt_types.specs.Cells.{AreInOrder, cell_cmp}
use Rattle.bt_types.specs.Grammar.{is_family_name, is_label, is_qualifier, is_row_key, lawful}
use Rattle.bt_types.specs.Time.{is_micros, micros_of}
use Rattle.bt_types.specs.declared.cell.Cell.{Cell}
use Rattle.bt_types.specs.declared.found_row.FoundRow.{FoundRow}
use Rattle.bt_chunks.specs.Chunks.{chunks_of, is_end}
use Rattle.bt_chunks.specs.declared.chunk.Chunk.{Chunk}

-- ---- what a client has

abbrev pub is_zero : ℤ → Bool
is_zero (pos n) = n == 0
is_zero (negsuc n) = false

-- a value of which pieces are to come: its cell with the bytes so far, and the size of the whole
pub record Begun : Type 0 where
  pub cell : Cell
  pub size : ℕ

-- a row of which chunks are to come: its key, its whole cells so far, and the value that is begun
pub record Part : Type 0 where
  pub key : List ℕ
  pub cells : List Cell
  pub value : Option Begun

-- what a client has of the chunks so far: the key of the last whole row, and the row that is begun
pub record Client : Type 0 where
  pub before : Option (List ℕ)
  pub row : Option Part

abbrev pub new_client : Client
new_client = record { before = None; row = None }

-- ---- a chunk that begins a cell

-- nothing, or what passes
abbrev pub is_lawful_or_none : (List ℕ → Bool) → Option (List ℕ) → Bool
is_lawful_or_none p None = true
is_lawful_or_none p (Some b) = p b

-- the name that the chunk gives, where it is lawful, or the one of the cell before where it gives none
abbrev pub named : (List ℕ → Bool) → Option (List ℕ) → Option (List ℕ) → Option (List ℕ)
named p (Some b) before = lawful p b
named p None before = before

-- it has the whole value, or of a split one at least 1 byte and not all; only a whole value may end the row
abbrev pub begins_value : Chunk → Bool
begins_value c = c.size == 0 || (nat_lt 0 (length c.value) && nat_lt (length c.value) c.size && not c.commit)

abbrev pub cell_of : Option (List ℕ) → Option (List ℕ) → Option ℕ → Chunk → Option Cell
cell_of (Some family) (Some qualifier) (Some at) c = Some (record { family = family; qualifier = qualifier; at = at; value = c.value; label = c.label })
cell_of (Some family) (Some qualifier) None c = None
cell_of (Some family) None at c = None
cell_of None qualifier at c = None

-- the cell that the chunk begins, with its bytes: what it does not name is as in the cell before
abbrev pub new_cell : Option Cell → Chunk → Option Cell
new_cell before c =
    if is_lawful_or_none is_label c.label && begins_value c
    then cell_of (named is_family_name c.family (option_map (λ p. p.family) before)) (named is_qualifier c.qualifier (option_map (λ p. p.qualifier) before)) (micros_of c.at) c
    else None

-- ---- the row after a chunk, where the chunk has a place

-- the row with a further cell: a whole one where no size is told, or else one of that size that is begun
abbrev pub with_cell : List ℕ → List Cell → ℕ → Cell → Part
with_cell key cells size cell =
    if size == 0 then record { key = key; cells = cells ++ cell ∷ []; value = None }
    else record { key = key; cells = cells; value = Some (record { cell = cell; size = size }) }

-- there is no key before, or this one is above it
abbrev pub is_above : Option (List ℕ) → List ℕ → Bool
is_above None key = true
is_above (Some before) key = is_lt (slice_cmp nat_cmp before key)

-- the row that the chunk begins, behind the row with that key
abbrev pub row_begun : Option (List ℕ) → Chunk → Option Part
row_begun before c = if is_row_key c.key && is_above before c.key then option_map (with_cell c.key [] c.size) (new_cell None c) else None

abbrev pub last_cell : List Cell → Option Cell
last_cell [] = None
last_cell (c ∷ []) = Some c
last_cell (c ∷ d ∷ cs) = last_cell (d ∷ cs)

-- the cell is not below the one before
abbrev pub may_follow : Option Cell → Cell → Bool
may_follow None c = true
may_follow (Some before) c = not (is_gt (cell_cmp before c))

-- within a row there is no key, and a family only with a qualifier
abbrev pub is_within_row : Chunk → Bool
is_within_row c = (length c.key == 0) && (is_none c.family || not (is_none c.qualifier))

abbrev pub if_may_follow : Part → Chunk → Cell → Option Part
if_may_follow p c cell = if may_follow (last_cell p.cells) cell then Some (with_cell p.key p.cells c.size cell) else None

-- the row with the cell that the chunk begins
abbrev pub row_with_cell : Part → Chunk → Option Part
row_with_cell p c = if is_within_row c then option_and_then (if_may_follow p c) (new_cell (last_cell p.cells) c) else None

-- within a value nothing else is set
abbrev pub is_piece : Chunk → Bool
is_piece c = (length c.key == 0) && is_none c.family && is_none c.qualifier && is_none c.label && is_zero c.at

-- the piece leaves bytes to come and tells the size, or completes the value and tells none
abbrev pub fits : Begun → Chunk → Bool
fits b c =
    if length b.cell.value + length c.value == b.size then c.size == 0
    else nat_lt (length b.cell.value + length c.value) b.size && (c.size == b.size) && not c.commit

-- the cell with a further piece of its value
abbrev pub with_piece : Begun → List ℕ → Cell
with_piece b bytes = record b.cell { value = b.cell.value ++ bytes }

-- the row with a further piece of the value that is begun
abbrev pub row_with_piece : Part → Begun → Chunk → Option Part
row_with_piece p b c = if is_piece c && fits b c then Some (with_cell p.key p.cells c.size (with_piece b c.value)) else None

abbrev pub row_goes_on : Part → Option Begun → Chunk → Option Part
row_goes_on p None c = row_with_cell p c
row_goes_on p (Some b) c = row_with_piece p b c

abbrev pub row_after : Option (List ℕ) → Option Part → Chunk → Option Part
row_after before None c = row_begun before c
row_after before (Some p) c = row_goes_on p p.value c

-- ---- the rows of chunks

-- what the client has then, and the row that is whole where the chunk ends it
abbrev pub settled : Client → Bool → Part → Client × Option FoundRow
settled client true p = (record { before = Some p.key; row = None }, Some (record { key = p.key; cells = p.cells }))
settled client false p = (record { before = client.before; row = Some p }, None)

-- what the client has after the chunk, and the row that it completes; none where the chunk has no place
abbrev pub joins : Client → Chunk → Option (Client × Option FoundRow)
joins client c = option_map (settled client c.commit) (row_after client.before client.row c)

abbrev pub row_before : Option FoundRow → List FoundRow → List FoundRow
row_before None rows = rows
row_before (Some r) rows = r ∷ rows

-- the rows that the client reads from there on; none where a chunk has no place, or the last row does not end
abbrev pub rows_from : Client → List Chunk → Option (List FoundRow)
rows_from client [] = if is_none client.row then Some [] else None
rows_from client (c ∷ cs) = option_and_then (λ next. option_map (row_before next.1) (rows_from next.0 cs)) (joins client c)

-- the rows that a client reads
abbrev pub joined : List Chunk → Option (List FoundRow)
joined chunks = rows_from new_client chunks

-- ---- the law

-- a cell of an answer: its names, its timestamp and its label are lawful
pub record IsLawfulCell (c : Cell) : Type 0 where
  pub family : IsTrue (is_family_name c.family)
  pub qualifier : IsTrue (is_qualifier c.qualifier)
  pub at : IsTrue (is_micros c.at)
  pub label : IsTrue (is_lawful_or_none is_label c.label)

-- a row of an answer: it has cells, in order
pub record IsFoundRow (r : FoundRow) : Type 0 where
  pub key : IsTrue (is_row_key r.key)
  pub filled : is_end r.cells ≡ false
  pub ordered : AreInOrder r.cells
  pub lawful : AllByRecursion IsLawfulCell r.cells

-- an answer: such rows, in the order of their keys
pub record IsAnswer (rows : List FoundRow) : Type 0 where
  pub sorted : IsStrictlySortedBy (slice_cmp nat_cmp) (map (λ r. r.key) rows)
  pub each : AllByRecursion IsFoundRow rows

-- a client reads from the chunks of an answer the rows of the answer
abbrev pub ChunksJoin : Type 0
ChunksJoin = (rows : List FoundRow) → IsAnswer rows → joined (chunks_of rows) ≡ Some rows
