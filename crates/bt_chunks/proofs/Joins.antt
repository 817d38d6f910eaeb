-- What a client reads from the chunks of an answer.
use Rattle.std.proofs.Common.{◌≡◌, ℕ, zero, suc, ◌+◌, ◌%◌, ◌^◌, ◌<◌, ◌≤◌, Bool, true, false, true≢false, not, ◌&&◌, ◌||◌, ◌==◌, if◌then◌else◌, List, [], ◌∷◌, ◌++◌, length, take, drop, append_assoc, Option, Some, None, arith, refl, sym, ap, ◌∙◌, subst, length-take, length-drop, length-append}
use Rattle.std.specs.Prelude.{IsTrue, map, bytes_eq, nat_le, nat_lt, option_map, option_and_then, is_none, pos}
use Rattle.std.specs.List.{AllByRecursion, flat_map}
use Rattle.std.specs.List.Sorted.{IsStrictlySortedBy}
use Rattle.std.specs.Ordering.{is_gt, is_lt, nat_cmp}
use Rattle.std.specs.Cmp.Lexicographic.{slice_cmp}
use Rattle.std.specs.declared.cmp.Ordering.{Ordering}
use Rattle.std.specs.declared.cmp.Ordering.TheVariants.{Less}
use Rattle.std.proofs.lemmas.Bool.{and_from, and_parts, cond-true, eq-eqb, ne_eqb, lt-ltb, leb-false}
use Rattle.std.proofs.lemmas.List.{append-nil, take-append-drop}
use Rattle.std.proofs.lemmas.List.Concat.{flat_map-cons}
use Rattle.std.proofs.lemmas.Map.Keys.{sorted_head, sorted_tail}
use Rattle.std.proofs.lemmas.Slice.Eq.{bytes_eq-Decides}
use Rattle.bt_types.specs.Cells.{AreInOrder, IsPastNone, cell_cmp}
use Rattle.bt_types.specs.Grammar.{is_family_name, is_label, is_qualifier, is_row_key, lawful}
use Rattle.bt_types.specs.Time.{is_micros, micros_of}
use Rattle.bt_types.specs.declared.cell.Cell.{Cell}
use Rattle.bt_types.specs.declared.found_row.FoundRow.{FoundRow}
use Rattle.bt_chunks.specs.Chunks.{most_of_piece, is_whole, piece, further_pieces, is_new_column, is_new_family, where_asked, first_chunk, cell_chunks, column_of, is_end, chunks_of_cells, chunks_of}
use Rattle.bt_chunks.specs.Joining.{Begun, Part, Client, new_client, is_lawful_or_none, named, begins_value, cell_of, new_cell, with_cell, is_above, row_begun, last_cell, may_follow, is_within_row, if_may_follow, row_with_cell, is_piece, fits, row_with_piece, row_after, settled, joins, row_before, rows_from, IsLawfulCell, IsFoundRow, IsAnswer, ChunksJoin}
use Rattle.bt_chunks.specs.declared.chunk.Chunk.{Chunk}
use Rattle.bt_chunks.specs.declared.last_column.LastColumn.{LastColumn}

-- ---- one chunk

-- what a client reads behind a chunk that leaves that row
abbrev reads_on : Option (List ℕ) → Bool → Part → List Chunk → Option (List FoundRow)
reads_on before true p cs = option_map (row_before (Some (record { key = p.key; cells = p.cells }))) (rows_from (record { before = Some p.key; row = None }) cs)
reads_on before false p cs = rows_from (record { before = before; row = Some p }) cs

no_row : (rows : Option (List FoundRow)) → option_map (row_before None) rows ≡ rows
no_row None = refl
no_row (Some rows) = refl

settles : (client : Client) (commit : Bool) (p : Part) (cs : List Chunk) →
    option_map (row_before (settled client commit p).1) (rows_from (settled client commit p).0 cs) ≡ reads_on client.before commit p cs
settles client true p cs = refl
settles client false p cs = no_row (rows_from (record { before = client.before; row = Some p }) cs)

step : (client : Client) (c : Chunk) (p : Part) (cs : List Chunk) → row_after client.before client.row c ≡ Some p → rows_from client (c ∷ cs) ≡ reads_on client.before c.commit p cs
step client c p cs h =
    ap (λ (row : Option Part). option_and_then (λ (next : Client × Option FoundRow). option_map (row_before next.1) (rows_from next.0 cs)) (option_map (settled client c.commit) row)) h
    ∙ settles client c.commit p cs

-- ---- the pieces of a value

-- a row of whole cells
abbrev whole : List ℕ → List Cell → Part
whole key cells = record { key = key; cells = cells; value = None }

-- a row with a value of that size that is begun
abbrev begun : List ℕ → List Cell → Cell → ℕ → Part
begun key cells cell size = record { key = key; cells = cells; value = Some (record { cell = cell; size = size }) }

abbrev with_value : Cell → List ℕ → Cell
with_value cell value = record cell { value = value }

begun_with : (key : List ℕ) (cells : List Cell) (size : ℕ) (cell : Cell) → 0 < size → with_cell key cells size cell ≡ begun key cells cell size
begun_with key cells size cell h = let some : size == 0 ≡ false = ne_eqb size 0 (λ e. omega arith) in ap (λ t. if t then whole key (cells ++ cell ∷ []) else begun key cells cell size) some

last_fits : (b : Begun) (c : Chunk) → length b.cell.value + length c.value ≡ b.size → c.size ≡ 0 → fits b c ≡ true
last_fits b c all none = cond-true (length b.cell.value + length c.value == b.size) _ _ (eq-eqb _ _ all) ∙ eq-eqb c.size 0 none

part_fits : (b : Begun) (c : Chunk) → length b.cell.value + length c.value < b.size → c.size ≡ b.size → c.commit ≡ false → fits b c ≡ true
part_fits b c part told none =
    ap (λ t. if t then c.size == 0 else nat_lt (length b.cell.value + length c.value) b.size && (c.size == b.size) && not c.commit) (ne_eqb _ _ (λ e. omega arith))
    ∙ and_from _ _ (and_from _ _ (lt-ltb _ _ part) (eq-eqb _ _ told)) (ap not none)

last_piece : (key : List ℕ) (cells : List Cell) (cell : Cell) (size : ℕ) (value : List ℕ) (last : Bool) → length cell.value + length value ≡ size →
    row_with_piece (begun key cells cell size) (record { cell = cell; size = size }) (piece value 0 last) ≡ Some (whole key (cells ++ with_value cell (cell.value ++ value) ∷ []))
last_piece key cells cell size value last all = cond-true _ _ _ (last_fits (record { cell = cell; size = size }) (piece value 0 last) all refl)

middle_piece : (key : List ℕ) (cells : List Cell) (cell : Cell) (size : ℕ) (value : List ℕ) → length cell.value + length value < size →
    row_with_piece (begun key cells cell size) (record { cell = cell; size = size }) (piece value size false) ≡ Some (begun key cells (with_value cell (cell.value ++ value)) size)
middle_piece key cells cell size value part =
    cond-true _ _ _ (part_fits (record { cell = cell; size = size }) (piece value size false) part refl refl)
    ∙ ap (λ p. Some p) (begun_with key cells size (with_value cell (cell.value ++ value)) (omega arith))

-- the client reads the value that is begun whole from at most so many further pieces
abbrev PiecesRead : ℕ → Type 0
PiecesRead n = (before : Option (List ℕ)) (key : List ℕ) (cells : List Cell) (cell : Cell) (size : ℕ) (last : Bool) (value : List ℕ) (rest : List Chunk) →
    length value ≤ n → 0 < length value → length cell.value + length value ≡ size →
    rows_from (record { before = before; row = Some (begun key cells cell size) }) (further_pieces n size last value ++ rest)
    ≡ reads_on before last (whole key (cells ++ with_value cell (cell.value ++ value) ∷ [])) rest

pieces_by : (n : ℕ) → PiecesRead n → (before : Option (List ℕ)) (key : List ℕ) (cells : List Cell) (cell : Cell) (size : ℕ) (last : Bool) (value : List ℕ) (rest : List Chunk) (t : Bool) →
    is_whole value ≡ t → length value ≤ suc n → 0 < length value → length cell.value + length value ≡ size →
    rows_from (record { before = before; row = Some (begun key cells cell size) })
    ((if t then piece value 0 last ∷ [] else piece (take most_of_piece value) size false ∷ further_pieces n size last (drop most_of_piece value)) ++ rest)
    ≡ reads_on before last (whole key (cells ++ with_value cell (cell.value ++ value) ∷ [])) rest
pieces_by n again before key cells cell size last value rest true e up some all =
    step (record { before = before; row = Some (begun key cells cell size) }) (piece value 0 last) (whole key (cells ++ with_value cell (cell.value ++ value) ∷ [])) rest
    (last_piece key cells cell size value last all)
pieces_by n again before key cells cell size last value rest false e up some all =
    let long : most_of_piece < length value = leb-false _ _ e in
    let front : length (take most_of_piece value) ≡ most_of_piece = omega (arith, length-take most_of_piece value) in
    let back : length (drop most_of_piece value) + most_of_piece ≡ length value = omega (arith, length-drop most_of_piece value) in
    let so_far : length (cell.value ++ take most_of_piece value) ≡ length cell.value + most_of_piece = omega (arith, length-append cell.value (take most_of_piece value)) in
    step (record { before = before; row = Some (begun key cells cell size) }) (piece (take most_of_piece value) size false)
    (begun key cells (with_value cell (cell.value ++ take most_of_piece value)) size) (further_pieces n size last (drop most_of_piece value) ++ rest)
    (middle_piece key cells cell size (take most_of_piece value) (omega arith))
    ∙ again before key cells (with_value cell (cell.value ++ take most_of_piece value)) size last (drop most_of_piece value) rest (omega arith) (omega arith) (omega arith)
    ∙ ap (λ v. reads_on before last (whole key (cells ++ with_value cell v ∷ [])) rest)
    (append_assoc cell.value (take most_of_piece value) (drop most_of_piece value) ∙ ap (λ v. cell.value ++ v) (take-append-drop most_of_piece value))

pieces_read : (n : ℕ) → PiecesRead n
pieces_read zero before key cells cell size last value rest up some all = absurd (omega arith)
pieces_read (suc n) before key cells cell size last value rest up some all =
    pieces_by n (pieces_read n) before key cells cell size last value rest (is_whole value) refl up some all

-- ---- a cell

-- the first chunk of the cell begins it, behind the cells that the row has
record Starts (client : Client) (key : List ℕ) (done : List Cell) (before : Option LastColumn) (c : Cell) : Type 0 where
  starts : (value : List ℕ) (size : ℕ) (commit : Bool) → begins_value (first_chunk key before c value size commit) ≡ true →
      row_after client.before client.row (first_chunk key before c value size commit) ≡ Some (with_cell key done size (with_value c value))

cell_by : (client : Client) (key : List ℕ) (done : List Cell) (before : Option LastColumn) (c : Cell) (last : Bool) (rest : List Chunk) → Starts client key done before c → (t : Bool) → is_whole c.value ≡ t →
    rows_from client ((if t then first_chunk key before c c.value 0 last ∷ []
    else first_chunk key before c (take most_of_piece c.value) (length c.value) false ∷ further_pieces (length c.value) (length c.value) last (drop most_of_piece c.value)) ++ rest)
    ≡ reads_on client.before last (whole key (done ++ c ∷ [])) rest
cell_by client key done before c last rest s true e = step client (first_chunk key before c c.value 0 last) (whole key (done ++ c ∷ [])) rest (s.starts c.value 0 last refl)
cell_by client key done before c last rest s false e =
    let long : most_of_piece < length c.value = leb-false _ _ e in
    let front : length (take most_of_piece c.value) ≡ most_of_piece = omega (arith, length-take most_of_piece c.value) in
    let back : length (drop most_of_piece c.value) + most_of_piece ≡ length c.value = omega (arith, length-drop most_of_piece c.value) in
    let sized : length c.value == 0 ≡ false = ne_eqb _ _ (λ e. omega arith) in
    let first = first_chunk key before c (take most_of_piece c.value) (length c.value) false in
    let begins : begins_value first ≡ true =
    ap (λ t. t || (nat_lt 0 (length (take most_of_piece c.value)) && nat_lt (length (take most_of_piece c.value)) (length c.value) && true)) sized
    ∙ and_from _ _ (and_from _ _ (lt-ltb 0 (length (take most_of_piece c.value)) (omega arith)) (lt-ltb (length (take most_of_piece c.value)) (length c.value) (omega arith))) refl in
    step client first (begun key done (with_value c (take most_of_piece c.value)) (length c.value)) (further_pieces (length c.value) (length c.value) last (drop most_of_piece c.value) ++ rest)
    (s.starts (take most_of_piece c.value) (length c.value) false begins
    ∙ ap (λ p. Some p) (begun_with key done (length c.value) (with_value c (take most_of_piece c.value)) (omega arith)))
    ∙ pieces_read (length c.value) client.before key done (with_value c (take most_of_piece c.value)) (length c.value) last (drop most_of_piece c.value) rest (omega arith) (omega arith) (omega arith)
    ∙ ap (λ v. reads_on client.before last (whole key (done ++ with_value c v ∷ [])) rest) (take-append-drop most_of_piece c.value)

cell_read : (client : Client) (key : List ℕ) (done : List Cell) (before : Option LastColumn) (c : Cell) (last : Bool) (rest : List Chunk) → Starts client key done before c →
    rows_from client (cell_chunks key before c last ++ rest) ≡ reads_on client.before last (whole key (done ++ c ∷ [])) rest
cell_read client key done before c last rest s = cell_by client key done before c last rest s (is_whole c.value) refl

-- ---- the first chunk of a cell

begins_cell : (before : Option Cell) (c : Chunk) (family qualifier : List ℕ) (at : ℕ) → is_lawful_or_none is_label c.label ≡ true → begins_value c ≡ true →
    named is_family_name c.family (option_map (λ (p : Cell). p.family) before) ≡ Some family → named is_qualifier c.qualifier (option_map (λ (p : Cell). p.qualifier) before) ≡ Some qualifier →
    micros_of c.at ≡ Some at → new_cell before c ≡ Some (record { family = family; qualifier = qualifier; at = at; value = c.value; label = c.label })
begins_cell before c family qualifier at labelled begins in_family in_column timed =
    cond-true (is_lawful_or_none is_label c.label && begins_value c) _ _ (and_from _ _ labelled begins)
    ∙ ap (λ f. cell_of f (named is_qualifier c.qualifier (option_map (λ (p : Cell). p.qualifier) before)) (micros_of c.at) c) in_family
    ∙ ap (λ q. cell_of (Some family) q (micros_of c.at) c) in_column
    ∙ ap (λ t. cell_of (Some family) (Some qualifier) t c) timed

is_lawful : (p : List ℕ → Bool) (b : List ℕ) → p b ≡ true → lawful p b ≡ Some b
is_lawful p b h = cond-true (p b) (Some b) None h

family_by : (p : List ℕ → Bool) (x y : List ℕ) (t : Bool) → p y ≡ true → bytes_eq x y ≡ t → named p (where_asked (not t) y) (Some x) ≡ Some y
family_by p x y true h e = ap (λ b. Some b) ((bytes_eq-Decides x y).0 e)
family_by p x y false h e = is_lawful p y h

column_by : (p : List ℕ → Bool) (x y : List ℕ) (s t : Bool) → p y ≡ true → bytes_eq x y ≡ t → named p (where_asked (if s then not t else true) y) (Some x) ≡ Some y
column_by p x y true t h e = family_by p x y t h e
column_by p x y false t h e = is_lawful p y h

within_by : (x y : List ℕ) (s t : Bool) → is_none (where_asked (not s) x) || not (is_none (where_asked (if s then not t else true) y)) ≡ true
within_by x y true t = refl
within_by x y false t = refl

lawful_time : (n : ℕ) → is_micros n ≡ true → micros_of (pos n) ≡ Some n
lawful_time n h = cond-true (n % 1000 == 0) (Some n) None (and_parts (n % 1000 == 0) (nat_lt n (2 ^ 63)) h).0

-- the cell begins a row
starts_row : (before : Option (List ℕ)) (key : List ℕ) (c : Cell) → is_row_key key ≡ true → is_above before key ≡ true → IsLawfulCell c →
    Starts (record { before = before; row = None }) key [] None c
starts_row before key c lawful above h = record {
  starts = λ value size commit begins.
      cond-true (is_row_key key && is_above before key) _ _ (and_from _ _ lawful above)
      ∙ ap (option_map (with_cell key [] size))
      (begins_cell None (first_chunk key None c value size commit) c.family c.qualifier c.at h.label begins (is_lawful is_family_name c.family h.family) (is_lawful is_qualifier c.qualifier h.qualifier) (lawful_time c.at h.at));
}

-- the cell stands behind others of its row
starts_within : (before : Option (List ℕ)) (key : List ℕ) (done : List Cell) (d c : Cell) → last_cell done ≡ Some d → is_gt (cell_cmp d c) ≡ false → IsLawfulCell c →
    Starts (record { before = before; row = Some (whole key done) }) key done (Some (column_of d)) c
starts_within before key done d c last follows h = record {
  starts = λ value size commit begins.
      let first = first_chunk key (Some (column_of d)) c value size commit in
      let in_family = family_by is_family_name d.family c.family (bytes_eq d.family c.family) h.family refl in
      let in_column = column_by is_qualifier d.qualifier c.qualifier (bytes_eq d.family c.family) (bytes_eq d.qualifier c.qualifier) h.qualifier refl in
      let may : may_follow (last_cell done) (with_value c value) ≡ true = ap (λ (l : Option Cell). may_follow l (with_value c value)) last ∙ ap not follows in
      cond-true (is_within_row first) _ _ (within_by c.family c.qualifier (bytes_eq d.family c.family) (bytes_eq d.qualifier c.qualifier))
      ∙ ap (λ (l : Option Cell). option_and_then (if_may_follow (whole key done) first) (new_cell l first)) last
      ∙ ap (option_and_then (if_may_follow (whole key done) first))
      (begins_cell (Some d) first c.family c.qualifier c.at h.label begins in_family in_column (lawful_time c.at h.at))
      ∙ cond-true (may_follow (last_cell done) (with_value c value)) _ _ may;
}

-- ---- a row

last_of_more : (cs : List Cell) (c : Cell) → last_cell (cs ++ c ∷ []) ≡ Some c
last_of_more [] c = refl
last_of_more (d ∷ []) c = refl
last_of_more (d ∷ e ∷ es) c = last_of_more (e ∷ es) c

-- what a client reads from there on, behind the whole row
abbrev reads_row : List ℕ → List Cell → List Chunk → Option (List FoundRow)
reads_row key cells rest = option_map (row_before (Some (record { key = key; cells = cells }))) (rows_from (record { before = Some key; row = None }) rest)

-- the chunks of a cell that is not the last one
not_last : (key : List ℕ) (before : Option LastColumn) (c e : Cell) (es : List Cell) (rest : List Chunk) →
    chunks_of_cells key before (c ∷ e ∷ es) ++ rest ≡ cell_chunks key before c false ++ (chunks_of_cells key (Some (column_of c)) (e ∷ es) ++ rest)
not_last key before c e es rest =
    let more : is_end (e ∷ es) ≡ false = ne_eqb (length (e ∷ es)) 0 (λ h. omega arith) in
    ap (λ t. (cell_chunks key before c t ++ chunks_of_cells key (Some (column_of c)) (e ∷ es)) ++ rest) more
    ∙ append_assoc (cell_chunks key before c false) (chunks_of_cells key (Some (column_of c)) (e ∷ es)) rest

cells_read : (before : Option (List ℕ)) (key : List ℕ) (done : List Cell) (d c : Cell) (cs : List Cell) (rest : List Chunk) →
    last_cell done ≡ Some d → is_gt (cell_cmp d c) ≡ false → AreInOrder (c ∷ cs) → AllByRecursion IsLawfulCell (c ∷ cs) →
    rows_from (record { before = before; row = Some (whole key done) }) (chunks_of_cells key (Some (column_of d)) (c ∷ cs) ++ rest) ≡ reads_row key (done ++ c ∷ cs) rest
cells_read before key done d c [] rest last follows ordered lawful =
    let client : Client = record { before = before; row = Some (whole key done) } in
    ap (λ l. rows_from client (l ++ rest)) (append-nil (cell_chunks key (Some (column_of d)) c true))
    ∙ cell_read client key done (Some (column_of d)) c true rest (starts_within before key done d c last follows lawful.0)
cells_read before key done d c (e ∷ es) rest last follows ordered lawful =
    let client : Client = record { before = before; row = Some (whole key done) } in
    let left = chunks_of_cells key (Some (column_of c)) (e ∷ es) in
    ap (rows_from client) (not_last key (Some (column_of d)) c e es rest)
    ∙ cell_read client key done (Some (column_of d)) c false (left ++ rest) (starts_within before key done d c last follows lawful.0)
    ∙ cells_read before key (done ++ c ∷ []) c e es rest (last_of_more done c) ordered.0.0 ordered.1 lawful.1
    ∙ ap (λ cells. reads_row key cells rest) (append_assoc done (c ∷ []) (e ∷ es))

row_read : (before : Option (List ℕ)) (key : List ℕ) (cells : List Cell) (rest : List Chunk) → is_row_key key ≡ true → is_above before key ≡ true →
    is_end cells ≡ false → AreInOrder cells → AllByRecursion IsLawfulCell cells →
    rows_from (record { before = before; row = None }) (chunks_of_cells key None cells ++ rest) ≡ reads_row key cells rest
row_read before key [] rest known above filled ordered lawful = absurd (true≢false filled)
row_read before key (c ∷ []) rest known above filled ordered lawful =
    let client : Client = record { before = before; row = None } in
    ap (λ l. rows_from client (l ++ rest)) (append-nil (cell_chunks key None c true))
    ∙ cell_read client key [] None c true rest (starts_row before key c known above lawful.0)
row_read before key (c ∷ e ∷ es) rest known above filled ordered lawful =
    let client : Client = record { before = before; row = None } in
    let left = chunks_of_cells key (Some (column_of c)) (e ∷ es) in
    ap (rows_from client) (not_last key None c e es rest)
    ∙ cell_read client key [] None c false (left ++ rest) (starts_row before key c known above lawful.0)
    ∙ cells_read before key (c ∷ []) c e es rest refl ordered.0.0 ordered.1 lawful.1

-- ---- an answer

-- the first row is above the key before
abbrev BeginsAbove : Option (List ℕ) → List FoundRow → Type 0
BeginsAbove before [] = Unit {0}
BeginsAbove before (r ∷ rs) = is_above before r.key ≡ true

begins_above : (key : List ℕ) (rows : List FoundRow) → AllByRecursion (λ k. slice_cmp nat_cmp key k ≡ Less) (map (λ (r : FoundRow). r.key) rows) → BeginsAbove (Some key) rows
begins_above key [] h = tt
begins_above key (r ∷ rs) h = ap is_lt h.0

rows_read : (before : Option (List ℕ)) (rows : List FoundRow) → IsStrictlySortedBy (slice_cmp nat_cmp) (map (λ (r : FoundRow). r.key) rows) → AllByRecursion IsFoundRow rows → BeginsAbove before rows →
    rows_from (record { before = before; row = None }) (chunks_of rows) ≡ Some rows
rows_read before [] sorted each above = refl
rows_read before (r ∷ rs) sorted each above =
    let client : Client = record { before = before; row = None } in
    let later = begins_above r.key rs (sorted_head (slice_cmp nat_cmp) r.key (map (λ (r : FoundRow). r.key) rs) sorted) in
    ap (rows_from client) (flat_map-cons (λ (r : FoundRow). chunks_of_cells r.key None r.cells) r rs)
    ∙ row_read before r.key r.cells (chunks_of rs) each.0.key above each.0.filled each.0.ordered each.0.lawful
    ∙ ap (option_map (row_before (Some r))) (rows_read (Some r.key) rs (sorted_tail (slice_cmp nat_cmp) r.key (map (λ (r : FoundRow). r.key) rs) sorted) each.1 later)

first_above : (rows : List FoundRow) → BeginsAbove None rows
first_above [] = tt
first_above (r ∷ rs) = refl

pub chunks_join : ChunksJoin
chunks_join rows answer = rows_read None rows answer.sorted answer.each (first_above rows)
