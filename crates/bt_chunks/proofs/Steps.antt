-- What a client has after a chunk.
use Rattle.std.proofs.Common.{◌≡◌, ℕ, Bool, true, false, ◌&&◌, ◌==◌, if◌then◌else◌, List, [], ◌∷◌, ◌++◌, Option, Some, None, refl, sym, ap, ◌∙◌}
use Rattle.std.specs.Prelude.{is_some, option_map, option_and_then}
use Rattle.bt_types.specs.Grammar.{is_row_key, lawful}
use Rattle.bt_types.specs.declared.cell.Cell.{Cell}
use Rattle.bt_types.specs.declared.found_row.FoundRow.{FoundRow}
use Rattle.bt_chunks.specs.Joiner.{ended_key, found_of, key_of}
use Rattle.bt_chunks.specs.Joining.{Begun, Part, Client, fits, if_may_follow, is_above, is_piece, is_within_row, joins, last_cell, may_follow, new_cell, row_after, row_begun, row_goes_on, row_with_cell, row_with_piece, settled, with_cell, with_piece}
use Rattle.bt_chunks.specs.declared.chunk.Chunk.{Chunk}

-- ---- the key of the row

cell_key : (key : List ℕ) (p q : Part) (t : Bool) → p.key ≡ key → q.key ≡ key → (λ (r : Part). r.key) (if t then p else q) ≡ key
cell_key key p q true h k = h
cell_key key p q false h k = k

keeps_key : (key : List ℕ) (cells : List Cell) (size : ℕ) (cell : Cell) → (with_cell key cells size cell).key ≡ key
keeps_key key cells size cell =
    cell_key key (record { key = key; cells = cells ++ cell ∷ []; value = None }) (record { key = key; cells = cells; value = Some (record { cell = cell; size = size }) }) (size == 0) refl refl

begun_key : (key : List ℕ) (size : ℕ) (p : Part) (known above : Bool) (cell : Option Cell) → (if known && above then option_map (with_cell key [] size) cell else None) ≡ Some p →
    (if known then Some key else None) ≡ Some p.key
begun_key key size p true true (Some cell) h = let same : with_cell key [] size cell ≡ p = cc h in ap (λ k. Some k) (sym (keeps_key key [] size cell) ∙ ap (λ (p : Part). p.key) same)
begun_key key size p true true None h = cc h
begun_key key size p true false cell h = cc h
begun_key key size p false above cell h = cc h

follow_key : (old p : Part) (c : Chunk) (cell : Cell) (t : Bool) → (if t then Some (with_cell old.key old.cells c.size cell) else None) ≡ Some p → old.key ≡ p.key
follow_key old p c cell true h = let same : with_cell old.key old.cells c.size cell ≡ p = cc h in sym (keeps_key old.key old.cells c.size cell) ∙ ap (λ (p : Part). p.key) same
follow_key old p c cell false h = cc h

within_key : (old p : Part) (c : Chunk) (t : Bool) (cell : Option Cell) → (if t then option_and_then (if_may_follow old c) cell else None) ≡ Some p → old.key ≡ p.key
within_key old p c true (Some cell) h = follow_key old p c cell (may_follow (last_cell old.cells) cell) h
within_key old p c true None h = cc h
within_key old p c false cell h = cc h

goes_on_key : (old p : Part) (value : Option Begun) (c : Chunk) → row_goes_on old value c ≡ Some p → old.key ≡ p.key
goes_on_key old p None c h = within_key old p c (is_within_row c) (new_cell (last_cell old.cells) c) h
goes_on_key old p (Some b) c h = follow_key old p c (with_piece b c.value) (is_piece c && fits b c) h

key_after : (before : Option (List ℕ)) (row : Option Part) (c : Chunk) (p : Part) → row_after before row c ≡ Some p → key_of row c ≡ Some p.key
key_after before None c p h = begun_key c.key c.size p (is_row_key c.key) (is_above before c.key) (new_cell None c) h
key_after before (Some old) c p h = ap (λ k. Some k) (goes_on_key old p old.value c h)

-- ---- where the chunk has a place

joins_as : (client : Client) (c : Chunk) (p : Part) (t : Bool) → row_after client.before client.row c ≡ Some p → c.commit ≡ t → joins client c ≡ Some (settled client t p)
joins_as client c p t h e = ap (option_map (settled client c.commit)) h ∙ ap (λ t. Some (settled client t p)) e

-- the chunk does not end the row
pub going : (client : Client) (c : Chunk) (row : Option Part) → row_after client.before client.row c ≡ row → is_some row ≡ true → c.commit ≡ false →
    joins client c ≡ Some (record { before = client.before; row = row }, None)
going client c None h some e = cc some
going client c (Some p) h some e = joins_as client c p false h e

abbrev ended : Option (List ℕ) → Part → Option (Client × Option FoundRow)
ended before p = Some (record { before = before; row = None }, Some (found_of p))

-- the chunk ends the row
pub ending : (client : Client) (c : Chunk) (row : Option Part) (key : Option (List ℕ)) → row_after client.before client.row c ≡ row → is_some row ≡ true → c.commit ≡ true → key ≡ ended_key client.row c →
    joins client c ≡ Some (record { before = key; row = None }, option_map found_of row)
ending client c None key h some e k = cc some
ending client c (Some p) key h some e k =
    let same : key ≡ Some p.key = k ∙ ap (λ t. if t then key_of client.row c else None) e ∙ key_after client.before client.row c p h in
    joins_as client c p true h e ∙ ap (λ (b : Option (List ℕ)). ended b p) (sym same)
