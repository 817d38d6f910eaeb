-- What a joiner of chunks answers.
use Rattle.std.specs.Prelude.{◌≡◌, ◌⊎◌, ℕ, Bool, true, false, List, Option, Some, None, Result, Ok, Err, is_some, IsTrue, if◌then◌else◌}
use Rattle.bt_base.specs.Counts.{counted}
use Rattle.bt_types.specs.Grammar.{is_row_key, lawful}
use Rattle.bt_types.specs.declared.found_row.FoundRow.{FoundRow}
use Rattle.bt_chunks.specs.Joining.{Client, Part, joins, new_client}
use Rattle.bt_chunks.specs.declared.chunk.Chunk.{Chunk}
use Rattle.bt_chunks.specs.declared.chunk_refusal.ChunkRefusal.{ChunkRefusal}
use Rattle.bt_chunks.specs.declared.chunk_refusal.ChunkRefusal.TheVariants.{BadChunk, OutOfMemory}

-- what a joiner has: what the client has, how many chunks came, and whether one of them had no place
pub record Joining : Type 0 where
  pub client : Client
  pub index : ℕ
  pub has_refused : Bool

abbrev pub new_joining : Joining
new_joining = record { client = new_client; index = 0; has_refused = false }

-- the chunk has a place, and completes that row or none
pub record Placed (row : Option FoundRow) (old : Joining) (c : Chunk) (new : Joining) : Type 0 where
  pub going : old.has_refused ≡ false
  pub joined : joins old.client c ≡ Some (new.client, row)
  pub counted : new.index ≡ counted old.index
  pub fine : new.has_refused ≡ false

-- the chunk of that index has no place, or one before it had none
pub record Refused (index : ℕ) (old : Joining) (c : Chunk) (new : Joining) : Type 0 where
  pub told : index ≡ old.index
  pub why : (old.has_refused ≡ true) ⊎ (joins old.client c ≡ None)
  pub counted : new.index ≡ counted old.index
  pub refused : new.has_refused ≡ true

-- what a joiner has after a chunk, by its answer
abbrev pub Joins : Result (Option FoundRow) ChunkRefusal → Joining → Chunk → Joining → Type 0
Joins (Ok row) old c new = Placed row old c new
Joins (Err (BadChunk index)) old c new = Refused index old c new
Joins (Err OutOfMemory) old c new = new ≡ old

-- the key of the row that the chunk belongs to, where it has a place
abbrev pub key_of : Option Part → Chunk → Option (List ℕ)
key_of None c = lawful is_row_key c.key
key_of (Some p) c = Some p.key

-- the key of the row that the chunk ends, if it ends one
abbrev pub ended_key : Option Part → Chunk → Option (List ℕ)
ended_key row c = if c.commit then key_of row c else None

-- what a change leaves, by whether there is something to change it to
abbrev pub Becomes : {A : Type 0} → Bool → Option A → A → A → Type 0
Becomes true after old new = after ≡ Some new
Becomes false after old new = (after ≡ None) × (new ≡ old)

-- what a chunk leaves of the row that is begun or of none, by whether there is a row after it
abbrev pub Grows : Bool → Option Part → Option Part → Option Part → Type 0
Grows true after old new = (after ≡ new) × IsTrue (is_some new)
Grows false after old new = (after ≡ None) × (new ≡ old)

-- the whole row
abbrev pub found_of : Part → FoundRow
found_of p = record { key = p.key; cells = p.cells }
