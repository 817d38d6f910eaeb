-- What a read over rows in memory gives, one after another.
use Rattle.std.specs.Prelude.{◌≡◌, List, [], ◌∷◌, Option, None, Some}
use Rattle.bt_chunks.specs.declared.chunk.Chunk.{Chunk}

-- the next chunk, or none is left
abbrev pub GivesChunk : Option Chunk → List Chunk → List Chunk → Type 0
GivesChunk None old new = (old ≡ []) × (new ≡ [])
GivesChunk (Some c) old new = old ≡ c ∷ new

-- the next response, or none is left
abbrev pub GivesResponse : Option (List Chunk) → List (List Chunk) → List (List Chunk) → Type 0
GivesResponse None old new = (old ≡ []) × (new ≡ [])
GivesResponse (Some cs) old new = old ≡ cs ∷ new
