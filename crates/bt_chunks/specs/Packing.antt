-- Chunks that are put into responses one after another.
use Rattle.std.specs.Prelude.{◌≡◌, true, false, List, [], ◌∷◌, ◌++◌, Option, Some, None}
use Rattle.bt_chunks.specs.Chunks.{is_closed}
use Rattle.bt_chunks.specs.declared.chunk.Chunk.{Chunk}

-- the chunk closes the open response, which goes out, or the response stays open
abbrev pub Pushed : Option (List Chunk) → List Chunk → Chunk → List Chunk → Type 0
Pushed (Some response) old c new = (is_closed (old ++ c ∷ []) ≡ true) × (response ≡ old ++ c ∷ []) × (new ≡ [])
Pushed None old c new = (is_closed (old ++ c ∷ []) ≡ false) × (new ≡ old ++ c ∷ [])
