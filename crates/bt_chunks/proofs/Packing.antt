-- Chunks that are pushed one after another, and the responses that they are put into.
use Rattle.std.proofs.Common.{◌≡◌, ◌+◌, Bool, cond, List, [], ◌∷◌, ◌++◌, length, Some, None, sym, ap, ◌∙◌, arith}
use Rattle.bt_chunks.specs.Chunks.{packed, value_bytes}
use Rattle.bt_chunks.specs.Packing.{Pushed}
use Rattle.bt_chunks.specs.declared.chunk.Chunk.{Chunk}

pub value_bytes_push : (cs : List Chunk) (c : Chunk) → value_bytes (cs ++ c ∷ []) ≡ value_bytes cs + length c.value
value_bytes_push [] c = omega arith
value_bytes_push (d ∷ ds) c = omega (arith, value_bytes_push ds c)

-- a push that closes no response, and then the others: the same responses come as with the chunk before the others
pub packed-open : (old new : List Chunk) (c : Chunk) → Pushed None old c new → (cs : List Chunk) → packed new cs ≡ packed old (c ∷ cs)
packed-open old new c p cs =
    let after = old ++ c ∷ [] in
    ap (λ (open_ : List Chunk). packed open_ cs) p.1 ∙ sym (ap (λ (b : Bool). cond b (after ∷ packed [] cs) (packed after cs)) p.0)

-- a push that closes a response: that one comes, and then those of the others
pub packed-closed : (response old new : List Chunk) (c : Chunk) → Pushed (Some response) old c new → (cs : List Chunk) → packed old (c ∷ cs) ≡ response ∷ packed new cs
packed-closed response old new c p cs =
    let after = old ++ c ∷ [] in
    ap (λ (b : Bool). cond b (after ∷ packed [] cs) (packed after cs)) p.0 ∙ (ap (λ (r : List Chunk). r ∷ packed [] cs) (sym p.1) ∙ ap (λ (open_ : List Chunk). response ∷ packed open_ cs) (sym p.2))
