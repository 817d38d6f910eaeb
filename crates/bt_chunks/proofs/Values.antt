-- The further pieces of a value.
use Rattle.std.proofs.Common.{◌≡◌, ℕ, zero, suc, ◌-◌, ◌<◌, ◌≤◌, Bool, true, false, cond, List, [], ◌∷◌, ◌++◌, length, take, drop, refl, sym, ap, ◌∙◌, length-drop, append_assoc, arith}
use Rattle.std.proofs.lemmas.Bool.Decides.{nat_tests}
use Rattle.bt_chunks.specs.Chunks.{further_pieces, is_whole, piece}
use Rattle.bt_chunks.specs.declared.chunk.Chunk.{Chunk}

long : (v : List ℕ) → is_whole v ≡ false → 65536 < length v
long v e = grind (arith, nat_tests)

not_whole : (v : List ℕ) → 65536 < length v → is_whole v ≡ false
not_whole v h = grind (arith, nat_tests)

whole : (v : List ℕ) → length v ≤ 65536 → is_whole v ≡ true
whole v h = grind (arith, nat_tests)

split : (n size : ℕ) (last : Bool) (v : List ℕ) → 65536 < length v → further_pieces (suc n) size last v ≡ piece (take 65536 v) size false ∷ further_pieces n size last (drop 65536 v)
split n size last v h = ap (λ (b : Bool). cond b (piece v 0 last ∷ []) (piece (take 65536 v) size false ∷ further_pieces n size last (drop 65536 v))) (not_whole v h)

ended : (n size : ℕ) (last : Bool) (v : List ℕ) → length v ≤ 65536 → further_pieces (suc n) size last v ≡ piece v 0 last ∷ []
ended n size last v h = ap (λ (b : Bool). cond b (piece v 0 last ∷ []) (piece (take 65536 v) size false ∷ further_pieces n size last (drop 65536 v))) (whole v h)

-- a count that is no less than the bytes is enough
same_pieces_by : (b : Bool) (n m size : ℕ) (last : Bool) (v : List ℕ) → is_whole v ≡ b → length v ≤ n → length v ≤ m → 0 < length v → further_pieces n size last v ≡ further_pieces m size last v
same_pieces_by b zero m size last v e p q h = absurd (omega arith)
same_pieces_by b (suc n) zero size last v e p q h = absurd (omega arith)
same_pieces_by true (suc n) (suc m) size last v e p q h =
    let short : length v ≤ 65536 = grind (arith, nat_tests) in
    ended n size last v short ∙ sym (ended m size last v short)
same_pieces_by false (suc n) (suc m) size last v e p q h =
    let k = long v e in
    let rest : List ℕ = drop 65536 v in
    let d : length rest ≡ length v - 65536 = length-drop 65536 v in
    split n size last v k ∙ (ap (λ (ps : List Chunk). piece (take 65536 v) size false ∷ ps) (same_pieces_by (is_whole rest) n m size last rest refl (omega arith) (omega arith) (omega arith)) ∙ sym (split m size last v k))

pub same_pieces : (n m size : ℕ) (last : Bool) (v : List ℕ) → length v ≤ n → length v ≤ m → 0 < length v → further_pieces n size last v ≡ further_pieces m size last v
same_pieces n m size last v p q h = same_pieces_by (is_whole v) n m size last v refl p q h

pub pieces_begun : (size : ℕ) (last : Bool) (v : List ℕ) → length v ≤ size → 0 < length v → further_pieces (length v) size last v ≡ further_pieces size size last v
pieces_begun size last v p h = same_pieces (length v) size size last v (omega arith) p h

-- one piece more
pub pieces_more : (cs pieces : List Chunk) (size : ℕ) (last : Bool) (v : List ℕ) → 65536 < length v → cs ++ further_pieces (length v) size last v ≡ pieces → (cs ++ piece (take 65536 v) size false ∷ []) ++ further_pieces (length (drop 65536 v)) size last (drop 65536 v) ≡ pieces
pieces_more cs pieces size last v k e =
    let rest : List ℕ = drop 65536 v in
    let d : length rest ≡ length v - 65536 = length-drop 65536 v in
    append_assoc cs (piece (take 65536 v) size false ∷ []) (further_pieces (length rest) size last rest)
    ∙ (ap (λ (ps : List Chunk). cs ++ piece (take 65536 v) size false ∷ ps) (same_pieces (length rest) (length v) size last rest (omega arith) (omega arith) (omega arith))
    ∙ (ap (λ (ps : List Chunk). cs ++ ps) (sym (split (length v) size last v k) ∙ same_pieces (suc (length v)) (length v) size last v (omega arith) (omega arith) (omega arith)) ∙ e))

-- the last piece
pub pieces_ended : (cs pieces : List Chunk) (size : ℕ) (last : Bool) (v : List ℕ) → 0 < length v → length v ≤ 65536 → cs ++ further_pieces (length v) size last v ≡ pieces → cs ++ piece v 0 last ∷ [] ≡ pieces
pieces_ended cs pieces size last v h k e =
    ap (λ (ps : List Chunk). cs ++ ps) (sym (ended (length v) size last v k) ∙ same_pieces (suc (length v)) (length v) size last v (omega arith) (omega arith) h) ∙ e
