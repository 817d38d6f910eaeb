-- Items that are changed one after another.
use Rattle.std.proofs.Common.{◌≡◌, ℕ, zero, suc, ◌+◌, ◌<◌, List, [], ◌∷◌, ◌++◌, map, take, drop, length, add-one, slice_set, slice_index_or, arith, refl, ap, ◌∙◌}

changed : {X : Type 0} (f : X → X) (xs : List X) (i : ℕ) (d : X) → i < length xs →
    slice_set (map f (take i xs) ++ drop i xs) i (f (slice_index_or (map f (take i xs) ++ drop i xs) i d)) ≡ map f (take (suc i) xs) ++ drop (suc i) xs
changed f [] i d lt = absurd (omega (arith, lt))
changed f (x ∷ xs) zero d lt = refl
changed f (x ∷ xs) (suc i) d lt = ap (λ l. f x ∷ l) (changed f xs i d (omega (arith, lt)))

same_length : {X : Type 0} (f : X → X) (xs : List X) (i : ℕ) → length (map f (take i xs) ++ drop i xs) ≡ length xs
same_length f [] zero = refl
same_length f [] (suc i) = refl
same_length f (x ∷ xs) zero = refl
same_length f (x ∷ xs) (suc i) = ap suc (same_length f xs i)

-- the first i items were changed, and the next one is
pub changed_more : {X : Type 0} (f : X → X) (xs ys : List X) (i : ℕ) (d y : X) → i < length ys → ys ≡ map f (take i xs) ++ drop i xs → y ≡ f (slice_index_or ys i d) →
    slice_set ys i y ≡ map f (take (i + 1) xs) ++ drop (i + 1) xs
changed_more f xs ys i d y lt is at =
    ap (slice_set ys i) at ∙ ap (λ l. slice_set l i (f (slice_index_or l i d))) is ∙ rw add-one (changed f xs i d (omega (arith, lt, ap length is, same_length f xs i)))
