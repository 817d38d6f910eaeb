-- Runs come off the front of a list one after another.
use Rattle.std.proofs.Common.{◌≡◌, ◌<◌, ℕ, suc, ◌+◌, ◌-◌, List, [], ◌∷◌, ◌++◌, length, Bool, true, false, if◌then◌else◌, map, append_assoc, refl, ap, ◌∙◌, sym, subst, arith}
use Rattle.std.specs.List.{IsChunkByPrefix, slice_index_or}
use Rattle.bt_messages.specs.Rows.{run_begun, runs_of}

module _ {A : Type 0} (like : A → A → Bool) where
  -- the first of the runs begins with this item
  abbrev BeginsWith : A → List (List A) → Type 0
  BeginsWith x runs = (ys : List A) × (rest : List (List A)) × (runs ≡ (x ∷ ys) ∷ rest)

  first_is : (b : Bool) (x : A) (ys : List A) (runs : List (List A)) → BeginsWith x (if b then (x ∷ ys) ∷ runs else (x ∷ []) ∷ ys ∷ runs)
  first_is true x ys runs = (ys, runs, refl)
  first_is false x ys runs = ([], ys ∷ runs, refl)

  begun : (x : A) (runs : List (List A)) → BeginsWith x (run_begun like x runs)
  begun x [] = ([], [], refl)
  begun x ([] ∷ runs) = ([], runs, refl)
  begun x ((y ∷ ys) ∷ runs) = first_is (like x y) x (y ∷ ys) runs

  apart : (x y : A) (ys : List A) (rest runs : List (List A)) → runs ≡ (y ∷ ys) ∷ rest → like x y ≡ false → run_begun like x runs ≡ (x ∷ []) ∷ runs
  apart x y ys rest runs e f = rw e (rw f refl)

  joined : (x y : A) (ys : List A) (rest runs : List (List A)) → runs ≡ (y ∷ ys) ∷ rest → like x y ≡ true → run_begun like x runs ≡ (x ∷ y ∷ ys) ∷ rest
  joined x y ys rest runs e t = rw e (rw t refl)

  shorter : (x y : A) (ys rest : List A) → IsChunkByPrefix like (x ∷ y ∷ ys ++ rest) (length (x ∷ y ∷ ys)) → IsChunkByPrefix like (y ∷ ys ++ rest) (length (y ∷ ys))
  shorter x y ys rest h =
      let next = λ (k : ℕ). (let e : suc k + 1 ≡ suc (k + 1) = omega arith in e) in
      let last : length (x ∷ y ∷ ys) - 1 ≡ suc (length (y ∷ ys) - 1) = omega arith in (
        (λ k d l. subst (λ i. like (slice_index_or (y ∷ ys ++ rest) k d) (slice_index_or (x ∷ y ∷ ys ++ rest) i d) ≡ true) (next k) (h.0 (suc k) d (omega arith))),
        (λ l d. subst (λ i. like (slice_index_or (x ∷ y ∷ ys ++ rest) i d) (slice_index_or (y ∷ ys ++ rest) (length (y ∷ ys)) d) ≡ false) last (h.1 (omega arith) d)),
      )

  -- the longest front of which each goes with the next is the first run
  run_off : (run rest : List A) → 0 < length run → IsChunkByPrefix like (run ++ rest) (length run) → runs_of like (run ++ rest) ≡ run ∷ runs_of like rest
  run_off [] rest l h = absurd (omega arith)
  run_off (x ∷ []) [] l h = refl
  run_off (x ∷ []) (y ∷ ys) l h =
      let first = begun y (runs_of like ys) in
      apart x y first.0 first.1 (runs_of like (y ∷ ys)) first.2 (h.1 (omega arith) x)
  run_off (x ∷ y ∷ ys) rest l h =
      joined x y ys (runs_of like rest) (runs_of like (y ∷ ys ++ rest)) (run_off (y ∷ ys) rest (omega arith) (shorter x y ys rest h)) (h.0 0 x (omega arith))

  -- what is shown of the runs so far, and of those that are left, once a further one has come off
  pub goes_on : {B : Type 0} (show : List A → B) (done all : List B) (left run rest : List A) → left ≡ run ++ rest → 0 < length run → IsChunkByPrefix like left (length run)
      → done ++ map show (runs_of like left) ≡ all → (done ++ show run ∷ []) ++ map show (runs_of like rest) ≡ all
  goes_on show done all left run rest e l h shown =
      let off = ap (runs_of like) e ∙ run_off run rest l (subst (λ xs. IsChunkByPrefix like xs (length run)) e h) in
      append_assoc done (show run ∷ []) (map show (runs_of like rest)) ∙ ap (λ runs. done ++ map show runs) (sym off) ∙ shown
