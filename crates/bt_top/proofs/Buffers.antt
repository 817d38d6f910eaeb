-- Bytes in a buffer.
use Rattle.std.specs.Prelude.{Result, Ok, Err, IfOk}
use Rattle.std.proofs.Common.{zero, suc, Option, Some, ◌≡◌, ◌≤◌, ℕ, ◌+◌, ◌-◌, List, [], ◌∷◌, ◌++◌, length, take, drop, slice_range, sym, ap, ◌∙◌, arith, length-drop}
use Rattle.std.proofs.lemmas.List.{drop-drop, drop-append-le, take-append-le, take-take, take_all, length-take, drop-take}

pub skipped : (bytes : List ℕ) (start filled count : ℕ) → start + count ≤ filled → slice_range bytes (start + count) filled ≡ drop count (slice_range bytes start filled)
skipped bytes start filled count fits =
    let n = filled - (start + count) in
    let same : count + n ≡ filled - start = omega (arith, fits) in
    ap (λ (xs : List ℕ). take n xs) (sym (drop-drop count start bytes)) ∙ sym (drop-take count n (drop start bytes)) ∙ ap (λ (k : ℕ). drop count (take k (drop start bytes))) same

range_of : (bytes : List ℕ) (s f : ℕ) → s ≤ f → slice_range bytes s f ≡ drop s (take f bytes)
range_of bytes s f le =
    let same : s + (f - s) ≡ f = omega (arith, le) in
    sym (drop-take s (f - s) bytes) ∙ ap (λ (k : ℕ). drop s (take k bytes)) same

pub filled_more : (old new got : List ℕ) (s f n : ℕ) → s ≤ f → f ≤ length old → take (f + n) new ≡ take f old ++ got → slice_range new s (f + n) ≡ slice_range old s f ++ got
filled_more old new got s f n le within is =
    let inside : s ≤ length (take f old) = omega (arith, le, within, length-take f old) in
    range_of new s (f + n) (omega (arith, le)) ∙ ap (λ (xs : List ℕ). drop s xs) is ∙ drop-append-le s (take f old) got inside
    ∙ ap (λ (xs : List ℕ). xs ++ got) (sym (range_of old s f le))

-- what is written through a slice of a whole vector
pub written : (size : ℕ) (old new : List ℕ) → length new ≡ size → take size (new ++ drop (length new) old) ≡ new
written size old new is = take-append-le size new (drop (length new) old) (omega (arith, is)) ∙ take_all size new (omega (arith, is))

front_of : (bytes : List ℕ) (s f k : ℕ) → s + k ≤ f → take k (slice_range bytes s f) ≡ drop s (take (s + k) bytes)
front_of bytes s f k fits = take-take k (f - s) (drop s bytes) (omega arith) ∙ sym (drop-take s k bytes)

-- the front stays where only what lies behind it is written
pub front_still : (old new : List ℕ) (s f until k : ℕ) → s + k ≤ f → f ≤ until → take f new ≡ take f old → take k (slice_range new s until) ≡ take k (slice_range old s f)
front_still old new s f until k fits up is =
    front_of new s until k (omega (arith, fits, up))
    ∙ ap (λ (xs : List ℕ). drop s xs) (sym (take-take (s + k) f new fits) ∙ ap (λ (xs : List ℕ). take (s + k) xs) is ∙ take-take (s + k) f old fits)
    ∙ sym (front_of old s f k fits)

pub range_length : (bytes : List ℕ) (s f : ℕ) → f ≤ length bytes → length (slice_range bytes s f) ≡ f - s
range_length bytes s f within = omega (arith, within, length-take (f - s) (drop s bytes), length-drop s bytes)

pub take_past : (xs ys : List ℕ) (n k : ℕ) → k ≡ length xs + n → take k (xs ++ ys) ≡ xs ++ take n ys
take_past [] ys n k is = let same : k ≡ n = omega arith in ap (λ (j : ℕ). take j ys) same
take_past (x ∷ xs) ys n zero is = absurd (omega arith)
take_past (x ∷ xs) ys n (suc k) is = ap (λ (l : List ℕ). x ∷ l) (take_past xs ys n k (omega arith))

pub took_in : (bytes into post : List ℕ) (at n : ℕ) → at ≤ length bytes → n ≤ length into → take (at + n) (take at bytes ++ (into ++ post)) ≡ take at bytes ++ take n into
took_in bytes into post at n within fits =
    take_past (take at bytes) (into ++ post) n (at + n) (omega (arith, within, length-take at bytes)) ∙ ap (λ (l : List ℕ). take at bytes ++ l) (take-append-le n into post fits)

-- what a read tells, of the bytes that it was given a part of
pub read_in : {E : Type 0} (hand new_hand : Option (List ℕ)) (bytes into post : List ℕ) (at count : ℕ) (r : Result ℕ E) → at ≤ length bytes → length into ≡ count → IfOk r (λ n. n ≤ count) → IfOk r (λ n. (rest : List ℕ) × (hand ≡ Some (take n into ++ rest)) × (new_hand ≡ Some rest))
    → IfOk r (λ n. (got : List ℕ) × (rest : List ℕ) × (hand ≡ Some (got ++ rest)) × (new_hand ≡ Some rest) × (length got ≡ n) × (take (at + n) (take at bytes ++ (into ++ post)) ≡ take at bytes ++ got))
read_in hand new_hand bytes into post at count (Ok n) within size fits h =
    (take n into, h.0, h.1, h.2, omega (arith, size, fits, length-take n into), took_in bytes into post at n within (omega (arith, size, fits)))
read_in hand new_hand bytes into post at count (Err e) within size fits h = h
