-- Searching what was read for a line's end, from where an earlier search stopped.
use Rattle.std.proofs.Common.{◌≡◌, ◌≤◌, ℕ, suc, ◌+◌, ◌-◌, List, [], ◌∷◌, ◌++◌, length, drop, take, slice_range, refl, sym, ap, ◌∙◌, arith, Bool, true, false, cond, ltb, Option, Some, None, take-append-drop, length-append}
use Rattle.std.specs.List.{position, position_or_len}
use Rattle.std.proofs.lemmas.Bool.{false_from_ne_true}
use Rattle.std.proofs.lemmas.Bool.Decides.{nat_tests}
use Rattle.std.proofs.lemmas.Option.{cond_some}
use Rattle.std.proofs.lemmas.List.{length-take, take_all}
use Rattle.std.proofs.lemmas.List.Sums.{position_or_len_is}
use Rattle.memchr.specs.Find.{IsFirstByte}
use Rattle.bt_top.specs.Lines.{is_lf}
use Rattle.bt_top.proofs.Buffers.{front_still, skipped, range_length, written}
use Rattle.bt_top.proofs.Divisions.{no_lf}

past_at : (b : Bool) (x : ℕ) (xs ys : List ℕ) → is_lf x ≡ b → position_or_len is_lf (x ∷ xs) ≡ suc (length xs) → (position_or_len is_lf xs ≡ length xs → position_or_len is_lf (xs ++ ys) ≡ length xs + position_or_len is_lf ys)
    → position_or_len is_lf (x ∷ xs ++ ys) ≡ suc (length xs) + position_or_len is_lf ys
past_at true x xs ys e h ih = let none : 0 ≡ suc (length xs) = rw e at h in absurd (omega arith)
past_at false x xs ys e h ih =
    let more : 1 + position_or_len is_lf xs ≡ suc (length xs) = rw e at h in
    let rest : position_or_len is_lf (xs ++ ys) ≡ length xs + position_or_len is_lf ys = ih (omega (arith, more)) in
    rw e (omega (arith, rest))

-- with no LF in front, the search goes on behind
past : (xs ys : List ℕ) → position_or_len is_lf xs ≡ length xs → position_or_len is_lf (xs ++ ys) ≡ length xs + position_or_len is_lf ys
past [] ys h = omega arith
past (x ∷ xs) ys h = past_at (is_lf x) x xs ys refl h (past xs ys)

found_behind : (front back : List ℕ) (at : ℕ) → position is_lf front ≡ None → position is_lf back ≡ Some at → position is_lf (front ++ back) ≡ Some (length front + at)
found_behind front back at none some =
    let whole = past front back (no_lf front none) in
    let found = cond_some (ltb (position_or_len is_lf back) (length back)) (position_or_len is_lf back) at some in
    let inside : ltb (position_or_len is_lf (front ++ back)) (length (front ++ back)) ≡ true = grind (arith, nat_tests, found.0, whole, length-append front back) in
    let place : position_or_len is_lf (front ++ back) ≡ length front + at = omega (arith, whole, found.1) in
    ap (λ (b : Bool). cond b (Some (position_or_len is_lf (front ++ back))) None) inside ∙ ap Some place

none_behind : (front back : List ℕ) → position is_lf front ≡ None → position is_lf back ≡ None → position is_lf (front ++ back) ≡ None
none_behind front back none nor =
    let whole = past front back (no_lf front none) in
    let all = no_lf back nor in
    let outside : ltb (position_or_len is_lf (front ++ back)) (length (front ++ back)) ≡ false = grind (arith, nat_tests, all, whole, length-append front back) in
    ap (λ (b : Bool). cond b (Some (position_or_len is_lf (front ++ back))) None) outside

-- what the search for a byte answers
pub first_lf : (text : List ℕ) (place : Option ℕ) → IsFirstByte is_lf text place → place ≡ position is_lf text
first_lf text None nowhere =
    let at : position_or_len is_lf text ≡ length text = position_or_len_is is_lf text (length text) 0 (omega arith) (λ k l. false_from_ne_true _ (nowhere k (omega arith) l)) (λ l. absurd (omega arith)) in
    let outside : ltb (position_or_len is_lf text) (length text) ≡ false = grind (arith, nat_tests) in
    sym (ap (λ (b : Bool). cond b (Some (position_or_len is_lf text)) None) outside)
first_lf text (Some at) found =
    let is : position_or_len is_lf text ≡ at = position_or_len_is is_lf text at 0 (omega (arith, found.0.high)) (λ k l. false_from_ne_true _ (found.0.before k (omega arith) l)) (λ l. found.1) in
    let inside : ltb (position_or_len is_lf text) (length text) ≡ true = grind (arith, nat_tests, found.0.high) in
    sym (ap (λ (b : Bool). cond b (Some (position_or_len is_lf text)) None) inside ∙ ap Some is)

-- what was searched, and what is searched now
halves : (bytes : List ℕ) (start filled searched : ℕ) → start + searched ≤ filled → take searched (slice_range bytes start filled) ++ slice_range bytes (start + searched) filled ≡ slice_range bytes start filled
halves bytes start filled searched fits =
    ap (λ (l : List ℕ). take searched (slice_range bytes start filled) ++ l) (skipped bytes start filled searched fits) ∙ take-append-drop searched (slice_range bytes start filled)

pub found_from : (bytes : List ℕ) (start filled searched at : ℕ) → start + searched ≤ filled → filled ≤ length bytes → position is_lf (take searched (slice_range bytes start filled)) ≡ None → position is_lf (slice_range bytes (start + searched) filled) ≡ Some at
    → position is_lf (slice_range bytes start filled) ≡ Some (searched + at)
found_from bytes start filled searched at fits within none some =
    let front = take searched (slice_range bytes start filled) in
    let size : length front ≡ searched = omega (arith, fits, length-take searched (slice_range bytes start filled), range_length bytes start filled within) in
    sym (ap (position is_lf) (halves bytes start filled searched fits)) ∙ found_behind front (slice_range bytes (start + searched) filled) at none some ∙ ap (λ (n : ℕ). Some (n + at)) size

pub none_from : (bytes : List ℕ) (start filled searched : ℕ) → start + searched ≤ filled → position is_lf (take searched (slice_range bytes start filled)) ≡ None → position is_lf (slice_range bytes (start + searched) filled) ≡ None
    → position is_lf (slice_range bytes start filled) ≡ None
none_from bytes start filled searched fits none nor =
    sym (ap (position is_lf) (halves bytes start filled searched fits)) ∙ none_behind (take searched (slice_range bytes start filled)) (slice_range bytes (start + searched) filled) none nor

-- all of it was searched
pub none_in_all : (bytes : List ℕ) (start filled : ℕ) → filled ≤ length bytes → position is_lf (slice_range bytes start filled) ≡ None → position is_lf (take (filled - start) (slice_range bytes start filled)) ≡ None
none_in_all bytes start filled within none =
    let all : length (slice_range bytes start filled) ≤ filled - start = omega (arith, range_length bytes start filled within) in
    ap (position is_lf) (take_all (filled - start) (slice_range bytes start filled) all) ∙ none

-- what was searched stays so where more is read behind it
pub none_still : (size : ℕ) (old new : List ℕ) (start filled until searched : ℕ) → length new ≡ size → start + searched ≤ filled → filled ≤ until → take filled new ≡ take filled old → position is_lf (take searched (slice_range old start filled)) ≡ None
    → position is_lf (take searched (slice_range (take size (new ++ drop (length new) old)) start until)) ≡ None
none_still size old new start filled until searched is fits up same none =
    ap (λ (l : List ℕ). position is_lf (take searched (slice_range l start until))) (written size old new is) ∙ ap (position is_lf) (front_still old new start filled until searched fits up same) ∙ none
