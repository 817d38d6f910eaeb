-- A stream, line by line.
use Rattle.std.proofs.Common.{◌≡◌, ◌<◌, ◌≤◌, ℕ, suc, ◌+◌, List, [], ◌∷◌, ◌++◌, length, take, drop, refl, sym, ap, subst, ◌∙◌, arith, Bool, true, false, cond, ltb, append_assoc, Some, None, length-append}
use Rattle.std.specs.List.{position, position_or_len, slice_split, onto_first}
use Rattle.std.proofs.lemmas.Bool.Decides.{nat_tests}
use Rattle.std.proofs.lemmas.Option.{cond_some}
use Rattle.std.proofs.lemmas.List.{length-take}
use Rattle.std.proofs.lemmas.List.Sums.{prefix_len-le-length}
use Rattle.std.proofs.lemmas.List.Splits.{slice_split-cons_no, length-slice_split}
use Rattle.bt_top.specs.Lines.{lines_in, ending_in, lines_of_pieces, ending_of_pieces, is_blank, is_lf, line_too_long, connection_too_long, line_not_ended}
use Rattle.bt_service.specs.declared.handled.Handled.{Handled}
use Rattle.bt_service.specs.declared.handled.Handled.TheVariants.{Answered, DiskEnded, LinkLost}
use Rattle.bt_top.specs.Steps.{Divides, Divided, BeginsWith, IsStopped, heard}

-- the stream is cut at the first LF of what was read
cut_at : (b : Bool) (x : ℕ) (xs future : List ℕ) → is_lf x ≡ b → position_or_len is_lf (x ∷ xs) < suc (length xs)
    → (position_or_len is_lf xs < length xs → slice_split is_lf (xs ++ future) ≡ take (position_or_len is_lf xs) xs ∷ slice_split is_lf (drop (position_or_len is_lf xs + 1) xs ++ future))
    → slice_split is_lf (x ∷ xs ++ future) ≡ take (position_or_len is_lf (x ∷ xs)) (x ∷ xs) ∷ slice_split is_lf (drop (position_or_len is_lf (x ∷ xs) + 1) (x ∷ xs) ++ future)
cut_at true x xs future e h ih = rw e refl
cut_at false x xs future e h ih =
    let n = position_or_len is_lf xs in
    let less : 1 + n < suc (length xs) = rw e at h in
    let one : 1 + n ≡ suc n = omega arith in
    let next : suc n + 1 ≡ suc (n + 1) = omega arith in
    rw (e, one, next) (ap (onto_first x) (ih (omega (arith, less))))

cut : (text future : List ℕ) → position_or_len is_lf text < length text
    → slice_split is_lf (text ++ future) ≡ take (position_or_len is_lf text) text ∷ slice_split is_lf (drop (position_or_len is_lf text + 1) text ++ future)
cut [] future h = absurd (omega arith)
cut (x ∷ xs) future h = cut_at (is_lf x) x xs future refl h (cut xs future)

-- what was read has no LF, so the first piece begins with it
uncut_at : (b : Bool) (x : ℕ) (xs future : List ℕ) → is_lf x ≡ b → position_or_len is_lf (x ∷ xs) ≡ suc (length xs)
    → (position_or_len is_lf xs ≡ length xs → (q : List ℕ) × (qs : List (List ℕ)) × (slice_split is_lf (xs ++ future) ≡ (xs ++ q) ∷ qs))
    → (q : List ℕ) × (qs : List (List ℕ)) × (slice_split is_lf (x ∷ xs ++ future) ≡ (x ∷ xs ++ q) ∷ qs)
uncut_at true x xs future e h ih = let none : 0 ≡ suc (length xs) = rw e at h in absurd (omega arith)
uncut_at false x xs future e h ih =
    let more : 1 + position_or_len is_lf xs ≡ suc (length xs) = rw e at h in
    let found = ih (omega (arith, more)) in
    (found.0, found.1, slice_split-cons_no is_lf x (xs ++ future) e ∙ ap (onto_first x) found.2)

some_piece : (pieces : List (List ℕ)) → 0 < length pieces → (q : List ℕ) × (qs : List (List ℕ)) × (pieces ≡ q ∷ qs)
some_piece [] h = absurd (omega arith)
some_piece (q ∷ qs) h = (q, qs, refl)

uncut : (text future : List ℕ) → position_or_len is_lf text ≡ length text → (q : List ℕ) × (qs : List (List ℕ)) × (slice_split is_lf (text ++ future) ≡ (text ++ q) ∷ qs)
uncut [] future h = some_piece (slice_split is_lf future) (omega (arith, length-slice_split is_lf future))
uncut (x ∷ xs) future h = uncut_at (is_lf x) x xs future refl h (uncut xs future)

alone_at : (b : Bool) (x : ℕ) (xs : List ℕ) → is_lf x ≡ b → position_or_len is_lf (x ∷ xs) ≡ suc (length xs) → (position_or_len is_lf xs ≡ length xs → slice_split is_lf xs ≡ xs ∷ []) → slice_split is_lf (x ∷ xs) ≡ (x ∷ xs) ∷ []
alone_at true x xs e h ih = let none : 0 ≡ suc (length xs) = rw e at h in absurd (omega arith)
alone_at false x xs e h ih =
    let more : 1 + position_or_len is_lf xs ≡ suc (length xs) = rw e at h in
    slice_split-cons_no is_lf x xs e ∙ ap (onto_first x) (ih (omega (arith, more)))

alone : (text : List ℕ) → position_or_len is_lf text ≡ length text → slice_split is_lf text ≡ text ∷ []
alone [] h = refl
alone (x ∷ xs) h = alone_at (is_lf x) x xs refl h (alone xs)

none_at : (b : Bool) (n m : ℕ) → ltb n m ≡ b → cond b (Some n) None ≡ None → n ≤ m → n ≡ m
none_at true n m e h l = absurd (cc)
none_at false n m e h l = grind (arith, nat_tests)

pub no_lf : (text : List ℕ) → position is_lf text ≡ None → position_or_len is_lf text ≡ length text
no_lf text h = none_at (ltb (position_or_len is_lf text) (length text)) (position_or_len is_lf text) (length text) refl h (prefix_len-le-length _ text)

heard_more : (b : Bool) (p : List ℕ) (ls : List (List ℕ)) → cond b ls (p ∷ ls) ≡ cond b [] (p ∷ []) ++ ls
heard_more true p ls = refl
heard_more false p ls = refl

-- one ended piece, and then the others
lines_more : (most : ℕ) (p : List ℕ) (pieces : List (List ℕ)) → length p ≤ most → 0 < length pieces → lines_of_pieces most (p ∷ pieces) ≡ heard p ++ lines_of_pieces most pieces
lines_more most p [] fits h = absurd (omega arith)
lines_more most p (q ∷ more) fits h =
    let short : ltb most (length p) ≡ false = grind (arith, nat_tests) in
    rw short (heard_more (is_blank p) p (lines_of_pieces most (q ∷ more)))

ending_more : (most : ℕ) (full : Bool) (p : List ℕ) (pieces : List (List ℕ)) → length p ≤ most → 0 < length pieces → ending_of_pieces most full (p ∷ pieces) ≡ ending_of_pieces most full pieces
ending_more most full p [] fits h = absurd (omega arith)
ending_more most full p (q ∷ more) fits h =
    let short : ltb most (length p) ≡ false = grind (arith, nat_tests) in
    rw short refl

-- a whole line of what was read
pub line_at : (most : ℕ) (text : List ℕ) (at : ℕ) → Some at ≡ position is_lf text → length text ≤ most + 1 → Divides most text (drop (at + 1) text) (heard (take at text))
line_at most text at h fits =
    let found = cond_some (ltb (position_or_len is_lf text) (length text)) (position_or_len is_lf text) at (sym h) in
    let inside : position_or_len is_lf text < length text = grind (arith, nat_tests, found.0) in
    let one : (future : List ℕ) → slice_split is_lf (text ++ future) ≡ take at text ∷ slice_split is_lf (drop (at + 1) text ++ future) =
    λ future. cut text future inside ∙ ap (λ (n : ℕ). take n text ∷ slice_split is_lf (drop (n + 1) text ++ future)) found.1 in
    let short : length (take at text) ≤ most = omega (arith, inside, found.1, fits, length-take at text) in
    let some : (bytes : List ℕ) → 0 < length (slice_split is_lf bytes) = λ bytes. omega (arith, length-slice_split is_lf bytes) in
    record {
      next_lines = λ future. ap (lines_of_pieces most) (one future) ∙ lines_more most (take at text) (slice_split is_lf (drop (at + 1) text ++ future)) short (some (drop (at + 1) text ++ future));
      ending = λ full future. ap (ending_of_pieces most full) (one future) ∙ ending_more most full (take at text) (slice_split is_lf (drop (at + 1) text ++ future)) short (some (drop (at + 1) text ++ future));
    }

pub divides_none : (most : ℕ) (text : List ℕ) → Divides most text text []
divides_none most text = record { next_lines = λ future. refl; ending = λ full future. refl }

pub divides_then : (most : ℕ) (a b c : List ℕ) (ls ms : List (List ℕ)) → Divides most a b ls → Divides most b c ms → Divides most a c (ls ++ ms)
divides_then most a b c ls ms f g = record {
  next_lines = λ future. f.next_lines future ∙ ap (λ (l : List (List ℕ)). ls ++ l) (g.next_lines future) ∙ sym (append_assoc ls ms (lines_in most (c ++ future)));
  ending = λ full future. f.ending full future ∙ g.ending full future;
}

pub begins_then : (most : ℕ) (a b c : List ℕ) (ls ms : List (List ℕ)) → Divides most a b ls → Divides most b c ms → BeginsWith most a (ls ++ ms)
begins_then most a b c ls ms f g future = (lines_in most (c ++ future), (divides_then most a b c ls ms f g).next_lines future)

pub stopped_as : (handled : Handled) → (handled ≡ Answered → ⊥) → IsStopped handled
stopped_as Answered none = none refl
stopped_as LinkLost none = tt
stopped_as DiskEnded none = tt

-- the lines up to one at which it stopped
pub divided_then : (most : ℕ) (a b c : List ℕ) (ls ms : List (List ℕ)) (handled : Handled) (rest : List ℕ) → IsStopped handled → Divides most a b ls → Divides most b c ms → Divided handled most a rest (ls ++ ms)
divided_then most a b c ls ms Answered rest stop f g = absurd stop
divided_then most a b c ls ms LinkLost rest stop f g = begins_then most a b c ls ms f g
divided_then most a b c ls ms DiskEnded rest stop f g = begins_then most a b c ls ms f g

-- a piece that is longer than the limit, however it goes on
long_lines : (most : ℕ) (p : List ℕ) (qs : List (List ℕ)) → most < length p → lines_of_pieces most (p ∷ qs) ≡ []
long_lines most p [] long = refl
long_lines most p (q ∷ qs) long = let yes : ltb most (length p) ≡ true = grind (arith, nat_tests) in rw yes refl

long_ending : (most : ℕ) (full : Bool) (p : List ℕ) (qs : List (List ℕ)) → most < length p → ending_of_pieces most full (p ∷ qs) ≡ line_too_long
long_ending most full p [] long = let yes : ltb most (length p) ≡ true = grind (arith, nat_tests) in rw yes refl
long_ending most full p (q ∷ qs) long = let yes : ltb most (length p) ≡ true = grind (arith, nat_tests) in rw yes refl

pub too_long : (most : ℕ) (full : Bool) (text future : List ℕ) → position is_lf text ≡ None → most < length text → (lines_in most (text ++ future) ≡ []) × (ending_in most full (text ++ future) ≡ line_too_long)
too_long most full text future h long =
    let found = uncut text future (no_lf text h) in
    let longer : most < length (text ++ found.0) = omega (arith, long, length-append text found.0) in
    (ap (lines_of_pieces most) found.2 ∙ long_lines most (text ++ found.0) found.1 longer, ap (ending_of_pieces most full) found.2 ∙ long_ending most full (text ++ found.0) found.1 longer)

-- the rest behind the last LF
abbrev pub rest_ending : Bool → List ℕ → List ℕ
rest_ending full rest = cond full connection_too_long (cond (is_blank rest) [] line_not_ended)

pub at_rest : (most : ℕ) (full : Bool) (text : List ℕ) → position is_lf text ≡ None → length text ≤ most → (lines_in most text ≡ []) × (ending_in most full text ≡ rest_ending full text)
at_rest most full text h fits =
    let one = alone text (no_lf text h) in
    let short : ltb most (length text) ≡ false = grind (arith, nat_tests) in
    (ap (lines_of_pieces most) one, ap (ending_of_pieces most full) one ∙ rw short refl)

-- the same, as a loop over what was read sees it
pub line_step : (most its_most : ℕ) (text read new piece : List ℕ) (at : ℕ) → Some at ≡ position is_lf read → read ≡ text → length text ≤ its_most + 1 → its_most ≡ most → new ≡ drop (at + 1) text → piece ≡ take at text → Divides most text new (heard piece)
line_step most its_most text read new piece at h r fits m n p =
    subst (λ (x : List ℕ). Divides most text x (heard piece)) (sym n) (subst (λ (x : List ℕ). Divides most text (drop (at + 1) text) (heard x)) (sym p)
    (line_at most text at (h ∙ ap (position is_lf) r) (omega (arith, fits, m))))
