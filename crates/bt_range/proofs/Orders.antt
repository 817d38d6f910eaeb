-- The order of bytes, and what the ranges of rows hold.
use Rattle.std.proofs.Common.{◌≡◌, ◌<◌, ℕ, Bool, true, false, not, List, [], ◌∷◌, Option, refl, ap, ◌∙◌, arith, ◌&&◌}
use Rattle.std.specs.Prelude.{IsTrue}
use Rattle.std.specs.Ordering.{nat_cmp, is_lt, ordering_then, ordering_reverse, MatchOrdering}
use Rattle.std.specs.declared.cmp.Ordering.{Ordering}
use Rattle.std.specs.declared.cmp.Ordering.TheVariants.{Less, Equal, Greater}
use Rattle.std.specs.Cmp.Lexicographic.{slice_cmp}
use Rattle.std.proofs.lemmas.Cmp.{ranked, tied_itself, nat_cmp_total, nat_list_cmp_total}
use Rattle.bt_types.specs.Grammar.{is_row_key}
use Rattle.bt_range.specs.declared.bound.Bound.{Bound}
use Rattle.bt_range.specs.declared.bound.Bound.TheVariants.{Unset, Closed, Past}
use Rattle.bt_range.specs.declared.asked_range.AskedRange.{AskedRange}
use Rattle.bt_range.specs.Bounds.{is_below, just_past, least, first_key, end_key, row_end, is_from, is_up_to, is_before, is_in, is_asked, normal}

-- nothing is below no bytes
pub none_below : (b : List ℕ) → is_below b [] ≡ false
none_below [] = refl
none_below (x ∷ xs) = refl

at_zero_by : (x : ℕ) (o r : Ordering) → MatchOrdering r (x < 0) (x ≡ 0) (0 < x) → is_lt o ≡ false → is_lt (ordering_then r o) ≡ false
at_zero_by x o Less h e = absurd (omega (arith, h))
at_zero_by x o Equal h e = e
at_zero_by x o Greater h e = refl

-- no row key is below the least
pub least_first : (x : ℕ) (xs : List ℕ) → is_below (x ∷ xs) least ≡ false
least_first x xs = at_zero_by x (slice_cmp nat_cmp xs []) (nat_cmp x 0) (ranked x 0 (nat_cmp x 0) refl) (none_below xs)

just_past_by : (r s o p : Ordering) → s ≡ ordering_reverse r → is_lt o ≡ not (is_lt p) → is_lt (ordering_then r o) ≡ not (is_lt (ordering_then s p))
just_past_by Less s o p e h = rw e refl
just_past_by Equal s o p e h = rw e h
just_past_by Greater s o p e h = rw e refl

-- below the bytes just past k is what isn't past k
pub below_just_past : (k b : List ℕ) → is_below b (just_past k) ≡ not (is_below k b)
below_just_past [] [] = refl
below_just_past [] (x ∷ xs) = least_first x xs
below_just_past (a ∷ as') [] = refl
below_just_past (a ∷ as') (x ∷ xs) =
    just_past_by (nat_cmp x a) (nat_cmp a x) (slice_cmp nat_cmp xs (just_past as')) (slice_cmp nat_cmp as' xs) (nat_cmp_total.antisymm a x) (below_just_past as' xs)

less_of : (r : Ordering) → is_lt r ≡ true → r ≡ Less
less_of Less e = refl
less_of Equal e = cc e
less_of Greater e = cc e

below_by : (x t s : List ℕ) (r : Ordering) → slice_cmp nat_cmp x t ≡ r → is_below x s ≡ true → is_below t s ≡ false → is_lt r ≡ true
below_by x t s Less e h g = refl
below_by x t s Equal e h g = cc (ap is_lt (nat_list_cmp_total.congr x t s e), h, g)
below_by x t s Greater e h g =
    let back : slice_cmp nat_cmp t x ≡ Less = nat_list_cmp_total.antisymm t x ∙ ap ordering_reverse e in
    cc (ap is_lt (nat_list_cmp_total.trans t x s back (less_of (slice_cmp nat_cmp x s) h)), g)

-- x is below s, and s is no further than t
pub below_upto : (x t s : List ℕ) → is_below x s ≡ true → is_below t s ≡ false → is_below x t ≡ true
below_upto x t s h g = below_by x t s (slice_cmp nat_cmp x t) refl h g

pub not_below_itself : (x : List ℕ) → is_below x x ≡ false
not_below_itself x = ap is_lt (tied_itself nat_list_cmp_total x)

turned_by : (r s : Ordering) → s ≡ ordering_reverse r → is_lt r ≡ true → is_lt s ≡ false
turned_by Less s e h = ap is_lt e
turned_by Equal s e h = cc h
turned_by Greater s e h = cc h

pub not_below_back : (x y : List ℕ) → is_below x y ≡ true → is_below y x ≡ false
not_below_back x y h = turned_by (slice_cmp nat_cmp x y) (slice_cmp nat_cmp y x) (nat_list_cmp_total.antisymm y x) h

not_not : (b : Bool) → not (not b) ≡ b
not_not true = refl
not_not false = refl

start_same : (b : Bound) (x : ℕ) (xs : List ℕ) → not (is_below (x ∷ xs) (first_key b)) ≡ is_from b (x ∷ xs)
start_same Unset x xs = ap not (least_first x xs)
start_same (Closed []) x xs = ap not (least_first x xs)
start_same (Closed (y ∷ ys)) x xs = refl
start_same (Past y) x xs = ap not (below_just_past y (x ∷ xs)) ∙ not_not (is_below y (x ∷ xs))

end_same : (b : Bound) (k : List ℕ) → is_before (end_key (row_end b)) k ≡ is_up_to (row_end b) k
end_same Unset k = refl
end_same (Closed []) k = refl
end_same (Closed (y ∷ ys)) k = below_just_past (y ∷ ys) k
end_same (Past []) k = refl
end_same (Past (y ∷ ys)) k = refl

-- the normal range has the same row keys
pub normal_rows : (r : AskedRange) (k : List ℕ) → IsTrue (is_row_key k) → is_in (normal r) k ≡ is_asked r k
normal_rows r [] lawful = cc lawful
normal_rows r (x ∷ xs) lawful = ap (λ b. b && is_before (end_key (row_end r.end)) (x ∷ xs)) (start_same r.start x xs) ∙ ap (λ b. is_from r.start (x ∷ xs) && b) (end_same r.end (x ∷ xs))

-- a range made of its two ends
pub made_rows : (r : AskedRange) (start : List ℕ) (end : Option (List ℕ)) → start ≡ first_key r.start → end ≡ end_key (row_end r.end) → (k : List ℕ) → IsTrue (is_row_key k) → (not (is_below k start) && is_before end k) ≡ is_asked r k
made_rows r start end s e k lawful = ap (λ x. not (is_below k x) && is_before end k) s ∙ ap (λ x. not (is_below k (first_key r.start)) && is_before x k) e ∙ normal_rows r k lawful
