-- The rows of a range, found by keys that stand for its bounds.
use Rattle.std.proofs.Common.{◌≡◌, ℕ, Bool, true, false, List, [], ◌∷◌, Option, Some, None, cond, refl, sym, ap, ◌∙◌}
use Rattle.std.specs.Prelude.{◌&&◌, not, filter}
use Rattle.std.specs.Ordering.{nat_cmp, is_le, is_lt, is_gt, ordering_reverse}
use Rattle.std.specs.declared.cmp.Ordering.{Ordering}
use Rattle.std.specs.declared.cmp.Ordering.TheVariants.{Less, Equal, Greater}
use Rattle.std.specs.Cmp.Lexicographic.{slice_cmp}
use Rattle.std.specs.List.{AllByRecursion, find}
use Rattle.std.specs.List.Sorted.{IsStrictlySortedBy}
use Rattle.std.specs.Map.{keys_of}
use Rattle.std.specs.BTreeMap.Comparable.{le_lt_trans}
use Rattle.std.proofs.lemmas.Cmp.{nat_list_cmp_total, alike_right}
use Rattle.std.proofs.lemmas.Map.Keys.{sorted_head, sorted_tail}
use Rattle.std.proofs.lemmas.List.Kept.{IsStrictlySortedBy-filter}
use Rattle.bt_types.specs.declared.row_range.RowRange.{RowRange}
use Rattle.bt_row.proofs.Covering.{keys_filter}
use Rattle.bt_contents.specs.Ranges.{is_before, is_in, is_from, between, rows_within}

abbrev cmp : List ℕ → List ℕ → Ordering
cmp = slice_cmp nat_cmp

not_above : (r : Ordering) → r ≡ ordering_reverse r → is_le r ≡ true
not_above Less e = cc
not_above Equal e = refl
not_above Greater e = cc

-- a key is at or past itself
itself : (k : List ℕ) → is_le (cmp k k) ≡ true
itself k = not_above (cmp k k) (nat_list_cmp_total.antisymm k k)

-- and not at or past a later one
not_past : (k q : List ℕ) → cmp k q ≡ Less → is_le (cmp q k) ≡ false
not_past k q less = ap is_le (nat_list_cmp_total.antisymm q k ∙ ap ordering_reverse less)

all_past : (b k : List ℕ) (ks : List (List ℕ)) → is_le (cmp b k) ≡ true → AllByRecursion (λ q. cmp k q ≡ Less) ks → AllByRecursion (λ q. is_le (cmp b q) ≡ is_le (cmp k q)) ks
all_past b k [] past later = tt
all_past b k (q ∷ qs) past later = (ap is_le (le_lt_trans nat_list_cmp_total b k q past later.0) ∙ sym (ap is_le later.0), all_past b k qs past later.1)

before_found : (p : List ℕ → Bool) (k : List ℕ) (ks : List (List ℕ)) → AllByRecursion (λ q. cmp k q ≡ Less) ks → is_from (find p ks) k ≡ false
before_found p k [] later = refl
before_found p k (q ∷ qs) later = by (p q) (before_found p k qs later.1)
  where
    by : (t : Bool) → is_from (find p qs) k ≡ false → is_from (cond t (Some q) (find p qs)) k ≡ false
    by true rest = not_past k q later.0
    by false rest = rest

-- keys are at or past these bytes where they are at or past the first such key
pub first_bounds : (b : List ℕ) (ks : List (List ℕ)) → IsStrictlySortedBy cmp ks → AllByRecursion (λ q. is_le (cmp b q) ≡ is_from (find (λ k. is_le (cmp b k)) ks) q) ks
first_bounds b [] sorted = tt
first_bounds b (k ∷ ks) sorted = by (is_le (cmp b k)) refl (first_bounds b ks (sorted_tail cmp k ks sorted))
  where
    by : (t : Bool) → is_le (cmp b k) ≡ t → AllByRecursion (λ q. is_le (cmp b q) ≡ is_from (find (λ k. is_le (cmp b k)) ks) q) ks
        → AllByRecursion (λ q. is_le (cmp b q) ≡ is_from (cond t (Some k) (find (λ k. is_le (cmp b k)) ks)) q) (k ∷ ks)
    by true e rest = (e ∙ sym (itself k), all_past b k ks e (sorted_head cmp k ks sorted))
    by false e rest = (e ∙ sym (before_found (λ k. is_le (cmp b k)) k ks (sorted_head cmp k ks sorted)), rest)

-- a key bounds as its bytes do
pub own_bounds : (b k : List ℕ) (ks : List (List ℕ)) → k ≡ b → AllByRecursion (λ q. is_le (cmp b q) ≡ is_from (Some k) q) ks
own_bounds b k [] same = tt
own_bounds b k (q ∷ qs) same = (ap (λ x. is_le (cmp x q)) (sym same), own_bounds b k qs same)

same_filter : {X : Type 0} (p q : List ℕ → Bool) (rows : List (List ℕ × X)) → AllByRecursion (λ k. p k ≡ q k) (keys_of rows) → filter (λ r. p r.0) rows ≡ filter (λ r. q r.0) rows
same_filter p q [] same = refl
same_filter p q (r ∷ rs) same = rw (same.0, same_filter p q rs same.1) refl

-- no row passes no test
pub none_pass : {X : Type 0} (rows : List (List ℕ × X)) → filter (λ r. false) rows ≡ []
none_pass [] = refl
none_pass (r ∷ rs) = none_pass rs

-- below, from the answer of a test
pub less_of : (r : Ordering) → is_lt r ≡ true → r ≡ Less
less_of Less e = refl
less_of Equal e = cc e
less_of Greater e = cc e

turned_not_gt : (r : Ordering) → is_lt r ≡ false → is_gt (ordering_reverse r) ≡ false
turned_not_gt Less e = cc e
turned_not_gt Equal e = refl
turned_not_gt Greater e = refl

-- what is not below another is not passed by it
pub not_gt : (e s : List ℕ) → is_lt (cmp e s) ≡ false → is_gt (cmp s e) ≡ false
not_gt e s h = ap is_gt (nat_list_cmp_total.antisymm s e) ∙ turned_not_gt (cmp e s) h

gt_not_le : (r : Ordering) → is_gt r ≡ not (is_le r)
gt_not_le Less = refl
gt_not_le Equal = refl
gt_not_le Greater = refl

module _ (range : RowRange) (start end : Option (List ℕ)) where
  both : (ks : List (List ℕ)) → AllByRecursion (λ q. is_le (cmp range.start q) ≡ is_from start q) ks → AllByRecursion (λ q. is_before range.end q ≡ not (is_from end q)) ks
      → AllByRecursion (λ q. is_in range q ≡ (is_from start q && not (is_from end q))) ks
  both [] starts ends = tt
  both (k ∷ ks) starts ends = (rw (starts.0, ends.0) refl, both ks starts.1 ends.1)

  -- the keys that stand for the bounds bound the same rows
  pub same_rows : {X : Type 0} (rows : List (List ℕ × X)) → AllByRecursion (λ q. is_le (cmp range.start q) ≡ is_from start q) (keys_of rows) → AllByRecursion (λ q. is_before range.end q ≡ not (is_from end q)) (keys_of rows)
      → between start end rows ≡ rows_within range rows
  same_rows rows starts ends = sym (same_filter (is_in range) (λ q. is_from start q && not (is_from end q)) rows (both (keys_of rows) starts ends))

-- no end is before every key
pub no_end : (o : Option (List ℕ)) (ks : List (List ℕ)) → o ≡ None → AllByRecursion (λ q. is_before o q ≡ not (is_from None q)) ks
no_end o [] none = tt
no_end o (k ∷ ks) none = (ap (λ x. is_before x k) none, no_end o ks none)

-- an end is before the keys at or past it
pub an_end : (o : Option (List ℕ)) (b : List ℕ) (end : Option (List ℕ)) (ks : List (List ℕ)) → o ≡ Some b → AllByRecursion (λ q. is_le (cmp b q) ≡ is_from end q) ks
    → AllByRecursion (λ q. is_before o q ≡ not (is_from end q)) ks
an_end o b end [] some bounds = tt
an_end o b end (k ∷ ks) some bounds = (ap (λ x. is_before x k) some ∙ gt_not_le (cmp b k) ∙ ap not bounds.0, an_end o b end ks some bounds.1)

less_equal : (a b c : List ℕ) → cmp a b ≡ Less → cmp b c ≡ Equal → cmp a c ≡ Less
less_equal a b c less same = sym (alike_right nat_list_cmp_total b c a same) ∙ less

-- a range that runs backwards has no rows
pub backwards : {X : Type 0} (s e : List ℕ) (rows : List (List ℕ × X)) → cmp e s ≡ Less → between (Some s) (Some e) rows ≡ []
backwards s e [] less = refl
backwards s e (r ∷ rs) less = by (cmp s r.0) refl (backwards s e rs less)
  where
    by : (o : Ordering) → cmp s r.0 ≡ o → between (Some s) (Some e) rs ≡ [] → cond (is_le o && not (is_le (cmp e r.0))) (r ∷ between (Some s) (Some e) rs) (between (Some s) (Some e) rs) ≡ []
    by Less is rest = rw (ap is_le (nat_list_cmp_total.trans e s r.0 less is)) rest
    by Equal is rest = rw (ap is_le (less_equal e s r.0 less is)) rest
    by Greater is rest = rest

-- they stand in the order of their keys
pub between_sorted : {X : Type 0} (start end : Option (List ℕ)) (rows : List (List ℕ × X)) → IsStrictlySortedBy cmp (keys_of rows) → IsStrictlySortedBy cmp (keys_of (between start end rows))
between_sorted start end rows sorted =
    rw (keys_filter (λ q. is_from start q && not (is_from end q)) rows) (IsStrictlySortedBy-filter cmp (λ q. is_from start q && not (is_from end q)) (keys_of rows) sorted)
