-- What the ranges of a set of rows hold.
use Rattle.std.proofs.Common.{◌≡◌, ◌<◌, ◌≤◌, ℕ, suc, zero, Bool, true, false, not, List, [], ◌∷◌, length, get_or, Option, Some, None, Result, Ok, Err, refl, sym, ap, ◌∙◌, arith, inl, inr, ◌&&◌, ◌||◌, if◌then◌else◌, cond}
use Rattle.std.specs.Prelude.{IsTrue, All, filter, map, bytes_eq, is_ok}
use Rattle.std.specs.List.{list_any, AllByRecursion, AllWithin}
use Rattle.std.specs.List.Sorted.{IsPermutation, IsSorted, IsNonDecreasingBy, IsBinarySearchResult, IsSearchInRange}
use Rattle.std.specs.Ordering.{nat_cmp, is_lt, is_eq, ordering_reverse, ordering_index}
use Rattle.std.specs.declared.cmp.Ordering.{Ordering}
use Rattle.std.specs.declared.cmp.Ordering.TheVariants.{Less, Equal, Greater}
use Rattle.std.specs.Cmp.Lexicographic.{slice_cmp}
use Rattle.std.proofs.lemmas.Bool.{cases_lt}
use Rattle.std.proofs.lemmas.Cmp.{nat_list_cmp_total}
use Rattle.std.proofs.lemmas.Map.Text.{is_eq-slice_cmp}
use Rattle.std.proofs.lemmas.List.Elements.{recursion_from_All, filter_passes}
use Rattle.std.proofs.lemmas.List.Folds.{list_any-append, list_any_at, list_any_none}
use Rattle.std.proofs.lemmas.List.Sorted.{All-permutation, list_any-IsPermutation, sorted_far, ranks_by}
use Rattle.bt_types.specs.Grammar.{is_row_key}
use Rattle.bt_types.specs.declared.row_range.RowRange.{RowRange}
use Rattle.bt_range.specs.declared.asked_range.AskedRange.{AskedRange}
use Rattle.bt_range.specs.Bounds.{is_below, is_before, is_in, is_asked, normal}
use Rattle.bt_range.specs.RowSets.{is_filled, stops_before, AreApart, is_in_any, is_selected, key_range, all_rows, listed, side, AreAscending, AreFilled}
use Rattle.bt_range.proofs.Orders.{below_just_past, below_upto, not_below_back, least_first, normal_rows}

-- ---- what is listed

this_by : (r s : Ordering) → s ≡ ordering_reverse r → (not (is_lt s) && not (is_lt r)) ≡ is_eq r
this_by Less s e = rw e refl
this_by Equal s e = rw e refl
this_by Greater s e = rw e refl

-- the range of a key holds that key alone
in_key_range : (k x : List ℕ) → is_in (key_range k) x ≡ bytes_eq k x
in_key_range k x =
    ap (λ b. not (is_below x k) && b) (below_just_past k x)
    ∙ this_by (slice_cmp nat_cmp k x) (slice_cmp nat_cmp x k) (nat_list_cmp_total.antisymm x k)
    ∙ is_eq-slice_cmp k x

in_any_keys : (keys : List (List ℕ)) (x : List ℕ) → is_in_any (map key_range keys) x ≡ list_any (λ other. bytes_eq other x) keys
in_any_keys [] x = refl
in_any_keys (k ∷ ks) x = ap (λ b. b || is_in_any (map key_range ks) x) (in_key_range k x) ∙ ap (λ b. bytes_eq k x || b) (in_any_keys ks x)

in_any_ranges : (rs : List AskedRange) (x : List ℕ) → IsTrue (is_row_key x) → is_in_any (map normal rs) x ≡ list_any (λ r. is_asked r x) rs
in_any_ranges [] x lawful = refl
in_any_ranges (r ∷ rs) x lawful = ap (λ b. b || is_in_any (map normal rs) x) (normal_rows r x lawful) ∙ ap (λ b. is_asked r x || b) (in_any_ranges rs x lawful)

in_all_rows : (x : List ℕ) → IsTrue (is_row_key x) → is_in_any (all_rows ∷ []) x ≡ true
in_all_rows [] lawful = cc lawful
in_all_rows (x ∷ xs) lawful = ap (λ b. (not b && true) || false) (least_first x xs)

-- the ranges of what is listed hold the rows that are selected
listed_rows : (keys : List (List ℕ)) (rs : List AskedRange) (x : List ℕ) → IsTrue (is_row_key x) → is_in_any (listed keys rs) x ≡ is_selected keys rs x
listed_rows [] [] x lawful = in_all_rows x lawful
listed_rows [] (r ∷ rs) x lawful = in_any_ranges (r ∷ rs) x lawful
listed_rows (k ∷ ks) rs x lawful =
    list_any-append (λ r. is_in r x) (map key_range (k ∷ ks)) (map normal rs)
    ∙ ap (λ b. b || is_in_any (map normal rs) x) (in_any_keys (k ∷ ks) x)
    ∙ ap (λ b. list_any (λ other. bytes_eq other x) (k ∷ ks) || b) (in_any_ranges rs x lawful)

-- ---- ranges that hold nothing are left out

empty_by : (p q : Bool) → (q ≡ true → p ≡ true) → (not p && q) ≡ false
empty_by true q h = refl
empty_by false true h = cc (h refl)
empty_by false false h = refl

pub empty_holds : (e : Option (List ℕ)) (s k : List ℕ) → is_before e s ≡ false → (not (is_below k s) && is_before e k) ≡ false
empty_holds None s k h = cc h
empty_holds (Some e) s k h = empty_by (is_below k s) (is_below k e) (λ q. below_upto k s e q h)

filled_by : (r : RowRange) (rs : List RowRange) (k : List ℕ) (b : Bool) → is_filled r ≡ b → is_in_any (filter is_filled rs) k ≡ is_in_any rs k → is_in_any (cond b (r ∷ filter is_filled rs) (filter is_filled rs)) k ≡ is_in_any (r ∷ rs) k
filled_by r rs k true e h = ap (λ b. is_in r k || b) h
filled_by r rs k false e h = h ∙ sym (ap (λ b. b || is_in_any rs k) (empty_holds r.end r.start k e))

in_any_filled : (rs : List RowRange) (k : List ℕ) → is_in_any (filter is_filled rs) k ≡ is_in_any rs k
in_any_filled [] k = refl
in_any_filled (r ∷ rs) k = filled_by r rs k (is_filled r) refl (in_any_filled rs k)

pub sorted_filled : (rs all : List RowRange) → IsPermutation (filter is_filled rs) all → AreFilled all
sorted_filled rs all same = recursion_from_All (λ r. is_filled r ≡ true) all (All-permutation (λ r. is_filled r ≡ true) (filter is_filled rs) all same (filter_passes is_filled rs))

-- the merged ranges hold the rows that are selected
pub set_rows : (keys : List (List ℕ)) (ranges : List AskedRange) (made sorted held : List RowRange) → made ≡ listed keys ranges → IsPermutation (filter is_filled made) sorted → ((k : List ℕ) → is_in_any held k ≡ is_in_any sorted k)
    → (k : List ℕ) → IsTrue (is_row_key k) → is_in_any held k ≡ is_selected keys ranges k
set_rows keys ranges made sorted held is same merged k lawful =
    merged k ∙ sym (list_any-IsPermutation (λ r. is_in r k) (filter is_filled made) sorted same) ∙ in_any_filled made k ∙ ap (λ rs. is_in_any rs k) is ∙ listed_rows keys ranges k lawful

-- ---- order

ascending_far : (rs : List RowRange) → ((i j : ℕ) (d : RowRange) → i ≤ j → j < length rs → is_below (get_or rs j d).start (get_or rs i d).start ≡ false) → AreAscending rs
ascending_far [] far = tt
ascending_far (r ∷ rs) far = (
  recursion_from_All (λ s. is_below s.start r.start ≡ false) rs (λ k d h. far 0 (suc k) d (omega arith) (omega arith)),
  ascending_far rs (λ i j d le lt. far (suc i) (suc j) d (omega arith) (omega arith)),
)

pub ascending_sorted : (rs : List RowRange) → IsSorted (λ (a : RowRange) (b : RowRange). slice_cmp nat_cmp a.start b.start) rs → AreAscending rs
ascending_sorted rs sorted = ascending_far rs (sorted_far (λ (a : RowRange) (b : RowRange). is_below a.start b.start) (ranks_by nat_list_cmp_total (λ (r : RowRange). r.start)) rs sorted)

-- ---- the search for a key

at_most_two : (r : Ordering) → ordering_index r ≤ 2
at_most_two Less = omega arith
at_most_two Equal = omega arith
at_most_two Greater = omega arith

abbrev side_of : Bool → Bool → Ordering
side_of p q = if p then Greater else (if q then Equal else Less)

less_of : (p q : Bool) → p ≡ false → q ≡ false → ordering_index (side_of p q) ≡ 0
less_of p q e f = rw (e, f) refl

-- a range that stops short of s ends before what is not below s
passed : (e : Option (List ℕ)) (r s k : List ℕ) → is_before e r ≡ true → stops_before e s ≡ true → is_below k s ≡ false → (is_below k r ≡ false) × (is_before e k ≡ false)
passed None r s k filled stops h = cc stops
passed (Some e) r s k filled stops h =
    let past : is_below e k ≡ true = below_upto e k s stops h in
    let start : is_below r k ≡ true = below_upto r k e filled (not_below_back e k past) in
    (not_below_back r k start, not_below_back e k past)

sides_by : (r s : RowRange) (k : List ℕ) (b : Bool) → is_below k s.start ≡ b → is_filled r ≡ true → stops_before r.end s.start ≡ true → ordering_index (side r k) ≤ ordering_index (side_of b (is_before s.end k))
sides_by r s k true e filled stops = at_most_two (side r k)
sides_by r s k false e filled stops =
    let p = passed r.end r.start s.start k filled stops e in
    let zero_is : ordering_index (side r k) ≡ 0 = less_of (is_below k r.start) (is_before r.end k) p.0 p.1 in
    omega (arith, zero_is)

all_at : {X : Type 0} (P : X → Type 0) (xs : List X) (k : ℕ) (d : X) → k < length xs → AllByRecursion P xs → P (get_or xs k d)
all_at P [] k d h all = absurd (omega arith)
all_at P (x ∷ xs) zero d h all = all.0
all_at P (x ∷ xs) (suc k) d h all = all_at P xs k d (omega arith) all.1

sides_rise : (rs : List RowRange) (k : List ℕ) → AreApart rs → IsNonDecreasingBy (λ r. ordering_index (side r k)) rs
sides_rise [] k apart i j d le in_range = absurd (omega arith)
sides_rise (r ∷ rs) k apart zero zero d le in_range = omega arith
sides_rise (r ∷ rs) k apart zero (suc j) d le in_range =
    sides_by r (get_or rs j d) k _ refl apart.0 (all_at (λ s. stops_before r.end s.start ≡ true) rs j d (omega arith) apart.1)
sides_rise (r ∷ rs) k apart (suc i) zero d le in_range = absurd (omega arith)
sides_rise (r ∷ rs) k apart (suc i) (suc j) d le in_range = sides_rise rs k apart.2 i j d (omega arith) (omega arith)

held_by : (p q : Bool) → side_of p q ≡ Equal → (not p && q) ≡ true
held_by true q e = cc e
held_by false true e = refl
held_by false false e = cc e

less_by : (p q : Bool) → side_of p q ≡ Less → (not p && q) ≡ false
less_by true q e = refl
less_by false true e = cc e
less_by false false e = refl

greater_by : (p q : Bool) → side_of p q ≡ Greater → (not p && q) ≡ false
greater_by true q e = refl
greater_by false true e = cc e
greater_by false false e = cc e

none_at : (rs : List RowRange) (k : List ℕ) (i : ℕ) → AllWithin (λ r. side r k ≡ Less) rs 0 i → AllWithin (λ r. side r k ≡ Greater) rs i (length rs) → All (λ r. is_in r k ≡ false) rs
none_at rs k i below above j d in_range =
    elim (cases_lt j i) [
      | inl h ↦ less_by (is_below k (get_or rs j d).start) (is_before (get_or rs j d).end k) (below j d (omega arith) h)
      | inr h ↦ greater_by (is_below k (get_or rs j d).start) (is_before (get_or rs j d).end k) (above j d h in_range)
    ]

-- a binary search finds a range that holds the key, where there is one
pub searched : (rs : List RowRange) (k : List ℕ) (r : Result ℕ ℕ) → AreApart rs → IsSearchInRange r (length rs) → IsBinarySearchResult (λ s. side s k) rs r → is_ok r ≡ is_in_any rs k
searched rs k (Ok i) apart in_range same =
    sym (list_any_at (λ r. is_in r k) rs i all_rows in_range (held_by (is_below k (get_or rs i all_rows).start) (is_before (get_or rs i all_rows).end k) (same all_rows)))
searched rs k (Err i) apart in_range parted =
    let p = parted (sides_rise rs k apart) in
    sym (list_any_none (λ r. is_in r k) rs (none_at rs k i p.0 p.1))
