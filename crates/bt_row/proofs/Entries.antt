-- Entries in the order of their keys: one put in, one taken out, and what each key has.
use Rattle.std.proofs.Common.{◌≡◌, Bool, true, false, List, [], ◌∷◌, Option, Some, None, cond, refl, sym, ap, ◌∙◌, arith}
use Rattle.std.specs.Prelude.{filter, map}
use Rattle.std.specs.Ordering.{is_eq, match_ordering, ordering_reverse}
use Rattle.std.specs.declared.cmp.Ordering.{Ordering}
use Rattle.std.specs.declared.cmp.Ordering.TheVariants.{Less, Equal, Greater}
use Rattle.std.specs.Cmp.{IsTotalOrder}
use Rattle.std.specs.List.{AllByRecursion}
use Rattle.std.specs.List.Sorted.{IsStrictlySortedBy}
use Rattle.std.specs.Map.{lookup, remove_entry, set_value, keys_of}
use Rattle.std.specs.BTreeMap.{insert_entry, is_at}
use Rattle.std.proofs.lemmas.Cmp.{alike_right, eq_by_cmp_equiv, tied_itself}
use Rattle.std.proofs.lemmas.Map.{lookup-none}
use Rattle.std.proofs.lemmas.Map.Entries.{lookup_at_gap, lookup_head, lookup_tail, none_below_head, none_past_head}
use Rattle.std.proofs.lemmas.Map.Keys.{IsDistinct-from_sorted, sorted_tail}

module _ {K X : Type 0} {R : K → K → Ordering} (o : IsTotalOrder R) where
  by_side : (k : K) (v w : X) (e : K × X) (es : List (K × X)) (r : Ordering) → R k e.0 ≡ r → IsStrictlySortedBy R (keys_of (e ∷ es)) → lookup (is_at (R k)) (e ∷ es) ≡ Some w
      → (lookup (is_at (R k)) es ≡ Some w → set_value (is_at (R k)) es v ≡ insert_entry R es k v)
      → set_value (is_at (R k)) (e ∷ es) v ≡ insert_entry R (e ∷ es) k v
  by_side k v w e es Less side sorted found rest =
      let none : lookup (is_at (R k)) (e ∷ es) ≡ None = lookup_at_gap o k (e ∷ es) 0 sorted (λ j x low _. absurd (omega arith)) (λ x first. let same : e ≡ x = cc in ap (λ y. R k y.0) (sym same) ∙ side) in
      cc (none, found)
  by_side k v w e es Equal side sorted found rest = rw side refl
  by_side k v w e es Greater side sorted found rest = rw side (ap (λ xs. e ∷ xs) (rest (rw side at found)))

  -- in the order of keys, what is written over an entry that is there is what is put at its key
  pub set_is_insert : (k : K) (v w : X) (es : List (K × X)) → IsStrictlySortedBy R (keys_of es) → lookup (is_at (R k)) es ≡ Some w → set_value (is_at (R k)) es v ≡ insert_entry R es k v
  set_is_insert k v w [] sorted found = cc
  set_is_insert k v w (e ∷ es) sorted found = by_side k v w e es (R k e.0) refl sorted found (set_is_insert k v w es (sorted_tail R e.0 (keys_of es) sorted))

-- ---- an entry put in

module _ {K X : Type 0} {R : K → K → Ordering} (o : IsTotalOrder R) (k : K) (v : X) where
  below_put : (x : K) (es : List (K × X)) → R x k ≡ Less → AllByRecursion (λ y. R x y ≡ Less) (keys_of es) → AllByRecursion (λ y. R x y ≡ Less) (keys_of (insert_entry R es k v))
  below_put x [] less below = (less, tt)
  below_put x (e ∷ es) less below = by (R k e.0) (below_put x es less below.1)
    where
      by : (r : Ordering) → AllByRecursion (λ y. R x y ≡ Less) (keys_of (insert_entry R es k v)) → AllByRecursion (λ y. R x y ≡ Less) (keys_of (match_ordering r ((k, v) ∷ e ∷ es) ((e.0, v) ∷ es) (e ∷ insert_entry R es k v)))
      by Less rest = (less, below)
      by Equal rest = below
      by Greater rest = (below.0, rest)

  later : (x : K) (ys : List K) → R k x ≡ Less → AllByRecursion (λ y. R x y ≡ Less) ys → AllByRecursion (λ y. R k y ≡ Less) ys
  later x [] less below = tt
  later x (y ∷ ys) less below = (o.trans k x y less below.0, later x ys less below.1)

  -- entries in order are in order still
  pub sorted_put : (es : List (K × X)) → IsStrictlySortedBy R (keys_of es) → IsStrictlySortedBy R (keys_of (insert_entry R es k v))
  unfolding IsStrictlySortedBy
  sorted_put [] sorted = (tt, tt)
  sorted_put (e ∷ es) sorted = by (R k e.0) refl (sorted_put es sorted.1)
    where
      by : (r : Ordering) → R k e.0 ≡ r → IsStrictlySortedBy R (keys_of (insert_entry R es k v)) → IsStrictlySortedBy R (keys_of (match_ordering r ((k, v) ∷ e ∷ es) ((e.0, v) ∷ es) (e ∷ insert_entry R es k v)))
      by Less is rest = ((is, later e.0 (keys_of es) is sorted.0), sorted)
      by Equal is rest = sorted
      by Greater is rest = (below_put e.0 es (o.antisymm e.0 k ∙ ap ordering_reverse is) sorted.0, rest)

module _ {K X : Type 0} {R : K → K → Ordering} (o : IsTotalOrder R) (exact : (x y : K) → R x y ≡ Equal → x ≡ y) where
  -- the value at a key once one was put in
  pub lookup_put : (key k : K) (v : X) (es : List (K × X)) → lookup (is_at (R k)) (insert_entry R es key v) ≡ cond (is_at (R k) key) (Some v) (lookup (is_at (R k)) es)
  lookup_put key k v [] = refl
  lookup_put key k v (e ∷ es) = by (R key e.0) refl (lookup_put key k v es)
    where
      over : (t : Bool) (old : Option X) → cond t (Some v) old ≡ cond t (Some v) (cond t (Some e.1) old)
      over true old = refl
      over false old = refl

      not_both : (r : Ordering) → is_eq r ≡ true → r ≡ Greater → ⊥
      not_both Less a b = cc b
      not_both Equal a b = cc b
      not_both Greater a b = cc a

      equal : (r : Ordering) → is_eq r ≡ true → r ≡ Equal
      equal Less a = cc a
      equal Equal a = refl
      equal Greater a = cc a

      apart : (s t : Bool) → is_at (R k) e.0 ≡ s → is_at (R k) key ≡ t → R key e.0 ≡ Greater → cond s (Some e.1) (cond t (Some v) (lookup (is_at (R k)) es)) ≡ cond t (Some v) (cond s (Some e.1) (lookup (is_at (R k)) es))
      apart true true at_e at_key is =
          let same_e : k ≡ e.0 = exact k e.0 (equal (R k e.0) at_e) in
          let same_key : k ≡ key = exact k key (equal (R k key) at_key) in
          let itself : R key e.0 ≡ R k k = rw (← same_e, ← same_key) refl in
          absurd (not_both (R k k) ((eq_by_cmp_equiv o).refl k) (sym itself ∙ is))
      apart true false at_e at_key is = refl
      apart false true at_e at_key is = refl
      apart false false at_e at_key is = refl

      by : (r : Ordering) → R key e.0 ≡ r → lookup (is_at (R k)) (insert_entry R es key v) ≡ cond (is_at (R k) key) (Some v) (lookup (is_at (R k)) es)
          → lookup (is_at (R k)) (match_ordering r ((key, v) ∷ e ∷ es) ((e.0, v) ∷ es) (e ∷ insert_entry R es key v)) ≡ cond (is_at (R k) key) (Some v) (lookup (is_at (R k)) (e ∷ es))
      by Less is rest = refl
      by Equal is rest = rw (← exact key e.0 is) (over (is_at (R k) key) (lookup (is_at (R k)) es))
      by Greater is rest = rw rest (apart (is_at (R k) e.0) (is_at (R k) key) refl refl is)

module _ {K X : Type 0} (R : K → K → Ordering) (p : K → Bool) where
  all_removed : (Q : K → Type 0) (es : List (K × X)) → AllByRecursion Q (keys_of es) → AllByRecursion Q (keys_of (remove_entry p es))
  all_removed Q [] all = tt
  all_removed Q (e ∷ es) all = by (p e.0) (all_removed Q es all.1)
    where
      by : (t : Bool) → AllByRecursion Q (keys_of (remove_entry p es)) → AllByRecursion Q (keys_of (cond t es (e ∷ remove_entry p es)))
      by true rest = all.1
      by false rest = (all.0, rest)

  -- entries in order are in order without one
  pub sorted_removed : (es : List (K × X)) → IsStrictlySortedBy R (keys_of es) → IsStrictlySortedBy R (keys_of (remove_entry p es))
  unfolding IsStrictlySortedBy
  sorted_removed [] sorted = tt
  sorted_removed (e ∷ es) sorted = by (p e.0) (sorted_removed es sorted.1)
    where
      by : (t : Bool) → IsStrictlySortedBy R (keys_of (remove_entry p es)) → IsStrictlySortedBy R (keys_of (cond t es (e ∷ remove_entry p es)))
      by true rest = sorted.1
      by false rest = (all_removed (λ y. R e.0 y ≡ Less) es sorted.0, rest)

-- ---- entries with the same values

module _ {K X : Type 0} {R : K → K → Ordering} (o : IsTotalOrder R) where
  abbrev find : List (K × X) → K → Option X
  find es q = lookup (is_at (R q)) es

  at_head : (x : K × X) (xs : List (K × X)) → find (x ∷ xs) x.0 ≡ Some x.1
  at_head x xs = lookup_head (is_at (R x.0)) x xs (ap is_eq (tied_itself o x.0))

  past_head : (q : K) (x : K × X) (xs : List (K × X)) → IsStrictlySortedBy R (keys_of (x ∷ xs)) → is_at (R q) x.0 ≡ true → find xs q ≡ None
  past_head q x xs sorted same = lookup-none (is_at (R q)) xs (none_past_head (eq_by_cmp_equiv o) q x xs (IsDistinct-from_sorted R (keys_of (x ∷ xs)) sorted) same)

  module _ (x y : K × X) (xs ys : List (K × X)) (sorted : IsStrictlySortedBy R (keys_of (x ∷ xs))) (also : IsStrictlySortedBy R (keys_of (y ∷ ys))) (same : (q : K) → find (x ∷ xs) q ≡ find (y ∷ ys) q) where
    heads_by : (r : Ordering) → R x.0 y.0 ≡ r → R x.0 y.0 ≡ Equal
    heads_by Less is = let none = lookup-none (is_at (R x.0)) (y ∷ ys) (none_below_head o x.0 y ys also is) in let some = sym (at_head x xs) ∙ same x.0 ∙ none in cc
    heads_by Equal is = is
    heads_by Greater is = let none = lookup-none (is_at (R y.0)) (x ∷ xs) (none_below_head o y.0 x xs sorted (o.antisymm y.0 x.0 ∙ ap ordering_reverse is)) in let some = sym (at_head y ys) ∙ sym (same y.0) ∙ none in cc

    heads : R x.0 y.0 ≡ Equal
    heads = heads_by (R x.0 y.0) refl

    first_values : x.1 ≡ y.1
    first_values = let some : Some x.1 ≡ Some y.1 = sym (at_head x xs) ∙ same x.0 ∙ lookup_head (is_at (R x.0)) y ys (ap is_eq heads) in cc

    tails : (q : K) → find xs q ≡ find ys q
    tails q = by (is_at (R q) x.0) refl
      where
        alike : is_at (R q) y.0 ≡ is_at (R q) x.0
        alike = ap is_eq (sym (alike_right o x.0 y.0 q heads))

        by : (t : Bool) → is_at (R q) x.0 ≡ t → find xs q ≡ find ys q
        by true is = past_head q x xs sorted is ∙ sym (past_head q y ys also (alike ∙ is))
        by false is = sym (lookup_tail (is_at (R q)) x xs is) ∙ same q ∙ lookup_tail (is_at (R q)) y ys (alike ∙ is)

  -- entries in order with the same values are the same, where keys that compare as equal are
  pub same_entries : ((x y : K) → R x y ≡ Equal → x ≡ y) → (es fs : List (K × X)) → IsStrictlySortedBy R (keys_of es) → IsStrictlySortedBy R (keys_of fs) → ((q : K) → find es q ≡ find fs q) → es ≡ fs
  same_entries exact [] [] sorted also same = refl
  same_entries exact [] (y ∷ ys) sorted also same = let some = sym (at_head y ys) ∙ sym (same y.0) in cc
  same_entries exact (x ∷ xs) [] sorted also same = let some = sym (at_head x xs) ∙ same x.0 in cc
  same_entries exact (x ∷ xs) (y ∷ ys) sorted also same =
      let keys : x.0 ≡ y.0 = exact x.0 y.0 (heads x y xs ys sorted also same) in
      let values : x.1 ≡ y.1 = first_values x y xs ys sorted also same in
      let rest : xs ≡ ys = same_entries exact xs ys (sorted_tail R x.0 (keys_of xs) sorted) (sorted_tail R y.0 (keys_of ys) also) (tails x y xs ys sorted also same) in
      λ i. (keys i, values i) ∷ rest i

-- ---- entries with mapped values

module _ {K X Y : Type 0} (g : X → Y) where
  abbrev pub mapped : List (K × X) → List (K × Y)
  mapped es = map {B = K × Y} (λ e. (e.0, g e.1)) es

  pub mapped_set : (p : K → Bool) (es : List (K × X)) (x : X) → mapped (set_value p es x) ≡ set_value p (mapped es) (g x)
  mapped_set p [] x = refl
  mapped_set p (e ∷ es) x = by (p e.0) (mapped_set p es x)
    where
      by : (t : Bool) → mapped (set_value p es x) ≡ set_value p (mapped es) (g x) → mapped (cond t ((e.0, x) ∷ es) (e ∷ set_value p es x)) ≡ cond t ((e.0, g x) ∷ mapped es) ((e.0, g e.1) ∷ set_value p (mapped es) (g x))
      by true rest = refl
      by false rest = ap (λ es. (e.0, g e.1) ∷ es) rest

  pub mapped_remove : (p : K → Bool) (es : List (K × X)) → mapped (remove_entry p es) ≡ remove_entry p (mapped es)
  mapped_remove p [] = refl
  mapped_remove p (e ∷ es) = by (p e.0) (mapped_remove p es)
    where
      by : (t : Bool) → mapped (remove_entry p es) ≡ remove_entry p (mapped es) → mapped (cond t es (e ∷ remove_entry p es)) ≡ cond t (mapped es) ((e.0, g e.1) ∷ remove_entry p (mapped es))
      by true rest = refl
      by false rest = ap (λ es. (e.0, g e.1) ∷ es) rest

  pub mapped_insert : (R : K → K → Ordering) (es : List (K × X)) (k : K) (x : X) → mapped (insert_entry R es k x) ≡ insert_entry R (mapped es) k (g x)
  mapped_insert R [] k x = refl
  mapped_insert R (e ∷ es) k x = by (R k e.0) (mapped_insert R es k x)
    where
      by : (r : Ordering) → mapped (insert_entry R es k x) ≡ insert_entry R (mapped es) k (g x)
          → mapped (match_ordering r ((k, x) ∷ e ∷ es) ((e.0, x) ∷ es) (e ∷ insert_entry R es k x)) ≡ match_ordering r ((k, g x) ∷ (e.0, g e.1) ∷ mapped es) ((e.0, g x) ∷ mapped es) ((e.0, g e.1) ∷ insert_entry R (mapped es) k (g x))
      by Less rest = refl
      by Equal rest = refl
      by Greater rest = ap (λ es. (e.0, g e.1) ∷ es) rest

  pub mapped_filter : (p : K → Bool) (es : List (K × X)) → mapped (filter (λ e. p e.0) es) ≡ filter (λ e. p e.0) (mapped es)
  mapped_filter p [] = refl
  mapped_filter p (e ∷ es) = by (p e.0) (mapped_filter p es)
    where
      by : (t : Bool) → mapped (filter (λ e. p e.0) es) ≡ filter (λ e. p e.0) (mapped es) → mapped (cond t (e ∷ filter (λ e. p e.0) es) (filter (λ e. p e.0) es)) ≡ cond t ((e.0, g e.1) ∷ filter (λ e. p e.0) (mapped es)) (filter (λ e. p e.0) (mapped es))
      by true rest = ap (λ es. (e.0, g e.1) ∷ es) rest
      by false rest = rest

module _ {K X : Type 0} (p : K → Bool) where
  -- an entry that was written goes as the one before it
  pub remove_set : (es : List (K × X)) (x : X) → remove_entry p (set_value p es x) ≡ remove_entry p es
  remove_set [] x = refl
  remove_set (e ∷ es) x = by (p e.0) refl (remove_set es x)
    where
      by : (t : Bool) → p e.0 ≡ t → remove_entry p (set_value p es x) ≡ remove_entry p es → remove_entry p (cond t ((e.0, x) ∷ es) (e ∷ set_value p es x)) ≡ cond t es (e ∷ remove_entry p es)
      by true is rest = rw is refl
      by false is rest = rw is (ap (λ es. e ∷ es) rest)

  pub remove_absent : (es : List (K × X)) → lookup p es ≡ None → remove_entry p es ≡ es
  remove_absent [] none = refl
  remove_absent (e ∷ es) none = by (p e.0) none (remove_absent es)
    where
      by : (t : Bool) → cond t (Some e.1) (lookup p es) ≡ None → (lookup p es ≡ None → remove_entry p es ≡ es) → cond t es (e ∷ remove_entry p es) ≡ e ∷ es
      by true some rest = cc some
      by false none rest = ap (λ es. e ∷ es) (rest none)
