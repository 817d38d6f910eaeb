-- Maps in the order of their keys.
use Rattle.std.proofs.Common.{◌≡◌, Bool, true, false, List, [], ◌∷◌, Some, cond, refl, ap, ◌∙◌}
use Rattle.std.specs.Ordering.{match_ordering, ordering_reverse}
use Rattle.std.specs.declared.cmp.Ordering.{Ordering}
use Rattle.std.specs.declared.cmp.Ordering.TheVariants.{Less, Equal, Greater}
use Rattle.std.specs.Cmp.{IsTotalOrder}
use Rattle.std.specs.List.{AllByRecursion}
use Rattle.std.specs.List.Sorted.{IsStrictlySortedBy}
use Rattle.std.specs.Map.{keys_of, lookup, remove_entry}
use Rattle.std.specs.BTreeMap.{insert_entry}
use Rattle.std.proofs.lemmas.Map.Keys.{sorted_head, sorted_tail}

weaker : {K : Type 0} (P Q : K → Type 0) → ((k : K) → P k → Q k) → (ks : List K) → AllByRecursion P ks → AllByRecursion Q ks
weaker P Q f [] all = tt
weaker P Q f (k ∷ ks) all = (f k all.0, weaker P Q f ks all.1)

sorted_cons : {K : Type 0} (R : K → K → Ordering) (k : K) (ks : List K) → AllByRecursion (λ y. R k y ≡ Less) ks → IsStrictlySortedBy R ks → IsStrictlySortedBy R (k ∷ ks)
unfolding IsStrictlySortedBy
sorted_cons R k ks above sorted = (above, sorted)

module _ {K : Type 0} {R : K → K → Ordering} (o : IsTotalOrder R) where
  above_of : (k l : K) → R k l ≡ Greater → R l k ≡ Less
  above_of k l is = o.antisymm l k ∙ ap ordering_reverse is

  -- the keys behind a greater one are greater
  behind : (k l : K) (ks : List K) → R k l ≡ Less → IsStrictlySortedBy R (l ∷ ks) → AllByRecursion (λ y. R k y ≡ Less) (l ∷ ks)
  behind k l ks is sorted = (is, weaker (λ y. R l y ≡ Less) (λ y. R k y ≡ Less) (λ y. o.trans k l y is) ks (sorted_head R l ks sorted))

module _ {K X : Type 0} where
  module _ (P : K → Type 0) (test : K → Bool) where
    removed_by : (e : K × X) (es : List (K × X)) (b : Bool) → P e.0 → AllByRecursion P (keys_of es) → AllByRecursion P (keys_of (remove_entry test es)) → AllByRecursion P (keys_of (cond b es (e ∷ remove_entry test es)))
    removed_by e es true head all rest = all
    removed_by e es false head all rest = (head, rest)

    all_remove : (es : List (K × X)) → AllByRecursion P (keys_of es) → AllByRecursion P (keys_of (remove_entry test es))
    all_remove [] all = tt
    all_remove (e ∷ es) all = removed_by e es (test e.0) all.0 all.1 (all_remove es all.1)

  -- what is looked up behind another key stays
  module _ (gone test : K → Bool) (apart : (k : K) → gone k ≡ true → test k ≡ false) where
    lookup_by : (e : K × X) (es : List (K × X)) (b : Bool) → gone e.0 ≡ b → lookup test (remove_entry gone es) ≡ lookup test es → lookup test (cond b es (e ∷ remove_entry gone es)) ≡ lookup test (e ∷ es)
    lookup_by e es true is rest = rw (apart e.0 is) refl
    lookup_by e es false is rest = ap (λ o. cond (test e.0) (Some e.1) o) rest

    pub lookup_remove : (es : List (K × X)) → lookup test (remove_entry gone es) ≡ lookup test es
    lookup_remove [] = refl
    lookup_remove (e ∷ es) = lookup_by e es (gone e.0) refl (lookup_remove es)

    remove_by : (e : K × X) (es : List (K × X)) (b d : Bool) → gone e.0 ≡ b → test e.0 ≡ d → remove_entry test (remove_entry gone es) ≡ remove_entry gone (remove_entry test es)
        → remove_entry test (cond b es (e ∷ remove_entry gone es)) ≡ remove_entry gone (cond d es (e ∷ remove_entry test es))
    remove_by e es true true is other rest = cc (apart e.0 is, other)
    remove_by e es true false is other rest = rw is refl
    remove_by e es false true is other rest = rw other refl
    remove_by e es false false is other rest = rw (is, other) (ap (λ xs. e ∷ xs) rest)

    -- the order in which two keys go is the same
    pub remove_remove : (es : List (K × X)) → remove_entry test (remove_entry gone es) ≡ remove_entry gone (remove_entry test es)
    remove_remove [] = refl
    remove_remove (e ∷ es) = remove_by e es (gone e.0) (test e.0) refl refl (remove_remove es)

  module _ {R : K → K → Ordering} (o : IsTotalOrder R) where
    -- an entry before all others goes to the front
    insert_first : (k : K) (v : X) (es : List (K × X)) → AllByRecursion (λ y. R k y ≡ Less) (keys_of es) → insert_entry R es k v ≡ (k, v) ∷ es
    insert_first k v [] below = refl
    insert_first k v (e ∷ es) below = rw below.0 refl

    module _ (k : K) (v : X) where
      put_by : (P : K → Type 0) (e : K × X) (es : List (K × X)) (r : Ordering) → P k → AllByRecursion P (keys_of (e ∷ es)) → AllByRecursion P (keys_of (insert_entry R es k v)) → AllByRecursion P (keys_of (match_ordering r ((k, v) ∷ e ∷ es) ((e.0, v) ∷ es) (e ∷ insert_entry R es k v)))
      put_by P e es Less new all rest = (new, all)
      put_by P e es Equal new all rest = all
      put_by P e es Greater new all rest = (all.0, rest)

      all_insert : (P : K → Type 0) (es : List (K × X)) → P k → AllByRecursion P (keys_of es) → AllByRecursion P (keys_of (insert_entry R es k v))
      all_insert P [] new all = (new, tt)
      all_insert P (e ∷ es) new all = put_by P e es (R k e.0) new all (all_insert P es new all.1)

      sorted_by : (e : K × X) (es : List (K × X)) (r : Ordering) → R k e.0 ≡ r → IsStrictlySortedBy R (keys_of (e ∷ es)) → IsStrictlySortedBy R (keys_of (insert_entry R es k v)) → IsStrictlySortedBy R (keys_of (match_ordering r ((k, v) ∷ e ∷ es) ((e.0, v) ∷ es) (e ∷ insert_entry R es k v)))
      sorted_by e es Less is sorted rest = sorted_cons R k (keys_of (e ∷ es)) (behind o k e.0 (keys_of es) is sorted) sorted
      sorted_by e es Equal is sorted rest = sorted
      sorted_by e es Greater is sorted rest = sorted_cons R e.0 (keys_of (insert_entry R es k v)) (all_insert (λ y. R e.0 y ≡ Less) es (above_of o k e.0 is) (sorted_head R e.0 (keys_of es) sorted)) rest

      -- a map stays in order when an entry is put
      pub sorted_insert : (es : List (K × X)) → IsStrictlySortedBy R (keys_of es) → IsStrictlySortedBy R (keys_of (insert_entry R es k v))
      sorted_insert [] sorted = sorted_cons R k [] tt sorted
      sorted_insert (e ∷ es) sorted = sorted_by e es (R k e.0) refl sorted (sorted_insert es (sorted_tail R e.0 (keys_of es) sorted))

    module _ (gone : K → Bool) where
      kept_by : (e : K × X) (es : List (K × X)) (b : Bool) → IsStrictlySortedBy R (keys_of (e ∷ es)) → IsStrictlySortedBy R (keys_of (remove_entry gone es)) → IsStrictlySortedBy R (keys_of (cond b es (e ∷ remove_entry gone es)))
      kept_by e es true sorted rest = sorted_tail R e.0 (keys_of es) sorted
      kept_by e es false sorted rest = sorted_cons R e.0 (keys_of (remove_entry gone es)) (all_remove (λ y. R e.0 y ≡ Less) gone es (sorted_head R e.0 (keys_of es) sorted)) rest

      -- or taken away
      pub sorted_remove : (es : List (K × X)) → IsStrictlySortedBy R (keys_of es) → IsStrictlySortedBy R (keys_of (remove_entry gone es))
      sorted_remove [] sorted = sorted
      sorted_remove (e ∷ es) sorted = kept_by e es (gone e.0) sorted (sorted_remove es (sorted_tail R e.0 (keys_of es) sorted))

      module _ (k : K) (v : X) (stays : gone k ≡ false) (apart : (l : K) → R k l ≡ Equal → gone l ≡ false) where
        other_by : (e : K × X) (es : List (K × X)) (r : Ordering) (b : Bool) → R k e.0 ≡ r → gone e.0 ≡ b → IsStrictlySortedBy R (keys_of (e ∷ es)) → insert_entry R (remove_entry gone es) k v ≡ remove_entry gone (insert_entry R es k v)
            → insert_entry R (cond b es (e ∷ remove_entry gone es)) k v ≡ remove_entry gone (match_ordering r ((k, v) ∷ e ∷ es) ((e.0, v) ∷ es) (e ∷ insert_entry R es k v))
        other_by e es Less true is at sorted rest = rw (stays, at) (insert_first k v es (behind o k e.0 (keys_of es) is sorted).1)
        other_by e es Less false is at sorted rest = rw (stays, at, is) refl
        other_by e es Equal true is at sorted rest = cc (apart e.0 is, at)
        other_by e es Equal false is at sorted rest = rw (at, is) refl
        other_by e es Greater true is at sorted rest = rw at refl
        other_by e es Greater false is at sorted rest = rw (at, is) (ap (λ xs. e ∷ xs) rest)

        -- one key may go before or after an entry is put at another
        pub insert_remove : (es : List (K × X)) → IsStrictlySortedBy R (keys_of es) → insert_entry R (remove_entry gone es) k v ≡ remove_entry gone (insert_entry R es k v)
        insert_remove [] sorted = rw stays refl
        insert_remove (e ∷ es) sorted = other_by e es (R k e.0) (gone e.0) refl refl sorted (insert_remove es (sorted_tail R e.0 (keys_of es) sorted))
