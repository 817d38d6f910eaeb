-- Entries with lists, of which none is empty: one put in, one taken out, and the list at each key.
use Rattle.std.proofs.Common.{◌≡◌, ◌<◌, Bool, true, false, List, [], ◌∷◌, Option, Some, None, cond, length, refl, sym, ap, ◌∙◌, arith}
use Rattle.std.specs.Prelude.{unwrap_or, IfSome}
use Rattle.std.specs.Ordering.{is_eq, match_ordering}
use Rattle.std.specs.declared.cmp.Ordering.{Ordering}
use Rattle.std.specs.declared.cmp.Ordering.TheVariants.{Less, Equal, Greater}
use Rattle.std.specs.Cmp.{IsTotalOrder}
use Rattle.std.specs.List.Sorted.{IsStrictlySortedBy}
use Rattle.std.specs.Map.{lookup, remove_entry, set_value, keys_of}
use Rattle.std.specs.BTreeMap.{insert_entry, is_at}
use Rattle.std.proofs.lemmas.Cmp.{eq_by_cmp_equiv}
use Rattle.std.proofs.lemmas.Map.{lookup-remove_entry}
use Rattle.std.proofs.lemmas.Map.Keys.{IsDistinct-from_sorted}
use Rattle.std.proofs.lemmas.Map.Views.{All-map-remove_entry, All-values-insert_entry, IfSome-lookup_from_All}
use Rattle.bt_contents.specs.Contents.{AreFilled, list_at, with_entry}
use Rattle.bt_row.proofs.Entries.{lookup_put, remove_set, same_entries, set_is_insert, sorted_put, sorted_removed}

-- a list of nothing is none
some_list : {A : Type 0} → List A → Option (List A)
some_list [] = None
some_list (x ∷ xs) = Some (x ∷ xs)

list_of_some : {A : Type 0} (o : Option (List A)) → IfSome o (λ xs. 0 < length xs) → o ≡ some_list (unwrap_or o [])
unfolding some_list
list_of_some None filled = refl
list_of_some (Some []) filled = absurd (omega (arith, filled))
list_of_some (Some (x ∷ xs)) filled = refl

module _ {K A : Type 0} {R : K → K → Ordering} (o : IsTotalOrder R) where
  -- a list that is not empty is put where its key is
  pub with_filled : (k : K) (xs : List A) (es : List (K × List A)) → 0 < length xs → with_entry R k xs es ≡ insert_entry R es k xs
  with_filled k [] es filled = absurd (omega (arith, filled))
  with_filled k (x ∷ xs) es filled = refl

  put_some : (k : K) (x : List A) (es : List (K × List A)) → 0 < length (insert_entry R es k x)
  put_some k x [] = omega arith
  put_some k x (e ∷ es) = by (R k e.0)
    where
      by : (r : Ordering) → 0 < length (match_ordering r ((k, x) ∷ e ∷ es) ((e.0, x) ∷ es) (e ∷ insert_entry R es k x))
      by Less = omega arith
      by Equal = omega arith
      by Greater = omega arith

  -- there is an entry once a list was put that is not empty
  pub some_with : (k : K) (xs : List A) (es : List (K × List A)) → 0 < length xs → 0 < length (with_entry R k xs es)
  some_with k xs es filled = rw (with_filled k xs es filled) (put_some k xs es)

  pub sorted_with : (k : K) (xs : List A) (es : List (K × List A)) → IsStrictlySortedBy R (keys_of es) → IsStrictlySortedBy R (keys_of (with_entry R k xs es))
  sorted_with k [] es sorted = sorted_removed R (is_at (R k)) es sorted
  sorted_with k (x ∷ xs) es sorted = sorted_put o k (x ∷ xs) es sorted

  pub filled_with : (k : K) (xs : List A) (es : List (K × List A)) → AreFilled es → AreFilled (with_entry R k xs es)
  filled_with k [] es filled = All-map-remove_entry (is_at (R k)) (λ e. e.1) (λ (xs : List A). 0 < length xs) es filled
  filled_with k (x ∷ xs) es filled = All-values-insert_entry R k (x ∷ xs) (λ (xs : List A). 0 < length xs) es filled (omega arith)

  module _ (exact : (x y : K) → R x y ≡ Equal → x ≡ y) where
    -- the list at a key once one was put there
    pub at_with : (key k : K) (xs : List A) (es : List (K × List A)) → IsStrictlySortedBy R (keys_of es) → list_at R k (with_entry R key xs es) ≡ cond (is_at (R k) key) xs (list_at R k es)
    at_with key k [] es sorted =
        ap (λ v. unwrap_or v []) (lookup-remove_entry (eq_by_cmp_equiv o) (is_at (R key)) (λ x y same. (eq_by_cmp_equiv o).congr key x y same) k es (IsDistinct-from_sorted R (keys_of es) sorted))
        ∙ by (is_at (R key) k) ∙ ap (λ t. cond t [] (list_at R k es)) ((eq_by_cmp_equiv o).symm key k)
      where
        by : (t : Bool) → unwrap_or (cond t None (lookup (is_at (R k)) es)) [] ≡ cond t [] (list_at R k es)
        by true = refl
        by false = refl
    at_with key k (x ∷ xs) es sorted = ap (λ v. unwrap_or v []) (lookup_put o exact key k (x ∷ xs) es) ∙ by (is_at (R k) key)
      where
        by : (t : Bool) → unwrap_or (cond t (Some (x ∷ xs)) (lookup (is_at (R k)) es)) [] ≡ cond t (x ∷ xs) (list_at R k es)
        by true = refl
        by false = refl

    -- entries with the same lists are the same
    pub same_lists : (es fs : List (K × List A)) → IsStrictlySortedBy R (keys_of es) → IsStrictlySortedBy R (keys_of fs) → AreFilled es → AreFilled fs → ((k : K) → list_at R k es ≡ list_at R k fs) → es ≡ fs
    same_lists es fs sorted also filled full same = same_entries o exact es fs sorted also (λ k.
        list_of_some (lookup (is_at (R k)) es) (IfSome-lookup_from_All (λ (xs : List A). 0 < length xs) (is_at (R k)) es filled) ∙ ap some_list (same k)
        ∙ sym (list_of_some (lookup (is_at (R k)) fs) (IfSome-lookup_from_All (λ (xs : List A). 0 < length xs) (is_at (R k)) fs full)))

    -- what is put where it is changes nothing
    pub with_itself : (k : K) (es : List (K × List A)) → IsStrictlySortedBy R (keys_of es) → AreFilled es → with_entry R k (list_at R k es) es ≡ es
    with_itself k es sorted filled = same_lists (with_entry R k (list_at R k es) es) es (sorted_with k (list_at R k es) es sorted) sorted (filled_with k (list_at R k es) es filled) filled (λ q. at_with k q (list_at R k es) es sorted ∙ by q (is_at (R q) k) refl)
      where
        equal : (r : Ordering) → is_eq r ≡ true → r ≡ Equal
        equal Less a = cc a
        equal Equal a = refl
        equal Greater a = cc a

        by : (q : K) (t : Bool) → is_at (R q) k ≡ t → cond t (list_at R k es) (list_at R q es) ≡ list_at R q es
        by q true is = ap (λ x. list_at R x es) (sym (exact q k (equal (R q k) is)))
        by q false is = refl

module _ {K A : Type 0} {R : K → K → Ordering} (o : IsTotalOrder R) (k : K) (ys : List A) (es : List (K × List A)) where
  -- a list written over another is put at its key
  pub over_list : (xs : List A) → IsStrictlySortedBy R (keys_of es) → lookup (is_at (R k)) es ≡ Some xs → 0 < length ys → set_value (is_at (R k)) es ys ≡ with_entry R k ys es
  over_list xs sorted found filled = set_is_insert o k ys xs es sorted found ∙ sym (with_filled o k ys es filled)

  -- so is none
  pub gone_list : ys ≡ [] → remove_entry (is_at (R k)) (set_value (is_at (R k)) es ys) ≡ with_entry R k ys es
  gone_list bare = remove_set (is_at (R k)) es ys ∙ ap (λ xs. with_entry R k xs es) (sym bare)
