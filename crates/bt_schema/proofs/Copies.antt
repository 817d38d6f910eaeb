-- Maps that are copied in the order of their keys.
use Rattle.std.proofs.Common.{◌≡◌, List, [], ◌∷◌, ◌++◌, refl, sym, ap, ◌∙◌, subst, append_assoc}
use Rattle.std.specs.Ordering.{ordering_reverse}
use Rattle.std.specs.declared.cmp.Ordering.{Ordering}
use Rattle.std.specs.declared.cmp.Ordering.TheVariants.{Less, Greater}
use Rattle.std.specs.Cmp.{IsTotalOrder}
use Rattle.std.specs.List.{AllByRecursion}
use Rattle.std.specs.List.Sorted.{IsStrictlySortedBy}
use Rattle.std.specs.Map.{keys_of}
use Rattle.std.specs.BTreeMap.{insert_entry}
use Rattle.std.proofs.lemmas.Map.Keys.{sorted_head, sorted_tail}

module _ {K X : Type 0} where
  pub of_last : (P : K → Type 0) (e : K × X) (es rest : List (K × X)) → AllByRecursion P (keys_of (es ++ e ∷ rest)) → P e.0
  of_last P e [] rest all = all.0
  of_last P e (f ∷ es) rest all = of_last P e es rest all.1

  module _ {R : K → K → Ordering} (o : IsTotalOrder R) where
    -- an entry whose key is behind all others goes to the end
    pub insert_last : (e : K × X) (es rest : List (K × X)) → IsStrictlySortedBy R (keys_of (es ++ e ∷ rest)) → insert_entry R es e.0 e.1 ≡ es ++ e ∷ []
    insert_last e [] rest sorted = refl
    insert_last e (f ∷ es) rest sorted =
        let below : R f.0 e.0 ≡ Less = of_last (λ k. R f.0 k ≡ Less) e es rest (sorted_head R f.0 (keys_of (es ++ e ∷ rest)) sorted) in
        let above : R e.0 f.0 ≡ Greater = o.antisymm e.0 f.0 ∙ ap ordering_reverse below in
        rw above (ap (λ xs. f ∷ xs) (insert_last e es rest (sorted_tail R f.0 (keys_of (es ++ e ∷ rest)) sorted)))

    -- one more entry is copied: e is the first of those left, and k and v its copy
    pub one_more : (e : K × X) (k : K) (v : X) (all new es left rest : List (K × X)) → (es ++ left ≡ all) × IsStrictlySortedBy R (keys_of all) → left ≡ e ∷ rest → k ≡ e.0 → v ≡ e.1 → new ≡ insert_entry R es k v
        → (new ++ rest ≡ all) × IsStrictlySortedBy R (keys_of all)
    one_more e k v all new es left rest so_far first key value put =
        let is : es ++ e ∷ rest ≡ all = cc (first, so_far.0) in
        let last : new ≡ es ++ e ∷ [] = cc (put, key, value, insert_last e es rest (subst (λ xs. IsStrictlySortedBy R (keys_of xs)) (sym is) so_far.1)) in
        (ap (λ xs. xs ++ rest) last ∙ append_assoc es (e ∷ []) rest ∙ is, so_far.1)
