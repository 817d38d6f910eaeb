-- Lists of members whose names ascend.
use Rattle.std.proofs.Common.{◌≡◌, ℕ, zero, suc, ◌-◌, ◌<◌, ◌≤◌, List, [], ◌∷◌, ◌++◌, length, slice_index_or, slice_set, insert, Ordering, Less, Equal, Greater, refl, sym, subst, ap, ◌∙◌, arith}
use Rattle.std.proofs.lemmas.Cmp.{nat_list_cmp_total}
use Rattle.std.specs.Cmp.{IsTotalOrder}
use Rattle.std.specs.Ordering.{match_ordering, ordering_reverse}
use Rattle.std.specs.List.{AllByRecursion}
use Rattle.std.specs.List.Sorted.{IsStrictlySortedBy}
use Rattle.std.specs.Map.{keys_of}
use Rattle.std.specs.BTreeMap.{insert_entry}
use Rattle.bt_json.specs.Names.{AreSorted, name_cmp}
use Rattle.bt_json.specs.declared.value.Value.{Value}
use Rattle.bt_json.proofs.Views.{Name, Entry}

pub names_total : IsTotalOrder name_cmp
names_total = record {
  antisymm = λ x y. nat_list_cmp_total.antisymm x.now y.now;
  trans = λ x y z. nat_list_cmp_total.trans x.now y.now z.now;
  congr = λ x y z. nat_list_cmp_total.congr x.now y.now z.now;
}

pub none_sorted : AreSorted {X = Value} []
unfolding IsStrictlySortedBy
none_sorted = tt

abbrev IsUnder : Name → Name → Type 0
IsUnder a b = name_cmp a b ≡ Less

under : (k n : Name) → name_cmp k n ≡ Greater → IsUnder n k
under k n h = names_total.antisymm n k ∙ ap ordering_reverse h

module _ (k : Name) (v : Value) where
  all_put : (P : Name → Type 0) (es : List Entry) → P k → AllByRecursion P (keys_of es) → AllByRecursion P (keys_of (insert_entry name_cmp es k v))
  all_put P [] p a = (p, tt)
  all_put P (e ∷ es) p a = by (name_cmp k e.0) (all_put P es p a.1)
    where
      by : (o : Ordering) → AllByRecursion P (keys_of (insert_entry name_cmp es k v)) → AllByRecursion P (keys_of (match_ordering o ((k, v) ∷ e ∷ es) ((e.0, v) ∷ es) (e ∷ insert_entry name_cmp es k v)))
      by Less h = (p, a)
      by Equal h = a
      by Greater h = (a.0, h)

  all_under : (n : Name) (ks : List Name) → IsUnder k n → AllByRecursion (IsUnder n) ks → AllByRecursion (IsUnder k) ks
  all_under n [] h a = tt
  all_under n (m ∷ ks) h a = (names_total.trans k n m h a.0, all_under n ks h a.1)

  -- a member that is put leaves the names in order
  pub put_sorted : (es : List Entry) → AreSorted es → AreSorted (insert_entry name_cmp es k v)
  unfolding IsStrictlySortedBy
  put_sorted [] s = (tt, tt)
  put_sorted (e ∷ es) s = by (name_cmp k e.0) refl (put_sorted es s.1)
    where
      by : (o : Ordering) → name_cmp k e.0 ≡ o → AreSorted (insert_entry name_cmp es k v) → AreSorted (match_ordering o ((k, v) ∷ e ∷ es) ((e.0, v) ∷ es) (e ∷ insert_entry name_cmp es k v))
      by Less h later = ((h, all_under e.0 (keys_of es) h s.0), s)
      by Equal h later = s
      by Greater h later = (all_put (IsUnder e.0) es (under k e.0 h) s.0, later)

  -- a name that is behind all others goes to the end
  pub put_last : (es rest : List Entry) → AreSorted (es ++ (k, v) ∷ rest) → insert_entry name_cmp es k v ≡ es ++ (k, v) ∷ []
  unfolding IsStrictlySortedBy
  put_last [] rest s = refl
  put_last (e ∷ es) rest s =
      let after : name_cmp k e.0 ≡ Greater = names_total.antisymm k e.0 ∙ ap ordering_reverse (at es s.0) in
      ap (λ o. match_ordering o ((k, v) ∷ e ∷ es) ((e.0, v) ∷ es) (e ∷ insert_entry name_cmp es k v)) after ∙ ap (λ l. e ∷ l) (put_last es rest s.1)
    where
      at : (fs : List Entry) → AllByRecursion (IsUnder e.0) (keys_of (fs ++ (k, v) ∷ rest)) → IsUnder e.0 k
      at [] a = a.0
      at (f ∷ fs) a = at fs a.1

-- ---- the place of a name, looked for from the end

abbrev pub LessAt : (Name → Ordering) → List Entry → ℕ → Type 0
LessAt compare [] i = Unit {0}
LessAt compare (e ∷ es) zero = compare e.0 ≡ Less
LessAt compare (e ∷ es) (suc i) = LessAt compare es i

pub less_behind : (compare : Name → Ordering) (es : List Entry) → LessAt compare es (length es)
less_behind compare [] = tt
less_behind compare (e ∷ es) = less_behind compare es

pub less_here : (compare : Name → Ordering) (es : List Entry) (i : ℕ) (x : Entry) → i < length es → x ≡ slice_index_or es i x → compare x.0 ≡ Less → LessAt compare es i
less_here compare [] i x l p h = tt
less_here compare (e ∷ es) zero x l p h = ap (λ y. compare y.0) (sym p) ∙ h
less_here compare (e ∷ es) (suc i) x l p h = less_here compare es i x (omega arith) p h

all_at : (P : Name → Type 0) (es : List Entry) (i : ℕ) (x : Entry) → i < length es → x ≡ slice_index_or es i x → AllByRecursion P (keys_of es) → P x.0
all_at P [] i x l p a = absurd (omega arith)
all_at P (e ∷ es) zero x l p a = subst (λ y. P y.0) (sym p) a.0
all_at P (e ∷ es) (suc i) x l p a = all_at P es i x (omega arith) p a.1

module _ (k : Name) (v : Value) where
  at_first : (es : List Entry) → LessAt (name_cmp k) es 0 → insert es 0 (k, v) ≡ insert_entry name_cmp es k v
  at_first [] h = refl
  at_first (e ∷ es) h = ap (λ o. match_ordering o ((k, v) ∷ e ∷ es) ((e.0, v) ∷ es) (e ∷ insert_entry name_cmp es k v)) (sym h)

  behind : (e : Entry) (es : List Entry) → name_cmp k e.0 ≡ Greater → e ∷ insert_entry name_cmp es k v ≡ insert_entry name_cmp (e ∷ es) k v
  behind e es h = ap (λ o. match_ordering o ((k, v) ∷ e ∷ es) ((e.0, v) ∷ es) (e ∷ insert_entry name_cmp es k v)) (sym h)

  over_less : (n m : Name) → IsUnder n m → name_cmp k m ≡ Greater → name_cmp k n ≡ Greater
  over_less n m h g = names_total.antisymm k n ∙ ap ordering_reverse (names_total.trans n m k h (under k m g))

  over_equal : (n m : Name) → IsUnder n m → name_cmp k m ≡ Equal → name_cmp k n ≡ Greater
  over_equal n m h g = names_total.congr k m n g ∙ names_total.antisymm m n ∙ ap ordering_reverse h

  -- behind the last name that is less
  put_behind : (es : List Entry) (i : ℕ) (x : Entry) → AreSorted es → i < length es → x ≡ slice_index_or es i x → name_cmp k x.0 ≡ Greater → LessAt (name_cmp k) es (suc i)
      → insert es (suc i) (k, v) ≡ insert_entry name_cmp es k v
  unfolding IsStrictlySortedBy
  put_behind [] i x s l p g h = absurd (omega arith)
  put_behind (e ∷ es) zero x s l p g h = ap (λ fs. e ∷ fs) (at_first es h) ∙ behind e es (ap (λ y. name_cmp k y.0) (sym p) ∙ g)
  put_behind (e ∷ es) (suc i) x s l p g h =
      ap (λ fs. e ∷ fs) (put_behind es i x s.1 (omega arith) p g h) ∙ behind e es (over_less e.0 x.0 (all_at (IsUnder e.0) es i x (omega arith) p s.0) g)

  pub put_at : (es : List Entry) (i : ℕ) (x : Entry) → AreSorted es → 0 < i → i ≤ length es → x ≡ slice_index_or es (i - 1) x → name_cmp k x.0 ≡ Greater → LessAt (name_cmp k) es i
      → insert es i (k, v) ≡ insert_entry name_cmp es k v
  put_at es zero x s z l p g h = absurd (omega arith)
  put_at es (suc i) x s z l p g h =
      let before : suc i - 1 ≡ i = omega arith in
      put_behind es i x s (omega arith) (p ∙ ap (λ j. slice_index_or es j x) before) g h

  -- in front of all
  pub put_first : (es : List Entry) (i : ℕ) → i ≡ 0 → LessAt (name_cmp k) es i → insert es i (k, v) ≡ insert_entry name_cmp es k v
  put_first es zero z h = at_first es h
  put_first es (suc i) z h = absurd (omega arith)

  -- in place of the value that is there
  pub put_over : (es : List Entry) (i : ℕ) (x : Entry) → AreSorted es → i < length es → x ≡ slice_index_or es i x → name_cmp k x.0 ≡ Equal → slice_set es i (x.0, v) ≡ insert_entry name_cmp es k v
  unfolding IsStrictlySortedBy
  put_over [] i x s l p g = absurd (omega arith)
  put_over (e ∷ es) zero x s l p g = ap (λ y. (y.0, v) ∷ es) p ∙ ap (λ o. match_ordering o ((k, v) ∷ e ∷ es) ((e.0, v) ∷ es) (e ∷ insert_entry name_cmp es k v)) (sym (ap (λ y. name_cmp k y.0) (sym p) ∙ g))
  put_over (e ∷ es) (suc i) x s l p g =
      ap (λ fs. e ∷ fs) (put_over es i x s.1 (omega arith) p g) ∙ behind e es (over_equal e.0 x.0 (all_at (IsUnder e.0) es i x (omega arith) p s.0) g)
