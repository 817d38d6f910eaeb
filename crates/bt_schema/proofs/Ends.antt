-- Tables that stand in the order of their names, and one more behind them.
use Rattle.std.proofs.Common.{◌≡◌, ℕ, ◌-◌, ◌≤◌, true, false, List, [], ◌∷◌, ◌++◌, length, Some, None, refl, sym, ap, ◌∙◌, subst, append_assoc, arith, suc, eqb-true}
use Rattle.std.specs.Prelude.{IsTrue, slice_get, ◌==◌, Bool, if◌then◌else◌}
use Rattle.std.specs.List.{AllByRecursion, fold}
use Rattle.std.specs.List.Sorted.{IsStrictlySortedBy}
use Rattle.std.specs.Ordering.{nat_cmp, match_ordering, ordering_reverse}
use Rattle.std.specs.declared.cmp.Ordering.{Ordering}
use Rattle.std.specs.declared.cmp.Ordering.TheVariants.{Less, Equal, Greater}
use Rattle.std.specs.Cmp.Lexicographic.{slice_cmp}
use Rattle.std.specs.Map.{lookup, keys_of}
use Rattle.std.specs.BTreeMap.{insert_entry, is_at}
use Rattle.std.proofs.lemmas.Cmp.{nat_list_cmp_total, tied_itself}
use Rattle.std.proofs.lemmas.Map.Keys.{sorted_head, sorted_tail}
use Rattle.bt_codec.specs.Lists.{AllFrom}
use Rattle.bt_entry.specs.declared.table_info.TableInfo.{TableInfo}
use Rattle.bt_entry.specs.Grammar.{is_below}
use Rattle.bt_types.proofs.LawfulNames.{table_len}
use Rattle.bt_schema.specs.Schema.{Schema, name_is, table_at}
use Rattle.bt_schema.specs.Indexed.{AreIndexed, AreNamed, IsIndexed}
use Rattle.bt_schema.specs.Grammar.{AreSpellableTables, StandsBehind, behind, key_of, last_name}
use Rattle.bt_schema.proofs.Copies.{insert_last, of_last}

abbrev pub IsUnder : List ℕ → List ℕ → Type 0
IsUnder k q = slice_cmp nat_cmp q k ≡ Less

abbrev pub Ascend : Schema → Type 0
Ascend ts = IsStrictlySortedBy (slice_cmp nat_cmp) (keys_of ts)

less_of : (r : Ordering) → match_ordering r true false false ≡ true → r ≡ Less
less_of Less e = refl
less_of Equal e = cc e
less_of Greater e = cc e

below_of : (a b : List ℕ) → slice_cmp nat_cmp a b ≡ Less → IsTrue (is_below a b)
below_of a b less = ap (λ (r : Ordering). match_ordering r true false false) less

-- ---- one more table

pub none_ascend : Ascend []
unfolding IsStrictlySortedBy
none_ascend = tt

reaches : (q k : List ℕ) (ts : Schema) → IsStrictlySortedBy (slice_cmp nat_cmp) (q ∷ keys_of ts) → IsUnder k (fold key_of q ts) → IsUnder k q
reaches q k [] sorted under = under
reaches q k (t ∷ ts) sorted under =
    let next : IsUnder k t.0 = reaches t.0 k ts (sorted_tail (slice_cmp nat_cmp) q (keys_of (t ∷ ts)) sorted) under in
    nat_list_cmp_total.trans q t.0 k (sorted_head (slice_cmp nat_cmp) q (keys_of (t ∷ ts)) sorted).0 next

under_from : (q k : List ℕ) (ts : Schema) → IsStrictlySortedBy (slice_cmp nat_cmp) (q ∷ keys_of ts) → IsUnder k (fold key_of q ts) → AllByRecursion (IsUnder k) (q ∷ keys_of ts)
under_from q k [] sorted under = (under, tt)
under_from q k (t ∷ ts) sorted under = (reaches q k (t ∷ ts) sorted under, under_from t.0 k ts (sorted_tail (slice_cmp nat_cmp) q (keys_of (t ∷ ts)) sorted) under)

-- what is above the last name is above each
all_under : (ts : Schema) (k : List ℕ) → Ascend ts → IsUnder k (last_name ts) → AllByRecursion (IsUnder k) (keys_of ts)
all_under [] k sorted under = tt
all_under (t ∷ ts) k sorted under = under_from t.0 k ts sorted under

all_more : (P : List ℕ → Type 0) (t : List ℕ × TableInfo) (ts : Schema) → AllByRecursion P (keys_of ts) → P t.0 → AllByRecursion P (keys_of (ts ++ t ∷ []))
all_more P t [] all last = (last, tt)
all_more P t (u ∷ ts) all last = (all.0, all_more P t ts all.1 last)

ascend_more : (t : List ℕ × TableInfo) (ts : Schema) → Ascend ts → AllByRecursion (IsUnder t.0) (keys_of ts) → Ascend (ts ++ t ∷ [])
unfolding IsStrictlySortedBy
ascend_more t [] sorted under = (tt, tt)
ascend_more t (u ∷ ts) sorted under = (all_more (λ k. slice_cmp nat_cmp u.0 k ≡ Less) t ts sorted.0 under.0, ascend_more t ts sorted.1 under.1)

absent_above : (k : List ℕ) (ts : Schema) → AllByRecursion (IsUnder k) (keys_of ts) → lookup (name_is k) ts ≡ None
absent_above k [] under = refl
absent_above k (t ∷ ts) under =
    let above : slice_cmp nat_cmp k t.0 ≡ Greater = nat_list_cmp_total.antisymm k t.0 ∙ ap ordering_reverse under.0 in
    rw above (absent_above k ts under.1)

module _ (ts : Schema) (t : List ℕ × TableInfo) (sorted : Ascend ts) (below : IsTrue (is_below (last_name ts) t.0)) where
  under : AllByRecursion (IsUnder t.0) (keys_of ts)
  under = all_under ts t.0 sorted (less_of (slice_cmp nat_cmp (last_name ts) t.0) below)

  -- a name above the last one is no table's
  pub absent_behind : lookup (name_is t.0) ts ≡ None
  absent_behind = absent_above t.0 ts under

  pub ascend_behind : Ascend (ts ++ t ∷ [])
  ascend_behind = ascend_more t ts sorted under

  -- a table of it goes to the end
  pub insert_behind : insert_entry (slice_cmp nat_cmp) ts t.0 t.1 ≡ ts ++ t ∷ []
  insert_behind = insert_last nat_list_cmp_total t ts [] ascend_behind

some_is : (x y : List ℕ × TableInfo) → Some x ≡ Some y → x ≡ y
some_is x y e = cc e

-- the name of the last table, by its place
pub last_from : (q : List ℕ) (ts : Schema) (x : List ℕ × TableInfo) → slice_get ts (length ts - 1) ≡ Some x → fold key_of q ts ≡ x.0
last_from q [] x e = cc e
last_from q (t ∷ []) x e = ap (λ (y : List ℕ × TableInfo). y.0) (some_is t x e)
last_from q (t ∷ u ∷ ts) x e =
    let place : length (t ∷ u ∷ ts) - 1 ≡ suc (length (u ∷ ts) - 1) = omega arith in
    last_from t.0 (u ∷ ts) x (ap (λ (n : ℕ). slice_get (t ∷ u ∷ ts) n) (sym place) ∙ e)

-- ---- tables of a schema stand behind one another

last_under : (q k : List ℕ) (ts : Schema) → IsUnder k q → AllByRecursion (IsUnder k) (keys_of ts) → IsUnder k (fold key_of q ts)
last_under q k [] first all = first
last_under q k (t ∷ ts) first all = last_under t.0 k ts all.0 all.1

some_above : (k : List ℕ) → 1 ≤ length k → IsUnder k []
some_above [] some = absurd (omega (arith, some))
some_above (b ∷ k) some = refl

under_front : (front : Schema) (t : List ℕ × TableInfo) (ts : Schema) → Ascend (front ++ t ∷ ts) → AllByRecursion (IsUnder t.0) (keys_of front)
under_front [] t ts sorted = tt
under_front (u ∷ front) t ts sorted =
    (of_last (λ k. slice_cmp nat_cmp u.0 k ≡ Less) t front ts (sorted_head (slice_cmp nat_cmp) u.0 (keys_of (front ++ t ∷ ts)) sorted), under_front front t ts (sorted_tail (slice_cmp nat_cmp) u.0 (keys_of (front ++ t ∷ ts)) sorted))

parted : (P : List ℕ × TableInfo → Type 0) (front ts : Schema) → AllByRecursion P (front ++ ts) → AllByRecursion P front × AllByRecursion P ts
parted P [] ts all = (tt, all)
parted P (t ∷ front) ts all = let others = parted P front ts all.1 in ((all.0, others.0), others.1)

module _ (names : List (ℕ × List ℕ)) (t : List ℕ × TableInfo) (is : IsIndexed names t) where
  other_by : (u : List ℕ × TableInfo) (front : Schema) (b : Bool) → (u.1.incarnation == t.1.incarnation) ≡ b → IsIndexed names u → IsUnder t.0 u.0 → table_at t.1.incarnation front ≡ None → (if b then Some u.1 else table_at t.1.incarnation front) ≡ None
  other_by u front true e own less rest =
      let same : u.1.incarnation ≡ t.1.incarnation = eqb-true u.1.incarnation t.1.incarnation e in
      let one : Some u.0 ≡ Some t.0 = sym own ∙ ap (λ n. lookup (is_at (nat_cmp n)) names) same ∙ is in
      let key : u.0 ≡ t.0 = cc one in
      let tied : slice_cmp nat_cmp t.0 t.0 ≡ Less = subst (λ k. slice_cmp nat_cmp k t.0 ≡ Less) key less in
      cc (tied, tied_itself nat_list_cmp_total t.0)
  other_by u front false e own less rest = rest

  -- no table before it has its incarnation
  free_of : (front : Schema) → AllByRecursion (IsIndexed names) front → AllByRecursion (IsUnder t.0) (keys_of front) → table_at t.1.incarnation front ≡ None
  free_of [] own less = refl
  free_of (u ∷ front) own less = other_by u front (u.1.incarnation == t.1.incarnation) refl own.0 less.0 (free_of front own.1 less.1)

stand_from : (names : List (ℕ × List ℕ)) (front ts : Schema) → AreIndexed names (front ++ ts) → AreNamed ts → AreSpellableTables ts → AllFrom behind StandsBehind front ts
stand_from names front [] indexed named lawful = tt
stand_from names front (t ∷ ts) indexed named lawful =
    let under = under_front front t ts indexed.0 in
    let each = parted (IsIndexed names) front (t ∷ ts) indexed.1 in
    let some : IsUnder t.0 [] = some_above t.0 (subst (λ (k : List ℕ). 1 ≤ length k) (sym named.0) (omega (arith, (table_len t.1.name lawful.0.0).0))) in
    let below : IsTrue (is_below (last_name front) t.1.name) = subst (λ k. IsTrue (is_below (last_name front) k)) named.0 (below_of (last_name front) t.0 (last_under [] t.0 front some under)) in
    ((named.0, below, free_of names t each.1.0 front each.0 under), stand_from names (front ++ t ∷ []) ts (subst (AreIndexed names) (sym (append_assoc front (t ∷ []) ts)) indexed) named.1 lawful.1)

-- the tables of a schema stand behind one another
pub stand : (names : List (ℕ × List ℕ)) (ts : Schema) → AreIndexed names ts → AreNamed ts → AreSpellableTables ts → AllFrom behind StandsBehind [] ts
stand names ts indexed named lawful = stand_from names [] ts indexed named lawful
