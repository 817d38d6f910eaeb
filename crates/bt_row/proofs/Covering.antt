-- Which keys an extent covers: those from its first on, up to one that it doesn't reach.
use Rattle.std.proofs.Common.{◌≡◌, ℕ, Bool, true, false, List, [], ◌∷◌, ◌++◌, Option, Some, None, append_assoc, append-nil, cond, refl, sym, ap, ◌∙◌, arith}
use Rattle.std.specs.Prelude.{◌&&◌, ◌||◌, ◌==◌, not, filter, option_map, bytes_eq, is_some, nat_le, nat_lt, if◌then◌else◌}
use Rattle.std.specs.Ordering.{nat_cmp, is_le, is_eq, ordering_then, ordering_reverse}
use Rattle.std.specs.declared.cmp.Ordering.{Ordering}
use Rattle.std.specs.declared.cmp.Ordering.TheVariants.{Less, Equal, Greater}
use Rattle.std.specs.Cmp.{IsTotalOrder}
use Rattle.std.specs.Cmp.Lexicographic.{slice_cmp}
use Rattle.std.specs.List.{AllByRecursion, find, list_any, take_while}
use Rattle.std.specs.List.Sorted.{IsStrictlySortedBy}
use Rattle.std.specs.Map.{keys_of}
use Rattle.std.proofs.lemmas.Bool.Decides.{nat_tests}
use Rattle.std.proofs.lemmas.Cmp.{alike_right, then_total, on_total, nat_list_cmp_total}
use Rattle.std.proofs.lemmas.List.Sums.{take_while-cons}
use Rattle.std.proofs.lemmas.Map.Keys.{sorted_head, sorted_tail}
use Rattle.std.proofs.lemmas.Map.Text.{is_eq-slice_cmp}
use Rattle.bt_types.specs.Grammar.{lawful}
use Rattle.bt_types.specs.declared.mutation.Mutation.TheVariants.{DeleteColumn, DeleteFamily}
use Rattle.bt_row.specs.declared.cell_key.CellKey.{CellKey}
use Rattle.bt_row.specs.declared.extent.Extent.{Extent}
use Rattle.bt_row.specs.declared.extent.Extent.TheVariants.{Family, Column}
use Rattle.bt_row.specs.Keys.{key_cmp}
use Rattle.bt_row.specs.Extents.{first_of, is_covered, reaches, IsLatestBefore, Covers}

-- the keys of the entries that pass a test of their keys
pub keys_filter : {K X : Type 0} (p : K → Bool) (es : List (K × X)) → keys_of (filter (λ e. p e.0) es) ≡ filter p (keys_of es)
keys_filter p [] = refl
keys_filter {K} {X} p (e ∷ es) = by (p e.0) (keys_filter p es)
  where
    by : (t : Bool) → keys_of (filter (λ (x : K × X). p x.0) es) ≡ filter p (keys_of es) → keys_of (cond t (e ∷ filter (λ (x : K × X). p x.0) es) (filter (λ (x : K × X). p x.0) es)) ≡ cond t (e.0 ∷ filter p (keys_of es)) (filter p (keys_of es))
    by true rest = ap (λ ks. e.0 ∷ ks) rest
    by false rest = rest

module _ {K : Type 0} (R : K → K → Ordering) (f : K) (g : K → Bool) (stops : (a b : K) → is_le (R f a) ≡ true → g a ≡ false → R a b ≡ Less → g b ≡ false) where
  none_past : (k : K) (ks : List K) → is_le (R f k) ≡ true → g k ≡ false → AllByRecursion (λ q. R k q ≡ Less) ks → filter (λ q. is_le (R f q) && g q) ks ≡ []
  none_past k [] from stop later = refl
  none_past k (q ∷ qs) from stop later = by (is_le (R f q)) (g q) (stops k q from stop later.0) (none_past k qs from stop later.1)
    where
      by : (s t : Bool) → t ≡ false → filter (λ q. is_le (R f q) && g q) qs ≡ [] → cond (s && t) (q ∷ filter (λ q. is_le (R f q) && g q) qs) (filter (λ q. is_le (R f q) && g q) qs) ≡ []
      by s true is rest = cc is
      by true false is rest = rest
      by false false is rest = rest

  -- what is covered stands together, from the first key on
  pub stands_together : (ks : List K) → IsStrictlySortedBy R ks → take_while g (filter (λ q. is_le (R f q) && not false) ks) ≡ filter (λ q. is_le (R f q) && g q) ks
  stands_together [] sorted = refl
  stands_together (k ∷ ks) sorted = by (is_le (R f k)) refl (g k) refl (stands_together ks (sorted_tail R k ks sorted))
    where
      from : List K → List K
      from qs = filter (λ q. is_le (R f q) && not false) qs

      both : List K → List K
      both qs = filter (λ q. is_le (R f q) && g q) qs

      by : (s : Bool) → is_le (R f k) ≡ s → (t : Bool) → g k ≡ t → take_while g (filter (λ q. is_le (R f q) && not false) ks) ≡ filter (λ q. is_le (R f q) && g q) ks
          → take_while g (cond (s && not false) (k ∷ filter (λ q. is_le (R f q) && not false) ks) (filter (λ q. is_le (R f q) && not false) ks)) ≡ cond (s && t) (k ∷ filter (λ q. is_le (R f q) && g q) ks) (filter (λ q. is_le (R f q) && g q) ks)
      by true le true on rest = take_while-cons g k (filter (λ q. is_le (R f q) && not false) ks) ∙ rw on (ap (λ qs. k ∷ qs) rest)
      by true le false on rest = take_while-cons g k (filter (λ q. is_le (R f q) && not false) ks) ∙ rw on (sym (none_past k ks le on (sorted_head R k ks sorted)))
      by false le true on rest = rest
      by false le false on rest = rest

module _ {K X : Type 0} (g : K → Bool) (done : List K) (e : K × X) (rest before : List (K × X)) (all : List K) (is : before ≡ e ∷ rest) (so_far : done ++ take_while g (keys_of before) ≡ all) where
  turn : (t : Bool) → g e.0 ≡ t → done ++ cond t (e.0 ∷ take_while g (keys_of rest)) [] ≡ all
  turn t on = ap (λ s. done ++ cond s (e.0 ∷ take_while g (keys_of rest)) []) (sym on) ∙ ap (λ xs. done ++ xs) (sym (take_while-cons g e.0 (keys_of rest))) ∙ ap (λ (es : List (K × X)). done ++ take_while g (keys_of es)) (sym is) ∙ so_far

  -- one more key passes
  pub reached_more : g e.0 ≡ true → (done ++ e.0 ∷ []) ++ take_while g (keys_of rest) ≡ all
  reached_more on = append_assoc done (e.0 ∷ []) (take_while g (keys_of rest)) ∙ turn true on

  -- the first that doesn't pass ends it
  pub reached_all : g e.0 ≡ false → done ≡ all
  reached_all on = sym (append-nil done) ∙ turn false on

-- ---- the parts of a key

abbrev fam_cmp : CellKey → CellKey → Ordering
fam_cmp a b = slice_cmp nat_cmp a.family b.family

-- a part of a key is past x's at a, and so at each later key
module _ {K : Type 0} {P : K → K → Ordering} (o : IsTotalOrder P) where
  past_at : (r s : Ordering) → is_le (ordering_then r s) ≡ true → is_eq r ≡ false → r ≡ Less
  past_at Less s le other = refl
  past_at Equal s le other = cc other
  past_at Greater s le other = cc le

  still_past : (x a b : K) (s r : Ordering) → P x a ≡ Less → P a b ≡ r → ordering_then r s ≡ Less → P x b ≡ Less
  still_past x a b s Less past is later = o.trans x a b past is
  still_past x a b s Equal past is later = sym (alike_right o a b x is) ∙ past
  still_past x a b s Greater past is later = cc later

  eq_turned : (x a : K) → is_eq (P a x) ≡ is_eq (P x a)
  eq_turned x a = ap is_eq (o.antisymm a x) ∙ by (P x a)
    where
      by : (r : Ordering) → is_eq (ordering_reverse r) ≡ is_eq r
      by Less = refl
      by Equal = refl
      by Greater = refl

  -- where a is at or past x, of another part, a later key b is of another part
  pub part_stops : (x a b : K) (s t : Ordering) → is_le (ordering_then (P x a) s) ≡ true → is_eq (P a x) ≡ false → ordering_then (P a b) t ≡ Less → is_eq (P b x) ≡ false
  part_stops x a b s t le other later =
      let past : P x a ≡ Less = past_at (P x a) s le (sym (eq_turned x a) ∙ other) in
      let still : P x b ≡ Less = still_past x a b t (P a b) past refl later in
      eq_turned x b ∙ ap is_eq still

fam_total : IsTotalOrder fam_cmp
fam_total = on_total (λ (k : CellKey). k.family) nat_list_cmp_total

abbrev col_cmp : CellKey → CellKey → Ordering
col_cmp a b = ordering_then (slice_cmp nat_cmp a.family b.family) (slice_cmp nat_cmp a.qualifier b.qualifier)

col_total : IsTotalOrder col_cmp
col_total = then_total (on_total (λ (k : CellKey). k.family) nat_list_cmp_total) (on_total (λ (k : CellKey). k.qualifier) nat_list_cmp_total)

then_assoc : (r s t : Ordering) → ordering_then r (ordering_then s t) ≡ ordering_then (ordering_then r s) t
then_assoc Less s t = refl
then_assoc Equal s t = refl
then_assoc Greater s t = refl

eq_both : (r s : Ordering) → is_eq (ordering_then r s) ≡ (is_eq r && is_eq s)
eq_both Less s = refl
eq_both Equal s = refl
eq_both Greater s = refl

eq_is : (r : Ordering) → is_eq r ≡ true → r ≡ Equal
eq_is Less e = cc e
eq_is Equal e = refl
eq_is Greater e = cc e

-- the keys are of one column exactly if their names are the same
same_column : (a b : CellKey) → is_eq (col_cmp a b) ≡ (bytes_eq a.family b.family && bytes_eq a.qualifier b.qualifier)
same_column a b =
    eq_both (slice_cmp nat_cmp a.family b.family) (slice_cmp nat_cmp a.qualifier b.qualifier)
    ∙ ap (λ t. t && is_eq (slice_cmp nat_cmp a.qualifier b.qualifier)) (is_eq-slice_cmp a.family b.family) ∙ ap (λ t. bytes_eq a.family b.family && t) (is_eq-slice_cmp a.qualifier b.qualifier)

earlier_fails : (start x y : ℕ) → nat_le start x ≡ false → nat_cmp y x ≡ Less → nat_le start y ≡ false
earlier_fails start x y fails less = grind (arith, nat_tests)

module _ (from : CellKey) (start : ℕ) (a b : CellKey) (le : is_le (key_cmp from a) ≡ true) (later : key_cmp a b ≡ Less) where
  of_other : is_eq (col_cmp a from) ≡ false → (is_eq (col_cmp b from) && nat_le start b.at) ≡ false
  of_other other =
      let le' : is_le (ordering_then (col_cmp from a) (nat_cmp a.at from.at)) ≡ true = ap is_le (sym (then_assoc (slice_cmp nat_cmp from.family a.family) (slice_cmp nat_cmp from.qualifier a.qualifier) (nat_cmp a.at from.at))) ∙ le in
      let later' : ordering_then (col_cmp a b) (nat_cmp b.at a.at) ≡ Less = sym (then_assoc (slice_cmp nat_cmp a.family b.family) (slice_cmp nat_cmp a.qualifier b.qualifier) (nat_cmp b.at a.at)) ∙ later in
      let stops : is_eq (col_cmp b from) ≡ false = part_stops col_total from a b (nat_cmp a.at from.at) (nat_cmp b.at a.at) le' other later' in
      rw stops refl

  of_same : (t : Bool) → is_eq (col_cmp b from) ≡ t → is_eq (col_cmp a from) ≡ true → nat_le start a.at ≡ false → (t && nat_le start b.at) ≡ false
  of_same false is same fails = refl
  of_same true is same fails =
      let a_from : col_cmp a from ≡ Equal = eq_is (col_cmp a from) same in
      let from_b : col_cmp from b ≡ Equal = eq_is (col_cmp from b) (eq_turned col_total b from ∙ is) in
      let a_b : col_cmp a b ≡ Equal = col_total.congr a from b a_from ∙ from_b in
      let later' : ordering_then (col_cmp a b) (nat_cmp b.at a.at) ≡ Less = sym (then_assoc (slice_cmp nat_cmp a.family b.family) (slice_cmp nat_cmp a.qualifier b.qualifier) (nat_cmp b.at a.at)) ∙ later in
      earlier_fails start a.at b.at fails (rw a_b at later')

  of_either : (t : Bool) → is_eq (col_cmp a from) ≡ t → (t && nat_le start a.at) ≡ false → (is_eq (col_cmp b from) && nat_le start b.at) ≡ false
  of_either true is fails = of_same (is_eq (col_cmp b from)) refl is fails
  of_either false is fails = of_other is

-- a key that is not reached is past all that are
pub reaches_stops : (d : Extent) (a b : CellKey) → is_le (key_cmp (first_of d) a) ≡ true → reaches d a ≡ false → key_cmp a b ≡ Less → reaches d b ≡ false
reaches_stops (Family from) a b le other later =
    sym (is_eq-slice_cmp b.family from.family) ∙ part_stops fam_total from a b _ _ le (is_eq-slice_cmp a.family from.family ∙ other) later
reaches_stops (Column from start) a b le other later =
    rw (← same_column b from) (of_either from start a b le later (is_eq (col_cmp a from)) refl (rw (← same_column a from) at other))

-- ---- what the extents of the mutations cover

le_of_cmp : (x y : ℕ) → is_le (nat_cmp x y) ≡ nat_le x y
le_of_cmp x y = grind (arith, nat_tests)

both_orders : (x y : Bool) → (x && y) ≡ (y && x)
both_orders true true = refl
both_orders true false = refl
both_orders false true = refl
both_orders false false = refl

turned_eq : (x y : List ℕ) → bytes_eq y x ≡ is_eq (slice_cmp nat_cmp x y)
turned_eq x y = sym (is_eq-slice_cmp y x) ∙ eq_turned nat_list_cmp_total x y

-- what is lawful is the bytes themselves
pub its_bytes : (p : List ℕ → Bool) (b key : List ℕ) → lawful p b ≡ Some key → key ≡ b
its_bytes p b key is = by (p b) is
  where
    by : (t : Bool) → (if t then Some b else None) ≡ Some key → key ≡ b
    by true e = cc
    by false e = cc e

pub family_named : (family : List ℕ) (at : ℕ) → IsLatestBefore 0 at → Covers (Family (record { family = family; qualifier = []; at = at })) (DeleteFamily family)
family_named family at latest k timed = rw (turned_eq family k.family) (by (slice_cmp nat_cmp family k.family) k.qualifier)
  where
    by : (r : Ordering) (q : List ℕ) → (is_le (ordering_then r (ordering_then (slice_cmp nat_cmp [] q) (nat_cmp k.at at))) && is_eq r) ≡ is_eq r
    by Less q = refl
    by Equal [] = rw (le_of_cmp k.at at, latest k.at timed) refl
    by Equal (x ∷ xs) = refl
    by Greater q = refl

pub column_named : (family qualifier : List ℕ) (start end at : ℕ) → IsLatestBefore end at → Covers (Column (record { family = family; qualifier = qualifier; at = at }) start) (DeleteColumn family qualifier start end)
column_named family qualifier start end at latest k timed = rw (turned_eq family k.family, turned_eq qualifier k.qualifier) (by (slice_cmp nat_cmp family k.family) (slice_cmp nat_cmp qualifier k.qualifier))
  where
    by : (r s : Ordering) → (is_le (ordering_then r (ordering_then s (nat_cmp k.at at))) && (is_eq r && is_eq s && nat_le start k.at)) ≡ (is_eq r && is_eq s && nat_le start k.at && (end == 0 || nat_lt k.at end))
    by Less s = refl
    by Equal Less = refl
    by Equal Equal = rw (le_of_cmp k.at at, latest k.at timed) (both_orders (end == 0 || nat_lt k.at end) (nat_le start k.at))
    by Equal Greater = refl
    by Greater s = refl

-- the keys of a range that are reached are those that are covered
pub reached_named : {X : Type 0} (d : Extent) (ks : List CellKey) (range es : List (CellKey × X)) → IsStrictlySortedBy key_cmp (keys_of es) → range ≡ filter (λ e. is_le (key_cmp (first_of d) e.0) && not false) es
    → ks ≡ take_while (reaches d) (keys_of range) → ks ≡ filter (is_covered d) (keys_of es)
reached_named {X} d ks range es sorted is reached =
    reached ∙ ap (λ (xs : List (CellKey × X)). take_while (reaches d) (keys_of xs)) is ∙ ap (take_while (reaches d)) (keys_filter (λ k. is_le (key_cmp (first_of d) k) && not false) es)
    ∙ stands_together key_cmp (first_of d) (reaches d) (reaches_stops d) (keys_of es) sorted

-- the first of a range, where it passes
abbrev first_if : {K X : Type 0} → (K → Bool) → List (K × X) → Option (K × X)
first_if g [] = None
first_if g (e ∷ es) = cond (g e.0) (Some e) None

module _ {K X : Type 0} (R : K → K → Ordering) (f : K) (g : K → Bool) (stops : (a b : K) → is_le (R f a) ≡ true → g a ≡ false → R a b ≡ Less → g b ≡ false) where
  none_found : (k : K) (es : List (K × X)) → is_le (R f k) ≡ true → g k ≡ false → AllByRecursion (λ q. R k q ≡ Less) (keys_of es) → find (λ (e : K × X). is_le (R f e.0) && g e.0) es ≡ None
  none_found k [] from stop later = refl
  none_found k (e ∷ es) from stop later = by (is_le (R f e.0)) (g e.0) (stops k e.0 from stop later.0) (none_found k es from stop later.1)
    where
      by : (s t : Bool) → t ≡ false → find (λ (e : K × X). is_le (R f e.0) && g e.0) es ≡ None → cond (s && t) (Some e) (find (λ (e : K × X). is_le (R f e.0) && g e.0) es) ≡ None
      by s true is rest = cc is
      by true false is rest = rest
      by false false is rest = rest

  -- the first of the range is the first that is covered, or none is
  first_found : (es : List (K × X)) → IsStrictlySortedBy R (keys_of es) → first_if g (filter (λ e. is_le (R f e.0) && not false) es) ≡ find (λ (e : K × X). is_le (R f e.0) && g e.0) es
  first_found [] sorted = refl
  first_found (e ∷ es) sorted = by (is_le (R f e.0)) refl (g e.0) refl (first_found es (sorted_tail R e.0 (keys_of es) sorted))
    where
      by : (s : Bool) → is_le (R f e.0) ≡ s → (t : Bool) → g e.0 ≡ t → first_if g (filter (λ e. is_le (R f e.0) && not false) es) ≡ find (λ (e : K × X). is_le (R f e.0) && g e.0) es
          → first_if g (cond (s && not false) (e ∷ filter (λ e. is_le (R f e.0) && not false) es) (filter (λ e. is_le (R f e.0) && not false) es)) ≡ cond (s && t) (Some e) (find (λ (e : K × X). is_le (R f e.0) && g e.0) es)
      by true le true on rest = rw on refl
      by true le false on rest = rw on (sym (none_found e.0 es le on (sorted_head R e.0 (keys_of es) sorted)))
      by false le true on rest = rest
      by false le false on rest = rest

module _ {X : Type 0} (d : Extent) (range es : List (CellKey × X)) (sorted : IsStrictlySortedBy key_cmp (keys_of es)) (is : range ≡ filter (λ e. is_le (key_cmp (first_of d) e.0) && not false) es) where
  first_covered : first_if (reaches d) range ≡ find (λ (e : CellKey × X). is_covered d e.0) es
  first_covered = ap (λ (xs : List (CellKey × X)). first_if (reaches d) xs) is ∙ first_found key_cmp (first_of d) (reaches d) (reaches_stops d) es sorted

  -- the first entry that an extent covers is that of a range, where it is reached
  pub first_tells : (e : CellKey × X) (rest : List (CellKey × X)) → range ≡ e ∷ rest → (t : Bool) → reaches d e.0 ≡ t → cond t (Some e) None ≡ find (λ (e : CellKey × X). is_covered d e.0) es
  first_tells e rest begins t on = ap (λ s. cond {A = Option (CellKey × X)} s (Some e) None) (sym on) ∙ ap (λ (xs : List (CellKey × X)). first_if (reaches d) xs) (sym begins) ∙ first_covered

  -- none is covered where there is none in the range
  pub none_covered : range ≡ [] → None ≡ find (λ (e : CellKey × X). is_covered d e.0) es
  none_covered bare = ap (λ (xs : List (CellKey × X)). first_if (reaches d) xs) (sym bare) ∙ first_covered

pub some_mapped : {A B : Type 0} (f : A → B) (o : Option A) → is_some (option_map f o) ≡ is_some o
some_mapped f None = refl
some_mapped f (Some x) = refl

-- an entry is found exactly if one passes
pub found_any : {K X : Type 0} (p : K → Bool) (es : List (K × X)) → is_some (find (λ (e : K × X). p e.0) es) ≡ list_any p (keys_of es)
found_any p [] = refl
found_any {K} {X} p (e ∷ es) = by (p e.0) (found_any p es)
  where
    by : (t : Bool) → is_some (find (λ (e : K × X). p e.0) es) ≡ list_any p (keys_of es) → is_some (cond t (Some e) (find (λ (e : K × X). p e.0) es)) ≡ (t || list_any p (keys_of es))
    by true rest = refl
    by false rest = rest
