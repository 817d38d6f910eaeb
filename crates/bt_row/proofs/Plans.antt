-- What plans say, key by key.
use Rattle.std.proofs.Common.{◌≡◌, ℕ, Bool, true, false, List, [], ◌∷◌, Option, Some, None, cond, refl, sym, ap, ◌∙◌}
use Rattle.std.specs.Prelude.{◌&&◌, ◌||◌, not, is_none, is_some, filter, IfSome, IsSome}
use Rattle.std.specs.List.{list_any}
use Rattle.std.specs.Ordering.{is_eq, nat_cmp, ordering_then}
use Rattle.std.specs.Cmp.Lexicographic.{slice_cmp}
use Rattle.std.specs.declared.cmp.Ordering.{Ordering}
use Rattle.std.specs.declared.cmp.Ordering.TheVariants.{Less, Equal, Greater}
use Rattle.std.specs.List.Sorted.{IsStrictlySortedBy}
use Rattle.std.specs.Map.{keys_of, set_value}
use Rattle.std.specs.BTreeMap.{is_at}
use Rattle.std.proofs.lemmas.Cmp.{eq_by_cmp_equiv, tied_itself}
use Rattle.std.proofs.lemmas.Map.{lookup-none, lookup-set_value}
use Rattle.std.proofs.lemmas.Map.Entries.{none_past_head, lookup_head, lookup-filter-keys, lookup-filter-values, option_filter}
use Rattle.std.proofs.lemmas.Map.Keys.{IsDistinct-from_sorted}
use Rattle.std.proofs.lemmas.Map.Lookups.{exact_bytes, exact_unsigned}
use Rattle.std.proofs.lemmas.Map.Made.{is_member-filter, is_some-lookup}
use Rattle.bt_row.specs.declared.extent.Extent.{Extent}
use Rattle.std.proofs.lemmas.List.Elements.{All-head, All-tail}
use Rattle.bt_types.specs.Time.{is_micros}
use Rattle.bt_types.specs.declared.mutation.Mutation.{Mutation}
use Rattle.bt_types.specs.declared.mutation.Mutation.TheVariants.{SetCell, DeleteColumn, DeleteFamily, DeleteRow}
use Rattle.bt_row.specs.Extents.{AreTimed, IsTimed, Covers, is_covered, removes}
use Rattle.bt_row.specs.declared.cell_key.CellKey.{CellKey}
use Rattle.bt_row.specs.declared.plan.Outcome.{Outcome}
use Rattle.bt_row.specs.declared.plan.Plan.{Plan}
use Rattle.bt_row.specs.Keys.{AreSorted, Keyed, key_cmp, key_total}
use Rattle.bt_row.specs.Plans.{IsShortOrNone, value_at, outcome_or, planned, Values, is_new, is_new_at, is_wanted, is_wanted_at, placed, value_after, values_after, without}

-- where one of two tests passes nothing, neither does
neither : (a b : Bool) → (a || b) ≡ false → (a ≡ false) × (b ≡ false)
neither true b e = cc e
neither false b e = (refl, e)

is_equal : (r : Ordering) → is_eq r ≡ true → r ≡ Equal
is_equal Less e = cc e
is_equal Equal e = refl
is_equal Greater e = cc e

-- one key finds another exactly if the other finds it
pub same_turned : (a b : CellKey) → is_at (key_cmp a) b ≡ is_at (key_cmp b) a
same_turned a b = (eq_by_cmp_equiv key_total).symm a b

parts_equal : (r s t : Ordering) → ordering_then r (ordering_then s t) ≡ Equal → (r ≡ Equal) × (s ≡ Equal) × (t ≡ Equal)
parts_equal Less s t e = cc e
parts_equal Equal Less t e = cc e
parts_equal Equal Equal t e = (refl, refl, e)
parts_equal Equal Greater t e = cc e
parts_equal Greater s t e = cc e

-- keys that compare as equal are the same
pub exact_key : (a b : CellKey) → key_cmp a b ≡ Equal → a ≡ b
exact_key a b equal =
    let parts = parts_equal (slice_cmp nat_cmp a.family b.family) (slice_cmp nat_cmp a.qualifier b.qualifier) (nat_cmp b.at a.at) equal in
    let families = exact_bytes a.family b.family parts.0 in
    let qualifiers = exact_bytes a.qualifier b.qualifier parts.1 in
    let times = exact_unsigned b.at a.at parts.2 in
    λ i. record { family = families i; qualifier = qualifiers i; at = sym times i }

pub same_key : (a b : CellKey) → is_at (key_cmp a) b ≡ true → a ≡ b
same_key a b same = exact_key a b (is_equal (key_cmp a b) same)

-- keys that are the same have the same value
pub value_alike : {X : Type 0} (a b : CellKey) (es : List (CellKey × X)) → is_at (key_cmp a) b ≡ true → value_at es a ≡ value_at es b
value_alike a b es same = ap (value_at es) (same_key a b same)

none_of_some : {X : Type 0} (o : Option X) → not (is_some o) ≡ is_none o
none_of_some None = refl
none_of_some (Some x) = refl

module _ (key : CellKey) (o : Outcome) (olds news : List (CellKey × Outcome)) (put : (k : CellKey) → value_at news k ≡ cond (is_at (key_cmp key) k) (Some o) (value_at olds k)) where
  -- an outcome put in at a key
  pub put_planned : (clears : Bool) (es : Keyed) (k : CellKey)
      → outcome_or (value_at news k) (cond clears None (value_at es k)) ≡ cond (is_at (key_cmp k) key) o.value (outcome_or (value_at olds k) (cond clears None (value_at es k)))
  put_planned clears es k = rw (put k, same_turned key k) (by (is_at (key_cmp k) key))
    where
      by : (t : Bool) → outcome_or (cond t (Some o) (value_at olds k)) (cond clears None (value_at es k)) ≡ cond t o.value (outcome_or (value_at olds k) (cond clears None (value_at es k)))
      by true = refl
      by false = refl

  -- the plan knows still which keys are new
  pub put_fresh : (es : Keyed) → o.is_new ≡ not (is_some (value_at es key)) → ((k : CellKey) → IfSome (value_at olds k) (λ o. o.is_new ≡ is_none (value_at es k)))
      → (k : CellKey) → IfSome (value_at news k) (λ o. o.is_new ≡ is_none (value_at es k))
  put_fresh es is fresh k = rw (put k) (by (is_at (key_cmp key) k) refl)
    where
      by : (t : Bool) → is_at (key_cmp key) k ≡ t → IfSome (cond t (Some o) (value_at olds k)) (λ o. o.is_new ≡ is_none (value_at es k))
      by true same = is ∙ none_of_some (value_at es key) ∙ ap is_none (value_alike key k es same)
      by false other = fresh k

-- one more key is dropped
pub drop_one : (key : CellKey) (rest : List CellKey) (f g : Values) → ((k : CellKey) → g k ≡ cond (is_at (key_cmp k) key) None (f k)) → (k : CellKey) → without rest g k ≡ without (key ∷ rest) f k
drop_one key rest f g one k = rw (one k) (by (is_at (key_cmp k) key) (list_any (is_at (key_cmp k)) rest))
  where
    by : (s t : Bool) → cond t None (cond s None (f k)) ≡ cond (s || t) None (f k)
    by true true = refl
    by true false = refl
    by false true = refl
    by false false = refl

-- entries have one of the keys that are covered exactly if they have it and it is covered
named_among : {X : Type 0} (d : Extent) (es : List (CellKey × X)) (k : CellKey) → list_any (is_at (key_cmp k)) (filter (is_covered d) (keys_of es)) ≡ (is_some (value_at es k) && is_covered d k)
named_among d es k =
    is_member-filter (eq_by_cmp_equiv key_total) (is_covered d) k (λ x same. ap (is_covered d) (same_key k x same)) (keys_of es)
    ∙ ap (λ t. t && is_covered d k) (sym (is_some-lookup (is_at (key_cmp k)) es))

-- a deletion leaves what its extent doesn't cover
pub deleted : (d : Extent) (p : Plan) (es : Keyed) (k : CellKey)
    → without (filter (is_covered d) (keys_of es)) (without (filter (is_covered d) (keys_of p.outcomes.entries)) (planned p es)) k ≡ cond (is_covered d k) None (planned p es k)
deleted d p es k = rw (named_among d es k, named_among d p.outcomes.entries k) (by (value_at p.outcomes.entries k) (value_at es k) (is_covered d k) p.clears)
  where
    by : (o : Option Outcome) (v : Option (List ℕ)) (t c : Bool) → cond (is_some v && t) None (cond (is_some o && t) None (outcome_or o (cond c None v))) ≡ cond t None (outcome_or o (cond c None v))
    by None None true true = refl
    by None None true false = refl
    by None None false c = refl
    by None (Some v) true c = refl
    by None (Some v) false c = refl
    by (Some o) None true c = refl
    by (Some o) None false c = refl
    by (Some o) (Some v) true c = refl
    by (Some o) (Some v) false c = refl

-- so it does in two steps
pub deleted_by : (d : Extent) (p : Plan) (es : Keyed) (xs ys : List CellKey) (f g : Values) → xs ≡ filter (is_covered d) (keys_of p.outcomes.entries) → ys ≡ filter (is_covered d) (keys_of es)
    → ((k : CellKey) → f k ≡ without xs (planned p es) k) → ((k : CellKey) → g k ≡ without ys f k) → (k : CellKey) → g k ≡ cond (is_covered d k) None (planned p es k)
deleted_by d p es xs ys f g planned_keys present_keys first second k =
    second k ∙ ap (λ v. cond (list_any (is_at (key_cmp k)) ys) None v) (first k) ∙ rw (planned_keys, present_keys) (deleted d p es k)

-- without the keys that an extent covers is what it doesn't cover
pub cleared : (d : Extent) (es : Keyed) (keys : List CellKey) → keys ≡ filter (is_covered d) (keys_of es) → (k : CellKey) → without keys (value_at es) k ≡ cond (is_covered d k) None (value_at es k)
cleared d es keys are k = ap (λ ks. cond (list_any (is_at (key_cmp k)) ks) None (value_at es k)) are ∙ rw (named_among d es k) (by (value_at es k) (is_covered d k))
  where
    by : (v : Option (List ℕ)) (t : Bool) → cond (is_some v && t) None v ≡ cond t None v
    by None true = refl
    by None false = refl
    by (Some v) true = refl
    by (Some v) false = refl

-- a key without the timestamp of a cell has no value among keys that have one
pub untimed_none : {X : Type 0} (es : List (CellKey × X)) (k : CellKey) → AreTimed (keys_of es) → is_micros k.at ≡ false → value_at es k ≡ None
untimed_none [] k timed not_one = refl
untimed_none {X} (e ∷ es) k timed not_one = by (is_at (key_cmp k) e.0) refl (untimed_none es k (All-tail IsTimed e.0 (keys_of es) timed) not_one)
  where
    by : (t : Bool) → is_at (key_cmp k) e.0 ≡ t → value_at es k ≡ None → cond t (Some e.1) (value_at es k) ≡ None
    by true same rest = let at_one : is_micros k.at ≡ true = ap (λ (x : CellKey). is_micros x.at) (same_key k e.0 same) ∙ All-head IsTimed e.0 (keys_of es) timed in cc
    by false other rest = rest

-- nor has a plan one
pub untimed_planned : (p : Plan) (es : Keyed) (k : CellKey) → AreTimed (keys_of es) → AreTimed (keys_of p.outcomes.entries) → is_micros k.at ≡ false → planned p es k ≡ None
untimed_planned p es k timed plan_timed not_one = rw (untimed_none p.outcomes.entries k plan_timed not_one, untimed_none es k timed not_one) (by p.clears)
  where
    by : (c : Bool) → cond {A = Option (List ℕ)} c None None ≡ None
    by true = refl
    by false = refl

-- an extent leaves what its mutation leaves, where keys without the timestamp of a cell have no value
pub removed_from : (d : Extent) (m : Mutation) (f : Values) (k : CellKey) → Covers d m → (is_micros k.at ≡ false → f k ≡ None) → cond (is_covered d k) None (f k) ≡ cond (removes m k) None (f k)
removed_from d m f k names untimed = by (is_micros k.at) refl
  where
    none : (t : Bool) → cond {A = Option (List ℕ)} t None None ≡ None
    none true = refl
    none false = refl

    by : (t : Bool) → is_micros k.at ≡ t → cond (is_covered d k) None (f k) ≡ cond (removes m k) None (f k)
    by true one = ap (λ s. cond s None (f k)) (names k one)
    by false not_one = let nothing = untimed not_one in rw nothing (none (is_covered d k) ∙ sym (none (removes m k)))

-- so a planned deletion does
pub removed : (d : Extent) (m : Mutation) (p : Plan) (es : Keyed) → Covers d m → AreTimed (keys_of es) → AreTimed (keys_of p.outcomes.entries) → (k : CellKey)
    → cond (is_covered d k) None (planned p es k) ≡ cond (removes m k) None (planned p es k)
removed d m p es names timed plan_timed k = removed_from d m (planned p es) k names (untimed_planned p es k timed plan_timed)

-- so does one that is made at once
pub removed_now : (d : Extent) (m : Mutation) (es : Keyed) → Covers d m → AreTimed (keys_of es) → (k : CellKey) → cond (is_covered d k) None (value_at es k) ≡ cond (removes m k) None (value_at es k)
removed_now d m es names timed k = removed_from d m (value_at es) k names (untimed_none es k timed)

same_after : (m : Mutation) (f g : Values) (k : CellKey) → f k ≡ g k → value_after m f k ≡ value_after m g k
same_after (SetCell family qualifier at value) f g k same = rw same refl
same_after (DeleteColumn family qualifier start end) f g k same = rw same refl
same_after (DeleteFamily family) f g k same = rw same refl
same_after DeleteRow f g k same = refl

-- what mutations leave at a key depends on what is there
pub same_values : (ms : List Mutation) (f g : Values) (k : CellKey) → f k ≡ g k → values_after ms f k ≡ values_after ms g k
same_values [] f g k same = same
same_values (m ∷ ms) f g k same = same_values ms (value_after m f) (value_after m g) k (same_after m f g k same)

-- ---- one outcome after another

module _ {X : Type 0} (e : CellKey × X) (rest : List (CellKey × X)) (sorted : IsStrictlySortedBy key_cmp (keys_of (e ∷ rest))) where
  -- no later key is the first one
  gone_past : (k : CellKey) → is_at (key_cmp k) e.0 ≡ true → value_at rest k ≡ None
  gone_past k same = lookup-none (is_at (key_cmp k)) rest (none_past_head (eq_by_cmp_equiv key_total) k e rest (IsDistinct-from_sorted key_cmp (keys_of (e ∷ rest)) sorted) same)

-- the value of the first one
pub first_value : {X : Type 0} (e : CellKey × X) (rest : List (CellKey × X)) → value_at (e ∷ rest) e.0 ≡ Some e.1
first_value e rest = lookup_head (is_at (key_cmp e.0)) e rest (ap is_eq (tied_itself key_total e.0))

module _ (e : CellKey × Outcome) (rest : List (CellKey × Outcome)) (sorted : IsStrictlySortedBy key_cmp (keys_of (e ∷ rest))) (f g : Values) where
  -- the first outcome came about
  pub settled : ((k : CellKey) → g k ≡ cond (is_at (key_cmp k) e.0) e.1.value (f k)) → (k : CellKey) → outcome_or (value_at rest k) (g k) ≡ outcome_or (value_at (e ∷ rest) k) (f k)
  settled one k = rw (one k) (by (is_at (key_cmp k) e.0) refl)
    where
      by : (t : Bool) → is_at (key_cmp k) e.0 ≡ t → outcome_or (value_at rest k) (cond t e.1.value (f k)) ≡ outcome_or (cond t (Some e.1) (value_at rest k)) (f k)
      by true same = rw (gone_past e rest sorted k same) refl
      by false other = refl

  -- the others have their places still
  pub places_left : ((k : CellKey) → g k ≡ cond (is_at (key_cmp k) e.0) e.1.value (f k)) → ((k : CellKey) → IfSome (value_at (e ∷ rest) k) (λ o. IsSome o.value → IsSome (f k))) → (k : CellKey) → IfSome (value_at rest k) (λ o. IsSome o.value → IsSome (g k))
  places_left one places k = rw (one k) (by (is_at (key_cmp k) e.0) refl (places k))
    where
      by : (t : Bool) → is_at (key_cmp k) e.0 ≡ t → IfSome (cond t (Some e.1) (value_at rest k)) (λ o. IsSome o.value → IsSome (f k)) → IfSome (value_at rest k) (λ o. IsSome o.value → IsSome (cond t e.1.value (f k)))
      by true same has = rw (gone_past e rest sorted k same) tt
      by false other has = has

  -- the first one was taken out, where it is new
  pub taken_new : e.1.is_new ≡ true → ((k : CellKey) → g k ≡ cond (is_at (key_cmp k) e.0) None (f k)) → (k : CellKey) → cond (is_new_at rest k) None (g k) ≡ cond (is_new_at (e ∷ rest) k) None (f k)
  taken_new new one k = rw (one k) (by (is_at (key_cmp k) e.0) refl)
    where
      by : (t : Bool) → is_at (key_cmp k) e.0 ≡ t → cond (is_new (value_at rest k)) None (cond t None (f k)) ≡ cond (is_new (cond t (Some e.1) (value_at rest k))) None (f k)
      by true same = rw (gone_past e rest sorted k same, new) refl
      by false other = refl

  pub taken_old : e.1.is_new ≡ false → (k : CellKey) → cond (is_new_at rest k) None (f k) ≡ cond (is_new_at (e ∷ rest) k) None (f k)
  taken_old old k = by (is_at (key_cmp k) e.0) refl
    where
      by : (t : Bool) → is_at (key_cmp k) e.0 ≡ t → cond (is_new (value_at rest k)) None (f k) ≡ cond (is_new (cond t (Some e.1) (value_at rest k))) None (f k)
      by true same = rw (gone_past e rest sorted k same, old) refl
      by false other = refl

-- a place takes a value
pub value_written : (key k : CellKey) (v : List ℕ) (es : Keyed) → IsSome (value_at es key) → value_at (set_value (is_at (key_cmp key)) es v) k ≡ cond (is_at (key_cmp k) key) (Some v) (value_at es k)
value_written key k v es there =
    lookup-set_value (eq_by_cmp_equiv key_total) (is_at (key_cmp key)) (λ x y same. (eq_by_cmp_equiv key_total).congr key x y same) k v es there ∙ ap (λ t. cond t (Some v) (value_at es k)) (same_turned key k)

module _ (key : CellKey) (o : Outcome) (olds news : List (CellKey × Outcome)) (put : (k : CellKey) → value_at news k ≡ cond (is_at (key_cmp key) k) (Some o) (value_at olds k)) where
  -- values stay short where a short one is put in
  pub put_short : IsShortOrNone o.value → ((k : CellKey) → IfSome (value_at olds k) (λ o. IsShortOrNone o.value)) → (k : CellKey) → IfSome (value_at news k) (λ o. IsShortOrNone o.value)
  put_short short all k = rw (put k) (by (is_at (key_cmp key) k))
    where
      by : (t : Bool) → IfSome (cond t (Some o) (value_at olds k)) (λ o. IsShortOrNone o.value)
      by true = short
      by false = all k

-- keys that have an outcome are kept
pub kept_only : {X : Type 0} (outcomes : List (CellKey × X)) (es : Keyed) (k : CellKey) → value_at (filter (λ e. is_some (value_at outcomes e.0)) es) k ≡ cond (is_some (value_at outcomes k)) (value_at es k) None
kept_only outcomes es k = lookup-filter-keys (is_at (key_cmp k)) (λ x. is_some (value_at outcomes x)) (is_some (value_at outcomes k)) (λ x same. ap (λ (y : CellKey). is_some (value_at outcomes y)) (sym (same_key k x same))) es

-- ---- the cells that have to be made

-- the keys of the cells that have to be made
abbrev pub wanted_keys : List (CellKey × Outcome) → List CellKey
wanted_keys outcomes = keys_of (filter (λ e. e.1.is_new && is_some e.1.value) outcomes)

-- a key is among them exactly if its outcome wants a cell
pub wanted_among : (outcomes : List (CellKey × Outcome)) → AreSorted outcomes → (keys : List CellKey) → keys ≡ wanted_keys outcomes → (k : CellKey) → list_any (is_at (key_cmp k)) keys ≡ is_wanted_at outcomes k
wanted_among outcomes sorted keys are k =
    ap (list_any (is_at (key_cmp k))) are ∙ sym (is_some-lookup (is_at (key_cmp k)) (filter (λ e. e.1.is_new && is_some e.1.value) outcomes))
    ∙ ap is_some (lookup-filter-values (eq_by_cmp_equiv key_total) (λ (o : Outcome). o.is_new && is_some o.value) k outcomes (IsDistinct-from_sorted key_cmp (keys_of outcomes) sorted)) ∙ by (value_at outcomes k)
  where
    picked : (o : Outcome) (t : Bool) → is_some (cond t (Some o) None) ≡ t
    picked o true = refl
    picked o false = refl

    by : (o : Option Outcome) → is_some (option_filter (λ (o : Outcome). o.is_new && is_some o.value) o) ≡ is_wanted o
    by None = refl
    by (Some o) = picked o (o.is_new && is_some o.value)

module _ (x : CellKey) (v : List ℕ) (rest all : List CellKey) (f g old : Values) (one : (k : CellKey) → g k ≡ cond (is_at (key_cmp x) k) (Some v) (f k)) where
  -- the keys that are left are among all
  pub left_among : ((k : CellKey) → list_any (is_at (key_cmp k)) all ≡ false → list_any (is_at (key_cmp k)) (x ∷ rest) ≡ false) → (k : CellKey) → list_any (is_at (key_cmp k)) all ≡ false → list_any (is_at (key_cmp k)) rest ≡ false
  left_among among k none = (neither (is_at (key_cmp k) x) (list_any (is_at (key_cmp k)) rest) (among k none)).1

  -- a key that is not among them keeps its value
  pub other_kept : ((k : CellKey) → list_any (is_at (key_cmp k)) all ≡ false → list_any (is_at (key_cmp k)) (x ∷ rest) ≡ false) → ((k : CellKey) → list_any (is_at (key_cmp k)) all ≡ false → f k ≡ old k)
      → (k : CellKey) → list_any (is_at (key_cmp k)) all ≡ false → g k ≡ old k
  other_kept among kept k none =
      let not_x = (neither (is_at (key_cmp k) x) (list_any (is_at (key_cmp k)) rest) (among k none)).0 in
      one k ∙ rw (same_turned x k, not_x) (kept k none)

  -- a key that is among them has its place, or will get it
  pub place_made : ((k : CellKey) → list_any (is_at (key_cmp k)) all ≡ true → cond (list_any (is_at (key_cmp k)) (x ∷ rest)) (Some v) (f k) ≡ Some v) → (k : CellKey) → list_any (is_at (key_cmp k)) all ≡ true → cond (list_any (is_at (key_cmp k)) rest) (Some v) (g k) ≡ Some v
  place_made made k some = rw (one k, same_turned x k) (by (is_at (key_cmp k) x) (made k some))
    where
      over : (r : Bool) → cond r (Some v) (Some v) ≡ Some v
      over true = refl
      over false = refl

      by : (t : Bool) → cond (t || list_any (is_at (key_cmp k)) rest) (Some v) (f k) ≡ Some v → cond (list_any (is_at (key_cmp k)) rest) (Some v) (cond t (Some v) (f k)) ≡ Some v
      by true h = over (list_any (is_at (key_cmp k)) rest)
      by false h = h

module _ (outcomes : List (CellKey × Outcome)) (old new : Values) (fresh : (k : CellKey) → IfSome (value_at outcomes k) (λ o. o.is_new ≡ is_none (old k))) (others : (k : CellKey) → is_wanted_at outcomes k ≡ false → new k ≡ old k) where
  -- without the new ones all is as it was
  pub taken_back : (last : Values) → ((k : CellKey) → last k ≡ cond (is_new_at outcomes k) None (new k)) → (k : CellKey) → last k ≡ old k
  taken_back last back k = back k ∙ by (value_at outcomes k) (fresh k) (others k)
    where
      nothing : (o : Option (List ℕ)) → true ≡ is_none o → None ≡ o
      nothing None e = refl
      nothing (Some v) e = cc e

      of : (o : Outcome) (b : Bool) → o.is_new ≡ b → o.is_new ≡ is_none (old k) → ((o.is_new && is_some o.value) ≡ false → new k ≡ old k) → cond b None (new k) ≡ old k
      of o true new_one is stays = nothing (old k) (sym new_one ∙ is)
      of o false old_one is stays = stays (rw old_one refl)

      by : (o : Option Outcome) → IfSome o (λ o. o.is_new ≡ is_none (old k)) → (is_wanted o ≡ false → new k ≡ old k) → cond (is_new o) None (new k) ≡ old k
      by None is stays = stays refl
      by (Some o) is stays = of o o.is_new refl is stays

module _ (outcomes : List (CellKey × Outcome)) (keys : List CellKey) (old new : Values) (wanted : (k : CellKey) → list_any (is_at (key_cmp k)) keys ≡ is_wanted_at outcomes k) (others : (k : CellKey) → list_any (is_at (key_cmp k)) keys ≡ false → new k ≡ old k) where
  pub unwanted_stay : (k : CellKey) → is_wanted_at outcomes k ≡ false → new k ≡ old k
  unwanted_stay k unwanted = others k (wanted k ∙ unwanted)

  -- the keys that are wanted have places, and the others what they had
  pub places_put : ((k : CellKey) → list_any (is_at (key_cmp k)) keys ≡ true → new k ≡ Some []) → (k : CellKey) → new k ≡ placed outcomes old k
  places_put made k = by (is_wanted_at outcomes k) refl
    where
      by : (t : Bool) → is_wanted_at outcomes k ≡ t → new k ≡ cond t (Some []) (old k)
      by true is = made k (wanted k ∙ is)
      by false is = unwanted_stay k is

module _ (p : Plan) (es fs : Keyed) (places : (k : CellKey) → value_at fs k ≡ placed p.outcomes.entries (value_at es) k) where
  -- the places play no part in what is planned
  pub planned_placed : (k : CellKey) → planned p fs k ≡ planned p es k
  planned_placed k = by (value_at p.outcomes.entries k) (places k)
    where
      by : (o : Option Outcome) → value_at fs k ≡ cond (is_wanted o) (Some []) (value_at es k) → outcome_or o (cond p.clears None (value_at fs k)) ≡ outcome_or o (cond p.clears None (value_at es k))
      by None same = ap (λ v. cond p.clears None v) same
      by (Some o) same = refl

  module _ (fresh : (k : CellKey) → IfSome (value_at p.outcomes.entries k) (λ o. o.is_new ≡ is_none (value_at es k))) where
    there : (o : Option (List ℕ)) → false ≡ is_none o → IsSome o
    there None e = cc e
    there (Some v) e = refl

    -- each new value has a place
    pub has_places : (k : CellKey) → IfSome (value_at p.outcomes.entries k) (λ o. IsSome o.value → IsSome (value_at fs k))
    has_places k = by (value_at p.outcomes.entries k) (fresh k) (places k)
      where
        of : (o : Outcome) (b : Bool) → o.is_new ≡ b → o.is_new ≡ is_none (value_at es k) → value_at fs k ≡ cond (o.is_new && is_some o.value) (Some []) (value_at es k) → IsSome o.value → IsSome (value_at fs k)
        of o true new_one is place some = rw (place, new_one, some) refl
        of o false old_one is place some = rw (place, old_one) (there (value_at es k) (sym old_one ∙ is))

        by : (o : Option Outcome) → IfSome o (λ o. o.is_new ≡ is_none (value_at es k)) → value_at fs k ≡ cond (is_wanted o) (Some []) (value_at es k) → IfSome o (λ o. IsSome o.value → IsSome (value_at fs k))
        by None is place = tt
        by (Some o) is place = of o o.is_new refl is place

-- a bare plan leaves all as it is
pub planned_none : (p : Plan) (es : Keyed) → p.outcomes.entries ≡ [] → p.clears ≡ false → (k : CellKey) → planned p es k ≡ value_at es k
planned_none p es bare keeps k = rw (bare, keeps) refl
