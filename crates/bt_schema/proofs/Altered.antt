-- Tables that change or go, by their incarnations.
use Rattle.std.proofs.Common.{◌≡◌, ℕ, Bool, true, false, ◌==◌, List, [], ◌∷◌, Option, Some, None, cond, refl, sym, ap, ◌∙◌, subst, if◌then◌else◌, not}
use Rattle.std.specs.Prelude.{IsSome}
use Rattle.std.specs.List.{AllByRecursion}
use Rattle.std.specs.List.Sorted.{IsStrictlySortedBy}
use Rattle.std.specs.Ordering.{nat_cmp}
use Rattle.std.specs.Cmp.Lexicographic.{slice_cmp}
use Rattle.std.specs.Map.{lookup, keys_of, remove_entry, set_value}
use Rattle.std.specs.BTreeMap.{is_at}
use Rattle.std.proofs.lemmas.Map.Keys.{sorted_head, sorted_tail}
use Rattle.bt_entry.specs.declared.table_info.TableInfo.{TableInfo}
use Rattle.bt_schema.specs.Schema.{Schema, changed_at, name_is, table_at, without}
use Rattle.bt_schema.specs.Indexed.{IsIndexed, AreIndexed}
use Rattle.bt_schema.proofs.Indexes.{equal_of, its_key, its_name, none_behind, none_named, none_found, other_there}

some_none : {T : Type 0} (o : Option T) → IsSome o → o ≡ None → ⊥
some_none None some e = cc some
some_none (Some x) some e = cc e

module _ (names : List (ℕ × List ℕ)) (incarnation : ℕ) where
  abbrev here : TableInfo → Bool
  here info = info.incarnation == incarnation

  abbrev stands : Option (List ℕ)
  stands = lookup (is_at (nat_cmp incarnation)) names

  -- a table that is there has a name at its incarnation
  pub named : (ts : Schema) → IsSome (table_at incarnation ts) → AreIndexed names ts → stands ≡ None → ⊥
  named ts some all absent = some_none (table_at incarnation ts) some (none_named names incarnation ts absent all.1)

  -- it is found by that name
  pub found_named : (name : List ℕ) (ts : Schema) → IsSome (table_at incarnation ts) → AreIndexed names ts → stands ≡ Some name → lookup (name_is name) ts ≡ None → ⊥
  found_named name ts some all there absent = some_none (table_at incarnation ts) some (none_found names incarnation name ts there absent all.1)

  is_here : (name : List ℕ) (info : TableInfo) (ts : Schema) (b : Bool) → here info ≡ b → IsSome (table_at incarnation ts) → AreIndexed names ts → stands ≡ Some name → lookup (name_is name) ts ≡ Some info → here info ≡ true
  is_here name info ts true e some all there found = e
  is_here name info ts false e some all there found = absurd (some_none (table_at incarnation ts) some (other_there names incarnation name info ts there found all e))

  unchanged_by : (change : TableInfo → TableInfo) (t : List ℕ × TableInfo) (ts : Schema) (b : Bool) → (if b then Some t.1 else table_at incarnation ts) ≡ None → (table_at incarnation ts ≡ None → changed_at incarnation change ts ≡ ts)
      → (if b then (t.0, change t.1) else t) ∷ changed_at incarnation change ts ≡ t ∷ ts
  unchanged_by change t ts true none rest = cc none
  unchanged_by change t ts false none rest = ap (λ xs. t ∷ xs) (rest none)

  -- where no table has the incarnation, none changes
  unchanged : (change : TableInfo → TableInfo) (ts : Schema) → table_at incarnation ts ≡ None → changed_at incarnation change ts ≡ ts
  unchanged change [] none = refl
  unchanged change (t ∷ ts) none = unchanged_by change t ts (here t.1) none (unchanged change ts)

  kept_by : (t : List ℕ × TableInfo) (ts : Schema) (b : Bool) → (if b then Some t.1 else table_at incarnation ts) ≡ None → (table_at incarnation ts ≡ None → without incarnation ts ≡ ts)
      → cond (not b) (t ∷ without incarnation ts) (without incarnation ts) ≡ t ∷ ts
  kept_by t ts true none rest = cc none
  kept_by t ts false none rest = ap (λ xs. t ∷ xs) (rest none)

  -- and none goes
  kept : (ts : Schema) → table_at incarnation ts ≡ None → without incarnation ts ≡ ts
  kept [] none = refl
  kept (t ∷ ts) none = kept_by t ts (here t.1) none (kept ts)

  -- behind the table of that name none has the incarnation
  behind : (name : List ℕ) (t : List ℕ × TableInfo) (ts : Schema) → stands ≡ Some name → name_is name t.0 ≡ true → AreIndexed names (t ∷ ts) → table_at incarnation ts ≡ None
  behind name t ts there is all = none_behind names incarnation name t.0 ts there (equal_of (slice_cmp nat_cmp name t.0) is) (sorted_head (slice_cmp nat_cmp) t.0 (keys_of ts) all.0) all.1.1

  -- a table of the incarnation has the name
  its : (name : List ℕ) (t : List ℕ × TableInfo) → stands ≡ Some name → IsIndexed names t → here t.1 ≡ true → name_is name t.0 ≡ true
  its name t there is e = its_key name t.0 (its_name names incarnation name t there is e)

  changed_by : (name : List ℕ) (info : TableInfo) (change : TableInfo → TableInfo) (t : List ℕ × TableInfo) (ts : Schema) (b d : Bool) → name_is name t.0 ≡ b → here t.1 ≡ d → cond b (Some t.1) (lookup (name_is name) ts) ≡ Some info → here info ≡ true → stands ≡ Some name → AreIndexed names (t ∷ ts)
      → (lookup (name_is name) ts ≡ Some info → set_value (name_is name) ts (change info) ≡ changed_at incarnation change ts)
      → cond b ((t.0, change info) ∷ ts) (t ∷ set_value (name_is name) ts (change info)) ≡ (if d then (t.0, change t.1) else t) ∷ changed_at incarnation change ts
  changed_by name info change t ts true true is e found has there all rest =
      let same : t.1 ≡ info = cc found in
      let left : changed_at incarnation change ts ≡ ts = unchanged change ts (behind name t ts there is all) in
      rw (left, same) refl
  changed_by name info change t ts true false is e found has there all rest =
      let same : t.1 ≡ info = cc found in
      cc (ap here same, e, has)
  changed_by name info change t ts false true is e found has there all rest = cc (its name t there all.1.0 e, is)
  changed_by name info change t ts false false is e found has there all rest = ap (λ xs. t ∷ xs) (rest found)

  changed_found : (name : List ℕ) (info : TableInfo) (change : TableInfo → TableInfo) (ts : Schema) → here info ≡ true → stands ≡ Some name → AreIndexed names ts → lookup (name_is name) ts ≡ Some info → set_value (name_is name) ts (change info) ≡ changed_at incarnation change ts
  changed_found name info change [] has there all found = cc found
  changed_found name info change (t ∷ ts) has there all found =
      changed_by name info change t ts (name_is name t.0) (here t.1) refl refl found has there all (changed_found name info change ts has there (sorted_tail (slice_cmp nat_cmp) t.0 (keys_of ts) all.0, all.1.1))

  -- what is written over the table of the name is what the table of the incarnation changes to
  pub changed_there : (name : List ℕ) (info : TableInfo) (change : TableInfo → TableInfo) (ts : Schema) → IsSome (table_at incarnation ts) → AreIndexed names ts → stands ≡ Some name → lookup (name_is name) ts ≡ Some info → set_value (name_is name) ts (change info) ≡ changed_at incarnation change ts
  changed_there name info change ts some all there found = changed_found name info change ts (is_here name info ts (here info) refl some all there found) there all found

  without_by : (name : List ℕ) (t : List ℕ × TableInfo) (ts : Schema) (b d : Bool) → name_is name t.0 ≡ b → here t.1 ≡ d → IsSome (if d then Some t.1 else table_at incarnation ts) → stands ≡ Some name → AreIndexed names (t ∷ ts)
      → (IsSome (table_at incarnation ts) → remove_entry (name_is name) ts ≡ without incarnation ts)
      → cond b ts (t ∷ remove_entry (name_is name) ts) ≡ cond (not d) (t ∷ without incarnation ts) (without incarnation ts)
  without_by name t ts true true is e some there all rest = sym (kept ts (behind name t ts there is all))
  without_by name t ts true false is e some there all rest = absurd (some_none (table_at incarnation ts) some (behind name t ts there is all))
  without_by name t ts false true is e some there all rest = cc (its name t there all.1.0 e, is)
  without_by name t ts false false is e some there all rest = ap (λ xs. t ∷ xs) (rest some)

  -- without the table of the name there is none of the incarnation
  pub without_there : (name : List ℕ) (ts : Schema) → IsSome (table_at incarnation ts) → AreIndexed names ts → stands ≡ Some name → remove_entry (name_is name) ts ≡ without incarnation ts
  without_there name [] some all there = refl
  without_there name (t ∷ ts) some all there =
      without_by name t ts (name_is name t.0) (here t.1) refl refl some there all (λ s. without_there name ts s (sorted_tail (slice_cmp nat_cmp) t.0 (keys_of ts) all.0, all.1.1) there)

  gone_by : (t : List ℕ × TableInfo) (ts : Schema) (b : Bool) → here t.1 ≡ b → table_at incarnation (without incarnation ts) ≡ None → table_at incarnation (cond (not b) (t ∷ without incarnation ts) (without incarnation ts)) ≡ None
  gone_by t ts true e rest = rest
  gone_by t ts false e rest = rw e rest

  pub gone : (ts : Schema) → table_at incarnation (without incarnation ts) ≡ None
  gone [] = refl
  gone (t ∷ ts) = gone_by t ts (here t.1) refl (gone ts)

  all_by : (P : List ℕ × TableInfo → Type 0) (t : List ℕ × TableInfo) (ts : Schema) (b : Bool) → P t → AllByRecursion P (without incarnation ts) → AllByRecursion P (cond b (t ∷ without incarnation ts) (without incarnation ts))
  all_by P t ts true holds rest = (holds, rest)
  all_by P t ts false holds rest = rest

  pub all_without : (P : List ℕ × TableInfo → Type 0) (ts : Schema) → AllByRecursion P ts → AllByRecursion P (without incarnation ts)
  all_without P [] all = tt
  all_without P (t ∷ ts) all = all_by P t ts (not (here t.1)) all.0 (all_without P ts all.1)

  keys_by : (change : TableInfo → TableInfo) (t : List ℕ × TableInfo) (b : Bool) → (if b then (t.0, change t.1) else t).0 ≡ t.0
  keys_by change t true = refl
  keys_by change t false = refl

  keys_changed : (change : TableInfo → TableInfo) (ts : Schema) → keys_of (changed_at incarnation change ts) ≡ keys_of ts
  keys_changed change [] = refl
  keys_changed change (t ∷ ts) = cc (keys_by change t (here t.1), keys_changed change ts)

  module _ (change : TableInfo → TableInfo) (keeps : (t : TableInfo) → (change t).incarnation ≡ t.incarnation) where
    indexed_by : (t : List ℕ × TableInfo) (b : Bool) → IsIndexed names t → IsIndexed names (if b then (t.0, change t.1) else t)
    indexed_by t true is = ap (λ (n : ℕ). lookup (is_at (nat_cmp n)) names) (keeps t.1) ∙ is
    indexed_by t false is = is

    all_changed : (ts : Schema) → AllByRecursion (IsIndexed names) ts → AllByRecursion (IsIndexed names) (changed_at incarnation change ts)
    all_changed [] all = tt
    all_changed (t ∷ ts) all = (indexed_by t (here t.1) all.0, all_changed ts all.1)

    -- a change that keeps the incarnation leaves each name at it
    pub indexed_changed : (ts : Schema) → AreIndexed names ts → AreIndexed names (changed_at incarnation change ts)
    indexed_changed ts all = (subst (λ ks. IsStrictlySortedBy (slice_cmp nat_cmp) ks) (sym (keys_changed change ts)) all.0, all_changed ts all.1)
