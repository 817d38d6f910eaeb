-- Tables found by their incarnations.
use Rattle.std.proofs.Common.{◌≡◌, ℕ, Bool, true, false, ◌==◌, List, [], ◌∷◌, Option, Some, None, cond, refl, sym, ap, ◌∙◌, subst, if◌then◌else◌, eqb-true, eq-eqb, arith}
use Rattle.std.specs.Prelude.{IfSome, option_map}
use Rattle.std.specs.List.{AllByRecursion}
use Rattle.std.specs.Ordering.{nat_cmp, match_ordering, ordering_reverse, is_eq}
use Rattle.std.specs.declared.cmp.Ordering.{Ordering}
use Rattle.std.specs.declared.cmp.Ordering.TheVariants.{Less, Equal, Greater}
use Rattle.std.specs.Cmp.Lexicographic.{slice_cmp}
use Rattle.std.specs.Map.{lookup, keys_of}
use Rattle.std.specs.BTreeMap.{insert_entry, is_at}
use Rattle.std.proofs.lemmas.Cmp.{nat_list_cmp_total}
use Rattle.std.proofs.lemmas.Map.Keys.{sorted_head, sorted_tail}
use Rattle.std.proofs.lemmas.Map.Text.{is_eq-slice_cmp}
use Rattle.std.proofs.lemmas.Slice.Eq.{bytes_eq-Decides}
use Rattle.bt_entry.specs.declared.table_info.TableInfo.{TableInfo}
use Rattle.bt_schema.specs.Schema.{Schema, name_is, table_at}
use Rattle.bt_schema.specs.Indexed.{IsIndexed, AreIndexed}

-- equal in the order of names
pub equal_of : (r : Ordering) → is_eq r ≡ true → r ≡ Equal
equal_of Less e = cc
equal_of Equal e = refl
equal_of Greater e = cc

-- equal numbers
nat_cmp_equal : (n m : ℕ) → nat_cmp n m ≡ Equal → n ≡ m
nat_cmp_equal n m e = grind arith

-- another incarnation
apart : (n m : ℕ) → (m == n) ≡ false → is_at (nat_cmp n) m ≡ false
apart n m other = by (is_at (nat_cmp n) m) refl
  where
    by : (b : Bool) → is_at (nat_cmp n) m ≡ b → b ≡ false
    by true e = let same : m ≡ n = sym (nat_cmp_equal n m (equal_of (nat_cmp n m) e)) in cc (eq-eqb m n same, other)
    by false e = refl

-- different numbers
not_by : (m n : ℕ) (b : Bool) → (m == n) ≡ b → (m ≡ n → ⊥) → b ≡ false
not_by m n true e other = absurd (other (eqb-true m n e))
not_by m n false e other = refl

pub not_here : (m n : ℕ) → (m ≡ n → ⊥) → (m == n) ≡ false
not_here m n other = not_by m n (m == n) refl other

-- the same from both sides
equal_both : (r : Ordering) → r ≡ ordering_reverse r → is_eq r ≡ true
equal_both Less e = cc e
equal_both Equal e = refl
equal_both Greater e = cc e

-- a name by itself
pub its_key : (name key : List ℕ) → key ≡ name → name_is name key ≡ true
its_key name key same = ap (name_is name) same ∙ equal_both (slice_cmp nat_cmp name name) (nat_list_cmp_total.antisymm name name)

module _ (names : List (ℕ × List ℕ)) (incarnation : ℕ) where
  abbrev here : TableInfo → Bool
  here info = info.incarnation == incarnation

  abbrev stands : Option (List ℕ)
  stands = lookup (is_at (nat_cmp incarnation)) names

  -- a table of the incarnation has the name that stands there
  pub its_name : (name : List ℕ) (t : List ℕ × TableInfo) → stands ≡ Some name → IsIndexed names t → here t.1 ≡ true → t.0 ≡ name
  its_name name t there is same =
      let one : Some t.0 ≡ Some name = sym is ∙ ap (λ n. lookup (is_at (nat_cmp n)) names) (eqb-true t.1.incarnation incarnation same) ∙ there in
      cc one

  none_there : (t : List ℕ × TableInfo) (ts : Schema) (b : Bool) → here t.1 ≡ b → stands ≡ None → IsIndexed names t → table_at incarnation ts ≡ None → (if b then Some t.1 else table_at incarnation ts) ≡ None
  none_there t ts true e absent is rest = let one : Some t.0 ≡ None = sym is ∙ ap (λ n. lookup (is_at (nat_cmp n)) names) (eqb-true t.1.incarnation incarnation e) ∙ absent in cc one
  none_there t ts false e absent is rest = rest

  -- where no name stands there, no table has the incarnation
  pub none_named : (ts : Schema) → stands ≡ None → AllByRecursion (IsIndexed names) ts → table_at incarnation ts ≡ None
  none_named [] absent all = refl
  none_named (t ∷ ts) absent all = none_there t ts (here t.1) refl absent all.0 (none_named ts absent all.1)

  other_key : (name : List ℕ) (t : List ℕ × TableInfo) (ts : Schema) (b : Bool) → here t.1 ≡ b → stands ≡ Some name → name_is name t.0 ≡ false → IsIndexed names t → (if b then Some t.1 else table_at incarnation ts) ≡ table_at incarnation ts
  other_key name t ts true e there other is = cc (its_key name t.0 (its_name name t there is e), other)
  other_key name t ts false e there other is = refl

  not_found : (name : List ℕ) (t : List ℕ × TableInfo) (ts : Schema) (b : Bool) → name_is name t.0 ≡ b → cond b (Some t.1) (lookup (name_is name) ts) ≡ None → stands ≡ Some name → IsIndexed names t → (lookup (name_is name) ts ≡ None → table_at incarnation ts ≡ None) → table_at incarnation (t ∷ ts) ≡ None
  not_found name t ts true e gone there is rest = cc gone
  not_found name t ts false e gone there is rest = other_key name t ts (here t.1) refl there e is ∙ rest gone

  -- where no table has the name that stands there, none has the incarnation
  pub none_found : (name : List ℕ) (ts : Schema) → stands ≡ Some name → lookup (name_is name) ts ≡ None → AllByRecursion (IsIndexed names) ts → table_at incarnation ts ≡ None
  none_found name [] there absent all = refl
  none_found name (t ∷ ts) there absent all = not_found name t ts (name_is name t.0) refl absent there all.0 (λ gone. none_found name ts there gone all.1)

  not_behind : (name key : List ℕ) (t : List ℕ × TableInfo) (ts : Schema) (b : Bool) → here t.1 ≡ b → stands ≡ Some name → slice_cmp nat_cmp name key ≡ Equal → slice_cmp nat_cmp key t.0 ≡ Less → IsIndexed names t → table_at incarnation ts ≡ None → (if b then Some t.1 else table_at incarnation ts) ≡ None
  not_behind name key t ts true e there equal less is rest =
      let below : slice_cmp nat_cmp key name ≡ Less = subst (λ k. slice_cmp nat_cmp key k ≡ Less) (its_name name t there is e) less in
      let back : slice_cmp nat_cmp name key ≡ Greater = nat_list_cmp_total.antisymm name key ∙ ap ordering_reverse below in
      cc (back, equal)
  not_behind name key t ts false e there equal less is rest = rest

  -- behind the table of that name none has the incarnation
  pub none_behind : (name key : List ℕ) (ts : Schema) → stands ≡ Some name → slice_cmp nat_cmp name key ≡ Equal → AllByRecursion (λ k. slice_cmp nat_cmp key k ≡ Less) (keys_of ts) → AllByRecursion (IsIndexed names) ts → table_at incarnation ts ≡ None
  none_behind name key [] there equal below all = refl
  none_behind name key (t ∷ ts) there equal below all = not_behind name key t ts (here t.1) refl there equal below.0 all.0 (none_behind name key ts there equal below.1 all.1)

  found_by : (name : List ℕ) (info : TableInfo) (t : List ℕ × TableInfo) (ts : Schema) (b : Bool) → name_is name t.0 ≡ b → cond b (Some t.1) (lookup (name_is name) ts) ≡ Some info → stands ≡ Some name → IsIndexed names t → here info ≡ true → (lookup (name_is name) ts ≡ Some info → table_at incarnation ts ≡ Some info) → table_at incarnation (t ∷ ts) ≡ Some info
  found_by name info t ts true e f there is has rest =
      let same : t.1 ≡ info = cc f in
      ap (λ b. if b then Some t.1 else table_at incarnation ts) (ap here same ∙ has) ∙ f
  found_by name info t ts false e f there is has rest = other_key name t ts (here t.1) refl there e is ∙ rest f

  -- the table of the name that stands there is the one of the incarnation, where it has it
  pub found_there : (name : List ℕ) (info : TableInfo) (ts : Schema) → stands ≡ Some name → lookup (name_is name) ts ≡ Some info → AreIndexed names ts → here info ≡ true → table_at incarnation ts ≡ Some info
  found_there name info [] there found all has = cc found
  found_there name info (t ∷ ts) there found all has =
      found_by name info t ts (name_is name t.0) refl found there all.1.0 has (λ f. found_there name info ts there f (sorted_tail (slice_cmp nat_cmp) t.0 (keys_of ts) all.0, all.1.1) has)

  other_by : (name : List ℕ) (info : TableInfo) (t : List ℕ × TableInfo) (ts : Schema) (b : Bool) → name_is name t.0 ≡ b → cond b (Some t.1) (lookup (name_is name) ts) ≡ Some info → stands ≡ Some name → AreIndexed names (t ∷ ts) → here info ≡ false → (lookup (name_is name) ts ≡ Some info → table_at incarnation ts ≡ None) → table_at incarnation (t ∷ ts) ≡ None
  other_by name info t ts true e f there all has rest =
      let same : t.1 ≡ info = cc f in
      ap (λ b. if b then Some t.1 else table_at incarnation ts) (ap here same ∙ has)
      ∙ none_behind name t.0 ts there (equal_of (slice_cmp nat_cmp name t.0) e) (sorted_head (slice_cmp nat_cmp) t.0 (keys_of ts) all.0) all.1.1
  other_by name info t ts false e f there all has rest = other_key name t ts (here t.1) refl there e all.1.0 ∙ rest f

  -- where it has another, no table has the incarnation
  pub other_there : (name : List ℕ) (info : TableInfo) (ts : Schema) → stands ≡ Some name → lookup (name_is name) ts ≡ Some info → AreIndexed names ts → here info ≡ false → table_at incarnation ts ≡ None
  other_there name info [] there found all has = cc found
  other_there name info (t ∷ ts) there found all has =
      other_by name info t ts (name_is name t.0) refl found there all has (λ f. other_there name info ts there f (sorted_tail (slice_cmp nat_cmp) t.0 (keys_of ts) all.0, all.1.1) has)

module _ (n : ℕ) (names new : List (ℕ × List ℕ)) (kept : (q : ℕ) → is_at (nat_cmp n) q ≡ false → lookup (is_at (nat_cmp q)) new ≡ lookup (is_at (nat_cmp q)) names) where
  still_by : (t : List ℕ × TableInfo) (ts : Schema) (b : Bool) → (t.1.incarnation == n) ≡ b → (if b then Some t.1 else table_at n ts) ≡ None → IsIndexed names t → (table_at n ts ≡ None → AllByRecursion (IsIndexed new) ts) → IsIndexed new t × AllByRecursion (IsIndexed new) ts
  still_by t ts true e gone is rest = cc gone
  still_by t ts false e gone is rest = (kept t.1.incarnation (apart n t.1.incarnation e) ∙ is, rest gone)

  -- a name that is put at an incarnation that no table has leaves the tables where they are
  pub still_indexed : (ts : Schema) → table_at n ts ≡ None → AllByRecursion (IsIndexed names) ts → AllByRecursion (IsIndexed new) ts
  still_indexed [] none all = tt
  still_indexed (t ∷ ts) none all = still_by t ts (t.1.incarnation == n) refl none all.0 (λ gone. still_indexed ts gone all.1)

module _ (names : List (ℕ × List ℕ)) (name : List ℕ) (info : TableInfo) (is : IsIndexed names (name, info)) where
  absent_by : (t : List ℕ × TableInfo) (ts : Schema) (r : Ordering) → cond (is_eq r) (Some t.1) (lookup (name_is name) ts) ≡ None → AllByRecursion (IsIndexed names) (t ∷ ts) → (lookup (name_is name) ts ≡ None → AllByRecursion (IsIndexed names) (insert_entry (slice_cmp nat_cmp) ts name info)) → AllByRecursion (IsIndexed names) (match_ordering r ((name, info) ∷ t ∷ ts) ((t.0, info) ∷ ts) (t ∷ insert_entry (slice_cmp nat_cmp) ts name info))
  absent_by t ts Less gone all rest = (is, all)
  absent_by t ts Equal gone all rest = cc gone
  absent_by t ts Greater gone all rest = (all.0, rest gone)

  -- a new table at its name
  pub all_insert : (ts : Schema) → lookup (name_is name) ts ≡ None → AllByRecursion (IsIndexed names) ts → AllByRecursion (IsIndexed names) (insert_entry (slice_cmp nat_cmp) ts name info)
  all_insert [] absent all = (is, tt)
  all_insert (t ∷ ts) absent all = absent_by t ts (slice_cmp nat_cmp name t.0) absent all (λ gone. all_insert ts gone all.1)

module _ (names : List (ℕ × List ℕ)) (name : List ℕ) (info : TableInfo) where
  same_name : (key : List ℕ) → name_is name key ≡ true → name ≡ key
  same_name key is = (bytes_eq-Decides name key).0 (sym (is_eq-slice_cmp name key) ∙ is)

  own_by : (t : List ℕ × TableInfo) (ts : Schema) (b : Bool) → name_is name t.0 ≡ b → cond b (Some t.1) (lookup (name_is name) ts) ≡ Some info → IsIndexed names t → (lookup (name_is name) ts ≡ Some info → lookup (is_at (nat_cmp info.incarnation)) names ≡ Some name) → lookup (is_at (nat_cmp info.incarnation)) names ≡ Some name
  own_by t ts true e found is rest =
      let same : t.1 ≡ info = cc found in
      ap (λ (i : TableInfo). lookup (is_at (nat_cmp i.incarnation)) names) (sym same) ∙ is ∙ ap (λ (n : List ℕ). Some n) (sym (same_name t.0 e))
  own_by t ts false e found is rest = rest found

  -- the name of a table stands at its incarnation
  own_name : (ts : Schema) → lookup (name_is name) ts ≡ Some info → AllByRecursion (IsIndexed names) ts → lookup (is_at (nat_cmp info.incarnation)) names ≡ Some name
  own_name [] found all = cc found
  own_name (t ∷ ts) found all = own_by t ts (name_is name t.0) refl found all.0 (λ f. own_name ts f all.1)

  -- no other table has the incarnation
  pub own_table : (ts : Schema) → lookup (name_is name) ts ≡ Some info → AreIndexed names ts → table_at info.incarnation ts ≡ Some info
  own_table ts found all = found_there names info.incarnation name info ts (own_name ts found all.1) found all (eq-eqb info.incarnation info.incarnation refl)

-- the same of a table that was looked up
pub own_if : {T : Type 0} (view : T → TableInfo) (names : List (ℕ × List ℕ)) (name : List ℕ) (ts : Schema) (r : Option T) → option_map view r ≡ lookup (name_is name) ts → AreIndexed names ts → IfSome r (λ t. table_at (view t).incarnation ts ≡ Some (view t))
own_if view names name ts None found all = tt
own_if view names name ts (Some t) found all = own_table names name (view t) ts (sym found) all
