-- Families of a table that change.
use Rattle.std.proofs.Common.{◌≡◌, ◌≤◌, ◌<◌, ◌+◌, ℕ, zero, suc, Bool, true, false, List, [], ◌∷◌, length, Some, None, Result, Ok, Err, refl, ap, ◌∙◌, sym, subst, cond, arith, set, ⊎_elim}
use Rattle.std.specs.Prelude.{◌&&◌, ◌||◌, not, nat_le, nat_lt, filter, bytes_eq, insert, unwrap_or}
use Rattle.std.specs.List.{AllByRecursion, list_all, list_any, position, slice_get}
use Rattle.std.specs.Ordering.{is_le, match_ordering, nat_cmp, ordering_reverse}
use Rattle.std.specs.declared.cmp.Ordering.{Ordering}
use Rattle.std.specs.declared.cmp.Ordering.TheVariants.{Less, Equal, Greater}
use Rattle.std.specs.Cmp.Lexicographic.{slice_cmp}
use Rattle.std.proofs.lemmas.Bool.{and_from, and_parts, leb-false, ltb-false, or_cases, or_left, or_parts, or_right}
use Rattle.std.proofs.lemmas.Cmp.{nat_list_cmp_total, tied_itself}
use Rattle.std.proofs.lemmas.List.Sums.{prefix_len-le-length}
use Rattle.std.proofs.lemmas.Map.Lookups.{exact_bytes}
use Rattle.std.proofs.lemmas.Slice.Eq.{bytes_eq-Decides}
use Rattle.bt_types.specs.Grammar.{is_family_name}
use Rattle.bt_rules.specs.declared.family.Family.{Family}
use Rattle.bt_rules.specs.Rules.{is_lawful_or_none}
use Rattle.bt_codec.specs.Lists.{AllFrom}
use Rattle.bt_entry.specs.Grammar.{AreSpellableFamilies, IsFamilyBehind, is_below, most_families, name_of}
use Rattle.bt_messages.specs.declared.refusal.Refusal.{Refusal}
use Rattle.bt_messages.specs.declared.refusal.Refusal.TheVariants as refusal
use Rattle.bt_requests.specs.declared.families.FamilyChange.{FamilyChange}
use Rattle.bt_requests.specs.declared.families.FamilyChange.TheVariants.{Missing, Create, Update, Drop}
use Rattle.bt_requests.specs.declared.families.Modification.{Modification}
use Rattle.bt_table_replies.proofs.Creates.{above_nothing}
use Rattle.bt_table_replies.specs.Families.{has_name, place_of}
use Rattle.bt_table_replies.specs.Modifications.{after_change, after_changes, and_then, family, is_drop, with_family, without_family}
use Rattle.bt_plans.specs.Replies.{refused_if}
use Rattle.bt_schema.specs.Schema.{is_family_of}

abbrev cmp : List ℕ → List ℕ → Ordering
cmp a b = slice_cmp nat_cmp a b

itself : (a : List ℕ) → bytes_eq a a ≡ true
itself a = (bytes_eq-Decides a a).1 refl

-- equal names are the same
pub same_name : (a b : List ℕ) → bytes_eq a b ≡ true → a ≡ b
same_name a b = (bytes_eq-Decides a b).0

-- a name that is below another isn't that one
not_below : (a b : List ℕ) → cmp a b ≡ Less → bytes_eq b a ≡ true → ⊥
not_below a b less same = let equal : cmp a b ≡ Equal = rw (same_name b a same) (tied_itself nat_list_cmp_total a) in cc

not_other : (a b : List ℕ) → cmp a b ≡ Equal → bytes_eq b a ≡ false → ⊥
not_other a b equal other = let same : bytes_eq b a ≡ true = rw (exact_bytes a b equal) (itself b) in cc

-- ---- the place of a family

module _ (f : Family) where
  over_by : (g : Family) (gs : List Family) (r : Ordering) → cmp f.name g.name ≡ r → (k : ℕ) → k ≡ cond (not (is_le r)) (1 + place_of f.name gs) 0 → has_name f.name (slice_get (g ∷ gs) k) ≡ true
      → ((j : ℕ) → j ≡ place_of f.name gs → has_name f.name (slice_get gs j) ≡ true → with_family f gs ≡ set gs j f)
      → match_ordering r (f ∷ g ∷ gs) (f ∷ gs) (g ∷ with_family f gs) ≡ set (g ∷ gs) k f
  over_by g gs Less is zero at named rest = absurd (not_below f.name g.name is named)
  over_by g gs Less is (suc k) at named rest = absurd (omega (arith, at))
  over_by g gs Equal is zero at named rest = refl
  over_by g gs Equal is (suc k) at named rest = absurd (omega (arith, at))
  over_by g gs Greater is zero at named rest = absurd (omega (arith, at))
  over_by g gs Greater is (suc k) at named rest = ap (λ xs. g ∷ xs) (rest k (omega (arith, at)) named)

  -- it stands in place of the one of its name
  pub put_over : (fs : List Family) (k : ℕ) → k ≡ place_of f.name fs → has_name f.name (slice_get fs k) ≡ true → with_family f fs ≡ set fs k f
  put_over [] k at named = absurd cc
  put_over (g ∷ gs) k at named = over_by g gs (cmp f.name g.name) refl k at named (put_over gs)

  before_by : (g : Family) (gs : List Family) (r : Ordering) → cmp f.name g.name ≡ r → (k : ℕ) → k ≡ cond (not (is_le r)) (1 + place_of f.name gs) 0 → has_name f.name (slice_get (g ∷ gs) k) ≡ false
      → ((j : ℕ) → j ≡ place_of f.name gs → has_name f.name (slice_get gs j) ≡ false → with_family f gs ≡ insert gs j f)
      → match_ordering r (f ∷ g ∷ gs) (f ∷ gs) (g ∷ with_family f gs) ≡ insert (g ∷ gs) k f
  before_by g gs Less is zero at other rest = refl
  before_by g gs Less is (suc k) at other rest = absurd (omega (arith, at))
  before_by g gs Equal is zero at other rest = absurd (not_other f.name g.name is other)
  before_by g gs Equal is (suc k) at other rest = absurd (omega (arith, at))
  before_by g gs Greater is zero at other rest = absurd (omega (arith, at))
  before_by g gs Greater is (suc k) at other rest = ap (λ xs. g ∷ xs) (rest k (omega (arith, at)) other)

  -- or before those whose names are past its name
  pub put_before : (fs : List Family) (k : ℕ) → k ≡ place_of f.name fs → has_name f.name (slice_get fs k) ≡ false → with_family f fs ≡ insert fs k f
  put_before [] zero at other = refl
  put_before [] (suc k) at other = absurd (omega (arith, at))
  put_before (g ∷ gs) k at other = before_by g gs (cmp f.name g.name) refl k at other (put_before gs)

-- past the last family there is none
pub place_or_end : (name : List ℕ) (fs : List Family) → unwrap_or (position (λ f. is_le (cmp name f.name)) fs) (length fs) ≡ place_of name fs
place_or_end name fs = by (nat_lt (place_of name fs) (length fs)) refl (prefix_len-le-length (λ f. not (is_le (cmp name f.name))) fs)
  where
    by : (b : Bool) → nat_lt (place_of name fs) (length fs) ≡ b → place_of name fs ≤ length fs → unwrap_or (cond b (Some (place_of name fs)) None) (length fs) ≡ place_of name fs
    by true is within = refl
    by false is within = omega (arith, within, ltb-false (place_of name fs) (length fs) is)

pub place_within : (name : List ℕ) (fs : List Family) → place_of name fs ≤ length fs
place_within name fs = prefix_len-le-length (λ f. not (is_le (cmp name f.name))) fs

-- ---- order

below_of : (a b : List ℕ) → cmp a b ≡ Less → is_below a b ≡ true
below_of a b less = ap (λ r. match_ordering r true false false) less

less_by : (r : Ordering) → match_ordering r true false false ≡ true → r ≡ Less
less_by Less is = refl
less_by Equal is = absurd cc
less_by Greater is = absurd cc

less_of : (a b : List ℕ) → is_below a b ≡ true → cmp a b ≡ Less
less_of a b is = less_by (cmp a b) is

-- behind another name that it is past
behind : (a b : List ℕ) (f : Family) → is_below b f.name ≡ true → IsFamilyBehind a f → IsFamilyBehind b f
behind a b f below is = (and_from (is_family_name f.name) (is_below b f.name) (and_parts (is_family_name f.name) (is_below a f.name) is.0).0 below, is.1)

-- the families behind a name are behind what is below it
lower : (a b : List ℕ) (fs : List Family) → cmp a b ≡ Less → AllFrom name_of IsFamilyBehind b fs → AllFrom name_of IsFamilyBehind a fs
lower a b [] less all = tt
lower a b (g ∷ gs) less all =
    let next = less_of b g.name (and_parts (is_family_name g.name) (is_below b g.name) all.0.0).1 in
    (behind b a g (below_of a g.name (nat_list_cmp_total.trans a b g.name less next)) all.0, all.1)

module _ (f : Family) where
  ascend_by : (before : List ℕ) (g : Family) (gs : List Family) (r : Ordering) → cmp f.name g.name ≡ r → AllFrom name_of IsFamilyBehind before (g ∷ gs) → IsFamilyBehind before f
      → (IsFamilyBehind g.name f → AllFrom name_of IsFamilyBehind g.name (with_family f gs)) → AllFrom name_of IsFamilyBehind before (match_ordering r (f ∷ g ∷ gs) (f ∷ gs) (g ∷ with_family f gs))
  ascend_by before g gs Less is all here rest = (here, (behind before f.name g (below_of f.name g.name is) all.0, all.1))
  ascend_by before g gs Equal is all here rest = (here, subst (λ n. AllFrom name_of IsFamilyBehind n gs) (sym (exact_bytes f.name g.name is)) all.1)
  ascend_by before g gs Greater is all here rest =
      (all.0, rest (behind before g.name f (below_of g.name f.name (nat_list_cmp_total.antisymm g.name f.name ∙ ap ordering_reverse is)) here))

  -- families in order are in order with one more
  put_ascends : (before : List ℕ) (fs : List Family) → AllFrom name_of IsFamilyBehind before fs → IsFamilyBehind before f → AllFrom name_of IsFamilyBehind before (with_family f fs)
  put_ascends before [] all here = (here, tt)
  put_ascends before (g ∷ gs) all here = ascend_by before g gs (cmp f.name g.name) refl all here (put_ascends g.name gs all.1)

  length_by : (g : Family) (gs : List Family) (r : Ordering) → length (with_family f gs) ≤ length gs + 1 → length (match_ordering r (f ∷ g ∷ gs) (f ∷ gs) (g ∷ with_family f gs)) ≤ length (g ∷ gs) + 1
  length_by g gs Less rest = omega arith
  length_by g gs Equal rest = omega arith
  length_by g gs Greater rest = omega (arith, rest)

  length-put : (fs : List Family) → length (with_family f fs) ≤ length fs + 1
  length-put [] = omega arith
  length-put (g ∷ gs) = length_by g gs (cmp f.name g.name) (length-put gs)

  -- no family behind a greater name has this one
  none_behind : (before : List ℕ) (fs : List Family) → AllFrom name_of IsFamilyBehind before fs → cmp f.name before ≡ Less → is_family_of fs f.name ≡ true → ⊥
  none_behind before [] all less some = absurd cc
  none_behind before (g ∷ gs) all less some =
      let next = less_of before g.name (and_parts (is_family_name g.name) (is_below before g.name) all.0.0).1 in
      let past_g = nat_list_cmp_total.trans f.name before g.name less next in
      ⊎_elim (λ same. not_below f.name g.name past_g same) (λ later. none_behind g.name gs all.1 past_g later) (or_cases (bytes_eq g.name f.name) (is_family_of gs f.name) some)

  same_by : (g : Family) (gs : List Family) (r : Ordering) → cmp f.name g.name ≡ r → AllFrom name_of IsFamilyBehind g.name gs → is_family_of (g ∷ gs) f.name ≡ true
      → (is_family_of gs f.name ≡ true → length (with_family f gs) ≡ length gs) → length (match_ordering r (f ∷ g ∷ gs) (f ∷ gs) (g ∷ with_family f gs)) ≡ length (g ∷ gs)
  same_by g gs Less is all some rest = ⊎_elim (λ same. absurd (not_below f.name g.name is same)) (λ later. absurd (none_behind g.name gs all is later)) (or_cases (bytes_eq g.name f.name) (is_family_of gs f.name) some)
  same_by g gs Equal is all some rest = refl
  same_by g gs Greater is all some rest = ⊎_elim (λ same. absurd (not_past is same)) (λ later. ap suc (rest later)) (or_cases (bytes_eq g.name f.name) (is_family_of gs f.name) some)
    where
      not_past : cmp f.name g.name ≡ Greater → bytes_eq g.name f.name ≡ true → ⊥
      not_past is same = let equal : cmp f.name g.name ≡ Equal = rw (same_name g.name f.name same) (tied_itself nat_list_cmp_total f.name) in cc

  -- in place of another there is none more
  length-over : (before : List ℕ) (fs : List Family) → AllFrom name_of IsFamilyBehind before fs → is_family_of fs f.name ≡ true → length (with_family f fs) ≡ length fs
  length-over before [] all some = absurd cc
  length-over before (g ∷ gs) all some = same_by g gs (cmp f.name g.name) refl all.1 some (length-over g.name gs all.1)

module _ (name : List ℕ) where
  without_by : (before : List ℕ) (g : Family) (gs : List Family) (b : Bool) → AllFrom name_of IsFamilyBehind before (g ∷ gs) → AllFrom name_of IsFamilyBehind g.name (without_family name gs)
      → AllFrom name_of IsFamilyBehind before (cond b (g ∷ without_family name gs) (without_family name gs))
  without_by before g gs true all rest = (all.0, rest)
  without_by before g gs false all rest = lower before g.name (without_family name gs) (less_of before g.name (and_parts (is_family_name g.name) (is_below before g.name) all.0.0).1) rest

  -- families in order are in order without one
  without_ascends : (before : List ℕ) (fs : List Family) → AllFrom name_of IsFamilyBehind before fs → AllFrom name_of IsFamilyBehind before (without_family name fs)
  without_ascends before [] all = tt
  without_ascends before (g ∷ gs) all = without_by before g gs (not (bytes_eq g.name name)) all (without_ascends g.name gs all.1)

-- a filter keeps no more than there was
pub length_filtered : {A : Type 0} (p : A → Bool) (xs : List A) → length (filter p xs) ≤ length xs
length_filtered p [] = omega arith
length_filtered p (x ∷ xs) = by (p x) (length_filtered p xs)
  where
    by : (b : Bool) → length (filter p xs) ≤ length xs → length (cond b (x ∷ filter p xs) (filter p xs)) ≤ length (x ∷ xs)
    by true rest = omega (arith, rest)
    by false rest = omega (arith, rest)

-- ---- refusals

-- a rule that is refused isn't lawful
pub unlawful : (lawful : Bool) (why e : Refusal) → refused_if (not lawful) why ≡ Some e → (lawful ≡ false) × (why ≡ e)
unlawful true why e is = absurd cc
unlawful false why e is = (refl, cc)

-- ---- a change that isn't refused

record IsCreated (name : Bool) (there : Bool) (rule : Bool) (full : Bool) (fs gs : List Family) : Type 0 where
  named : name ≡ true
  new : there ≡ false
  lawful : rule ≡ true
  room : full ≡ false
  made : fs ≡ gs

abbrev ok : List Family → Result (List Family) Refusal
ok fs = Ok fs

created : (name there rule full : Bool) (fs gs : List Family)
    → cond (not name) (Err refusal.BadFamilyName) (cond there (Err refusal.FamilyExists) (cond (not rule) (Err refusal.BadGcRule) (cond full (Err refusal.TooManyFamilies) (Ok fs)))) ≡ ok gs → IsCreated name there rule full fs gs
created false there rule full fs gs is = absurd cc
created true true rule full fs gs is = absurd cc
created true false false full fs gs is = absurd cc
created true false true true fs gs is = absurd cc
created true false true false fs gs is = record { named = refl; new = refl; lawful = refl; room = refl; made = cc }

record IsUpdated (name : Bool) (there : Bool) (rule : Bool) (fs gs : List Family) : Type 0 where
  named : name ≡ true
  found : there ≡ true
  lawful : rule ≡ true
  made : fs ≡ gs

updated : (name there rule : Bool) (fs gs : List Family) → cond (not name) (Err refusal.BadFamilyName) (cond (not there) (Err refusal.FamilyNotFound) (cond (not rule) (Err refusal.BadGcRule) (Ok fs))) ≡ ok gs → IsUpdated name there rule fs gs
updated false there rule fs gs is = absurd cc
updated true false rule fs gs is = absurd cc
updated true true false fs gs is = absurd cc
updated true true true fs gs is = record { named = refl; found = refl; lawful = refl; made = cc }

left : (name there : Bool) (fs gs : List Family) → cond (not name) (Err refusal.BadFamilyName) (cond (not there) (Err refusal.FamilyNotFound) (Ok fs)) ≡ ok gs → fs ≡ gs
left false there fs gs is = absurd cc
left true false fs gs is = absurd cc
left true true fs gs is = cc

behind_nothing : (f : Family) → is_family_name f.name ≡ true → is_lawful_or_none f.rule ≡ true → IsFamilyBehind [] f
behind_nothing f named lawful = (and_from (is_family_name f.name) (is_below [] f.name) named (below_of [] f.name (above_nothing f.name named)), lawful)

-- families that can be written still can be after a change
spellable_after : (name : List ℕ) (c : FamilyChange) (fs gs : List Family) → after_change name c fs ≡ Ok gs → AreSpellableFamilies fs → AreSpellableFamilies gs
spellable_after name Missing fs gs is all = absurd cc
spellable_after name (Create rule) fs gs is all =
    let f = family name rule in
    let c = created (is_family_name name) (is_family_of fs name) (is_lawful_or_none rule) (nat_le most_families (length fs)) (with_family f fs) gs is in
    let few : length fs < most_families = leb-false most_families (length fs) c.room in
    subst AreSpellableFamilies c.made (omega (arith, few, length-put f fs), put_ascends f [] fs all.1 (behind_nothing f c.named c.lawful))
spellable_after name (Update rule) fs gs is all =
    let f = family name rule in
    let c = updated (is_family_name name) (is_family_of fs name) (is_lawful_or_none rule) (with_family f fs) gs is in
    subst AreSpellableFamilies c.made (omega (arith, all.0, length-over f [] fs all.1 c.found), put_ascends f [] fs all.1 (behind_nothing f c.named c.lawful))
spellable_after name (Drop false) fs gs is all = absurd cc
spellable_after name (Drop true) fs gs is all =
    subst AreSpellableFamilies (left (is_family_name name) (is_family_of fs name) (without_family name fs) gs is) (omega (arith, all.0, length_filtered (λ f. not (bytes_eq f.name name)) fs), without_ascends name [] fs all.1)

-- ---- families that stay

module _ (name : List ℕ) where
  module _ (f : Family) where
    kept_by : (g : Family) (gs : List Family) (r : Ordering) → cmp f.name g.name ≡ r → is_family_of (g ∷ gs) name ≡ true → (is_family_of gs name ≡ true → is_family_of (with_family f gs) name ≡ true)
        → is_family_of (match_ordering r (f ∷ g ∷ gs) (f ∷ gs) (g ∷ with_family f gs)) name ≡ true
    kept_by g gs Less is some rest = or_right (bytes_eq f.name name) (is_family_of (g ∷ gs) name) some
    kept_by g gs Equal is some rest = subst (λ n. (bytes_eq n name || is_family_of gs name) ≡ true) (sym (exact_bytes f.name g.name is)) some
    kept_by g gs Greater is some rest = ⊎_elim (λ same. or_left (bytes_eq g.name name) (is_family_of (with_family f gs) name) same) (λ later. or_right (bytes_eq g.name name) (is_family_of (with_family f gs) name) (rest later)) (or_cases (bytes_eq g.name name) (is_family_of gs name) some)

    kept_with : (fs : List Family) → is_family_of fs name ≡ true → is_family_of (with_family f fs) name ≡ true
    kept_with [] some = absurd cc
    kept_with (g ∷ gs) some = kept_by g gs (cmp f.name g.name) refl some (kept_with gs)

  module _ (other : List ℕ) (apart : bytes_eq other name ≡ false) where
    still_by : (g : Family) (gs : List Family) (b : Bool) → bytes_eq g.name other ≡ b → is_family_of (g ∷ gs) name ≡ true → (is_family_of gs name ≡ true → is_family_of (without_family other gs) name ≡ true)
        → is_family_of (cond (not b) (g ∷ without_family other gs) (without_family other gs)) name ≡ true
    still_by g gs true is some rest = ⊎_elim (λ same. absurd (not_both is same)) (λ later. rest later) (or_cases (bytes_eq g.name name) (is_family_of gs name) some)
      where
        not_both : bytes_eq g.name other ≡ true → bytes_eq g.name name ≡ true → ⊥
        not_both is same = let named : bytes_eq other name ≡ true = rw (← same_name g.name other is) same in cc
    still_by g gs false is some rest = ⊎_elim (λ same. or_left (bytes_eq g.name name) (is_family_of (without_family other gs) name) same) (λ later. or_right (bytes_eq g.name name) (is_family_of (without_family other gs) name) (rest later)) (or_cases (bytes_eq g.name name) (is_family_of gs name) some)

    kept_without : (fs : List Family) → is_family_of fs name ≡ true → is_family_of (without_family other fs) name ≡ true
    kept_without [] some = absurd cc
    kept_without (g ∷ gs) some = still_by g gs (bytes_eq g.name other) refl some (kept_without gs)

  -- a family that the change doesn't drop stays
  kept_after : (id : List ℕ) (c : FamilyChange) (fs gs : List Family) → after_change id c fs ≡ Ok gs → (is_drop c && bytes_eq id name) ≡ false → is_family_of fs name ≡ true → is_family_of gs name ≡ true
  kept_after id Missing fs gs is stays some = absurd cc
  kept_after id (Create rule) fs gs is stays some =
      let c = created (is_family_name id) (is_family_of fs id) (is_lawful_or_none rule) (nat_le most_families (length fs)) (with_family (family id rule) fs) gs is in
      subst (λ hs. is_family_of hs name ≡ true) c.made (kept_with (family id rule) fs some)
  kept_after id (Update rule) fs gs is stays some =
      let c = updated (is_family_name id) (is_family_of fs id) (is_lawful_or_none rule) (with_family (family id rule) fs) gs is in
      subst (λ hs. is_family_of hs name ≡ true) c.made (kept_with (family id rule) fs some)
  kept_after id (Drop false) fs gs is stays some = absurd cc
  kept_after id (Drop true) fs gs is stays some =
      subst (λ hs. is_family_of hs name ≡ true) (left (is_family_name id) (is_family_of fs id) (without_family id fs) gs is) (kept_without id stays fs some)

-- ---- all changes

record IsStep (ms : List Modification) (r : Result (List Family) Refusal) (gs : List Family) : Type 0 where
  families : List Family
  first : r ≡ Ok families
  others : after_changes ms families ≡ Ok gs

step_of : (ms : List Modification) (r : Result (List Family) Refusal) (gs : List Family) → and_then (after_changes ms) r ≡ Ok gs → IsStep ms r gs
step_of ms (Err why) gs is = absurd cc
step_of ms (Ok families) gs is = record { families = families; first = refl; others = is }

-- families that can be written still can be after changes
pub all_spellable : (ms : List Modification) (fs gs : List Family) → after_changes ms fs ≡ Ok gs → AreSpellableFamilies fs → AreSpellableFamilies gs
all_spellable [] fs gs is all = subst AreSpellableFamilies (cc) all
all_spellable (m ∷ ms) fs gs is all =
    let s = step_of ms (after_change m.id m.change fs) gs is in
    all_spellable ms s.families gs s.others (spellable_after m.id m.change fs s.families s.first all)

-- a family that none of them drops stays
pub all_kept : (name : List ℕ) (ms : List Modification) (fs gs : List Family) → after_changes ms fs ≡ Ok gs → list_any (λ m. is_drop m.change && bytes_eq m.id name) ms ≡ false → is_family_of fs name ≡ true → is_family_of gs name ≡ true
all_kept name [] fs gs is stays some = subst (λ hs. is_family_of hs name ≡ true) (cc) some
all_kept name (m ∷ ms) fs gs is stays some =
    let s = step_of ms (after_change m.id m.change fs) gs is in
    let both = or_parts (is_drop m.change && bytes_eq m.id name) (list_any (λ m. is_drop m.change && bytes_eq m.id name) ms) stays in
    all_kept name ms s.families gs s.others both.1 (kept_after name m.id m.change fs s.families s.first both.0 some)

-- the families are lawful, each by itself
pub lawful_of : (before : List ℕ) (fs : List Family) → AllFrom name_of IsFamilyBehind before fs → list_all (λ f. is_lawful_or_none f.rule) fs ≡ true
lawful_of before [] all = refl
lawful_of before (f ∷ fs) all = and_from (is_lawful_or_none f.rule) (list_all (λ f. is_lawful_or_none f.rule) fs) all.0.1 (lawful_of f.name fs all.1)

pub named_of : (before : List ℕ) (fs : List Family) → AllFrom name_of IsFamilyBehind before fs → AllByRecursion (λ f. is_family_name f.name ≡ true) fs
named_of before [] all = tt
named_of before (f ∷ fs) all = ((and_parts (is_family_name f.name) (is_below before f.name) all.0.0).0, named_of f.name fs all.1)
