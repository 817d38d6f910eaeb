-- Tables that are made.
use Rattle.std.proofs.Common.{◌≡◌, ◌≤◌, ℕ, Bool, true, false, List, [], ◌∷◌, length, map, Option, Some, None, refl, ap, cond}
use Rattle.std.specs.Prelude.{ℤ, pos, negsuc, not, nat_le, nat_lt, ◌||◌, ◌==◌}
use Rattle.std.specs.List.{AllByRecursion, list_all}
use Rattle.std.specs.List.Sorted.{IsStrictlySortedBy}
use Rattle.std.specs.Option.{option_or}
use Rattle.std.specs.Ordering.{match_ordering, nat_cmp}
use Rattle.std.specs.declared.cmp.Ordering.TheVariants.{Less}
use Rattle.std.specs.Cmp.Lexicographic.{slice_cmp}
use Rattle.std.proofs.lemmas.Bool.{and_from, ltb-false}
use Rattle.std.proofs.lemmas.List.{length-map}
use Rattle.bt_types.specs.Grammar.{is_family_name, is_table_name}
use Rattle.bt_codec.specs.Lists.{AllFrom}
use Rattle.bt_entry.specs.Grammar.{IsFamilyBehind, is_below, is_lawful_retention, is_retention, last_moment, most_families, name_of}
use Rattle.bt_entry.specs.declared.entry.Entry.TheVariants.{Create}
use Rattle.bt_messages.specs.declared.refusal.Refusal.{Refusal}
use Rattle.bt_messages.specs.declared.refusal.Refusal.TheVariants.{BadFamilyName, BadGcRule}
use Rattle.bt_plans.specs.Replies.{event, refused_if}
use Rattle.bt_table_replies.specs.Tables.{create_refusal, families_of, family_refusal, first_bad_family, retention_refusal, retention_used}
use Rattle.bt_requests.specs.Readers.{Ascend}
use Rattle.bt_requests.specs.declared.families.AskedFamily.{AskedFamily}
use Rattle.bt_rules.specs.Rules.{is_lawful_or_none}
use Rattle.bt_schema.specs.Schema.{most_tables, table_of}
use Rattle.bt_state.specs.State.{IsLawful, Present}

abbrev no_refusal : Option Refusal
no_refusal = None

-- neither of two refusals is there
both_none : (a b : Option Refusal) → option_or a b ≡ no_refusal → (a ≡ no_refusal) × (b ≡ no_refusal)
both_none None b none = (refl, none)
both_none (Some e) b none = absurd cc

not_refused : (b : Bool) (why : Refusal) → refused_if b why ≡ no_refusal → b ≡ false
not_refused true why none = absurd cc
not_refused false why none = refl

both_pass : (a b : Bool) → cond (not a) (Some BadFamilyName) (cond (not b) (Some BadGcRule) None) ≡ no_refusal → (a ≡ true) × (b ≡ true)
both_pass true true none = (refl, refl)
both_pass true false none = absurd cc
both_pass false b none = absurd cc

-- a family without a fault
faultless : (f : AskedFamily) → family_refusal f ≡ no_refusal → (is_family_name f.name ≡ true) × (is_lawful_or_none f.rule ≡ true)
faultless f none = both_pass (is_family_name f.name) (is_lawful_or_none f.rule) none

-- the name, if there is a first one, is above these bytes
abbrev IsAbove : List ℕ → List AskedFamily → Type 0
IsAbove before [] = Unit {0}
IsAbove before (f ∷ fs) = slice_cmp nat_cmp before f.name ≡ Less

first_above : (n : List ℕ) (fs : List AskedFamily) → AllByRecursion (λ y. slice_cmp nat_cmp n y ≡ Less) (map (λ f. f.name) fs) → IsAbove n fs
first_above n [] all = tt
first_above n (f ∷ fs) all = all.0

-- families without faults that ascend, behind these bytes
ascend : (before : List ℕ) (fs : List AskedFamily) → first_bad_family fs ≡ no_refusal → Ascend fs → IsAbove before fs → AllFrom name_of IsFamilyBehind before (families_of fs)
unfolding IsStrictlySortedBy
ascend before [] none sorted above = tt
ascend before (f ∷ fs) none sorted above =
    let both = both_none (family_refusal f) (first_bad_family fs) none in
    let first = faultless f both.0 in
    let below : is_below before f.name ≡ true = ap (λ r. match_ordering r true false false) above in
    ((and_from (is_family_name f.name) (is_below before f.name) first.0 below, first.1), ascend f.name fs both.1 sorted.1 (first_above f.name fs sorted.0))

pub above_nothing : (name : List ℕ) → is_family_name name ≡ true → slice_cmp nat_cmp [] name ≡ Less
above_nothing [] lawful = absurd cc
above_nothing (b ∷ bs) lawful = refl

all_above : (fs : List AskedFamily) → first_bad_family fs ≡ no_refusal → IsAbove [] fs
all_above [] none = tt
all_above (f ∷ fs) none = above_nothing f.name (faultless f (both_none (family_refusal f) (first_bad_family fs) none).0).0

lawful_rules : (fs : List AskedFamily) → first_bad_family fs ≡ no_refusal → list_all (λ f. is_lawful_or_none f.rule) (families_of fs) ≡ true
lawful_rules [] none = refl
lawful_rules (f ∷ fs) none =
    let both = both_none (family_refusal f) (first_bad_family fs) none in
    and_from (is_lawful_or_none f.rule) (list_all (λ f. is_lawful_or_none f.rule) (families_of fs)) (faultless f both.0).1 (lawful_rules fs both.1)

or_true : (a b : Bool) → b ≡ true → (a || b) ≡ true
or_true true b is = refl
or_true false b is = is

passes : (b : Bool) (why : Refusal) → cond b None (Some why) ≡ no_refusal → b ≡ true
passes true why none = refl
passes false why none = absurd cc

-- a retention that is not refused can be used
lawful_used : (retention : Option ℤ) → retention_refusal retention ≡ no_refusal → is_retention (retention_used retention) ≡ true
lawful_used None none = refl
lawful_used (Some (pos n)) none = or_true (n == 0) (is_lawful_retention n) (passes (is_lawful_retention n) _ none)
lawful_used (Some (negsuc n)) none = absurd cc

-- a table that is not refused may be made
pub may_create : (p : Present) (m : ℕ) (name : List ℕ) (asked : List AskedFamily) (retention : Option ℤ) → create_refusal p asked retention ≡ None → table_of name p.schema ≡ None → Ascend asked → is_table_name name ≡ true → p.floor ≤ m → m ≤ last_moment
    → IsLawful p (event m (Create name (families_of asked) (retention_used retention)))
may_create p m name asked retention none absent sorted named not_before not_past =
    let families = both_none (first_bad_family asked) _ none in
    let number = both_none (refused_if (nat_lt most_families (length asked)) _) _ families.1 in
    let kept = both_none (retention_refusal retention) (refused_if (nat_le most_tables (length p.schema)) _) number.1 in
    let as_many : length (families_of asked) ≡ length asked = length-map asked _ in
    let few : nat_lt most_families (length (families_of asked)) ≡ false = rw as_many (not_refused (nat_lt most_families (length asked)) _ number.0) in
    let room : nat_le most_tables (length p.schema) ≡ false = not_refused (nat_le most_tables (length p.schema)) _ kept.1 in
    record {
      spellable = (named, (ltb-false most_families (length (families_of asked)) few, ascend [] asked families.0 sorted (all_above asked families.0)), lawful_used retention kept.0);
      not_past = not_past;
      not_before = not_before;
      allowed = rw (absent, lawful_rules asked families.0, few, room) refl;
    }
