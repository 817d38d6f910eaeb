-- An object of one entry, which has only the members that the entry's key names.
use Rattle.std.proofs.Common.{◌≡◌, ℕ, Bool, true, false, List, [], ◌∷◌, Some, None, cond, length, refl, sym, ap, ◌∙◌, arith}
use Rattle.std.specs.Prelude.{◌&&◌, ◌||◌, ◌==◌, not, bytes_eq, slice_get}
use Rattle.std.specs.Ordering.{is_eq, nat_cmp, match_ordering}
use Rattle.std.specs.declared.cmp.Ordering.{Ordering}
use Rattle.std.specs.declared.cmp.Ordering.TheVariants.{Less, Equal, Greater}
use Rattle.std.specs.Cmp.Lexicographic.{slice_cmp}
use Rattle.std.proofs.lemmas.Map.Text.{is_eq-slice_cmp}
use Rattle.std.proofs.lemmas.Bool.{ne_eqb, eq-eqb}
use Rattle.std.proofs.lemmas.Cmp.{nat_list_eq_equiv}
use Rattle.serde_json.specs.Data.{Data, object}
use Rattle.serde_json.specs.Find.{get}
use Rattle.bt_json.specs.View.{view, members_view}
use Rattle.bt_json.proofs.Views.{Entry}
use Rattle.bt_walk.specs.Alone.{alone}
use Rattle.bt_walk.specs.Members.{is_absent, is_there, is_plain, is_renamed, is_set, has_choice, is_too_many}
use Rattle.bt_walk.specs.Shapes.{Field, is_named}
use Rattle.bt_walk.specs.declared.shape.Support.{Support}

pub only : (es : List Entry) (e : Entry) → length es ≡ 1 → slice_get es 0 ≡ Some e → object (members_view es) ≡ alone e.0.now (view e.1)
only [] e one first = cc one
only (x ∷ []) e one first = by (cc first)
  where
    by : x ≡ e → object (members_view (x ∷ [])) ≡ alone e.0.now (view e.1)
    by same = ap (λ y. alone y.0.now (view y.1)) same
only (x ∷ y ∷ es) e one first = absurd (omega (arith, one))

at_order : (d : Data) (o : Ordering) → match_ordering o None (Some d) None ≡ cond (is_eq o) (Some d) None
at_order d Less = refl
at_order d Equal = refl
at_order d Greater = refl

get_alone : (n k : List ℕ) (d : Data) → get n (alone k d) ≡ cond (bytes_eq n k) (Some d) None
get_alone n k d = at_order d (slice_cmp nat_cmp n k) ∙ ap (λ b. cond b (Some d) None) (is_eq-slice_cmp n k)

there_alone : (u : Support) (n k : List ℕ) (d : Data) → is_there u (get n (alone k d)) ≡ (bytes_eq n k && not (is_absent u d))
there_alone u n k d = ap (is_there u) (get_alone n k d) ∙ by (bytes_eq n k)
  where
    by : (b : Bool) → is_there u (cond b (Some d) None) ≡ (b && not (is_absent u d))
    by true = refl
    by false = refl

-- names that are both the key are the same
same_names : (o n k : List ℕ) → bytes_eq n k ≡ true → bytes_eq o k ≡ true → bytes_eq o n ≡ true
same_names o n k plain renamed = nat_list_eq_equiv.congr o k n renamed ∙ nat_list_eq_equiv.symm k n ∙ plain

-- a name that is another is the key where the other is
alike_at : (o n k : List ℕ) → bytes_eq o n ≡ true → bytes_eq n k ≡ bytes_eq o k
alike_at o n k same = sym (nat_list_eq_equiv.congr o n k same)

either : (a b s t : Bool) → (s ≡ true → a ≡ b) → ((a || b) && t) ≡ ((a && t) || (not s && (b && t)))
either true b s true alike = refl
either true true true false alike = refl
either true true false false alike = refl
either true false true false alike = refl
either true false false false alike = refl
either false true true t alike = cc (alike refl)
either false true false t alike = refl
either false false true t alike = refl
either false false false t alike = refl

never_both : (a b s t : Bool) → (a ≡ true → b ≡ true → s ≡ true) → ((a && t) && (not s && (b && t))) ≡ false
never_both true true true true same = refl
never_both true true false true same = cc (same refl refl)
never_both true true s false same = refl
never_both true false true true same = refl
never_both true false false true same = refl
never_both true false s false same = refl
never_both false b s t same = refl

set_alone : (k : List ℕ) (d : Data) (f : Field) → (is_named k f && not (is_absent f.support d)) ≡ is_set (alone k d) f
set_alone k d f =
    rw (there_alone f.support f.name k d, there_alone f.support f.original k d)
    (either (bytes_eq f.name k) (bytes_eq f.original k) (bytes_eq f.original f.name) (not (is_absent f.support d)) (alike_at f.original f.name k))

pub set_if_named : (k : List ℕ) (d : Data) (f : Field) → is_named k f ≡ true → not (is_absent f.support d) ≡ is_set (alone k d) f
set_if_named k d f named = ap (λ b. b && not (is_absent f.support d)) (sym named) ∙ set_alone k d f

pub unset_if_not : (k : List ℕ) (d : Data) (f : Field) → is_named k f ≡ false → false ≡ is_set (alone k d) f
unset_if_not k d f other = ap (λ b. b && not (is_absent f.support d)) (sym other) ∙ set_alone k d f

not_twice : (k : List ℕ) (d : Data) (f : Field) → (is_plain (alone k d) f && is_renamed (alone k d) f) ≡ false
not_twice k d f =
    rw (there_alone f.support f.name k d, there_alone f.support f.original k d)
    (never_both (bytes_eq f.name k) (bytes_eq f.original k) (bytes_eq f.original f.name) (not (is_absent f.support d)) (same_names f.original f.name k))

too_many_alone : (k : List ℕ) (d : Data) (fs : List Field) (f : Field) → (not (f.choice == 0) && has_choice (alone k d) f.choice f.name fs) ≡ is_too_many (alone k d) fs f
too_many_alone k d fs f = ap (λ b. b || (not (f.choice == 0) && has_choice (alone k d) f.choice f.name fs)) (sym (not_twice k d f))

pub too_many_by_choice : (k : List ℕ) (d whole : Data) (fs : List Field) (f : Field) → whole ≡ alone k d → (f.choice ≡ 0 → ⊥) → has_choice (alone k d) f.choice f.name fs ≡ is_too_many whole fs f
too_many_by_choice k d whole fs f is one = ap (λ b. not b && has_choice (alone k d) f.choice f.name fs) (sym (ne_eqb f.choice 0 one)) ∙ too_many_alone k d fs f ∙ ap (λ w. is_too_many w fs f) (sym is)

pub never_too_many : (k : List ℕ) (d whole : Data) (fs : List Field) (f : Field) → whole ≡ alone k d → f.choice ≡ 0 → false ≡ is_too_many whole fs f
never_too_many k d whole fs f is none = ap (λ b. not b && has_choice (alone k d) f.choice f.name fs) (sym (eq-eqb f.choice 0 none)) ∙ too_many_alone k d fs f ∙ ap (λ w. is_too_many w fs f) (sym is)
