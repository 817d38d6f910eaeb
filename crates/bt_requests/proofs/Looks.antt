-- Looking into a value by its code and by its definition.
use Rattle.std.proofs.Common.{◌≡◌, ℕ, List, [], ◌∷◌, length, Some, None, Bool, true, false, if◌then◌else◌, is_eq, nat_cmp, Ordering, Less, Equal, Greater, refl, sym, ap, ◌∙◌, arith}
use Rattle.std.specs.Cmp.Lexicographic.{slice_cmp}
use Rattle.std.specs.Ordering.{match_ordering}
use Rattle.std.proofs.lemmas.Map.Text.{is_eq-slice_cmp}
use Rattle.std.specs.Str.{IsUtf8, bytes_eq, is_utf8}
use Rattle.std.proofs.lemmas.Str.{IsUtf8-from_is_utf8, is_utf8-from_IsUtf8}
use Rattle.serde_json.specs.Data.{Data}
use Rattle.serde_json.specs.Find.{as_object, get_member}
use Rattle.bt_json.specs.View.{members_view, view}
use Rattle.bt_json.proofs.Views.{Entry, members_len-members_view}
use Rattle.bt_requests.specs.Envelopes.{member_count, text_of}

pub count_members : (d : Data) (es : List Entry) (n : ℕ) → Some (members_view es) ≡ as_object d → n ≡ length es → Some n ≡ member_count d
count_members d es n e l = rw (← e) (ap Some (l ∙ sym (members_len-members_view es)))

pub is_text : (bs : List ℕ) → IsUtf8 bs → text_of bs ≡ Some bs
is_text bs h = rw (is_utf8-from_IsUtf8 bs h) refl

fails : (bs : List ℕ) (b : Bool) → is_utf8 bs ≡ b → ¬ IsUtf8 bs → b ≡ false
fails bs true e absent = absurd (absent (IsUtf8-from_is_utf8 bs e))
fails bs false e absent = refl

pub is_no_text : (bs : List ℕ) → ¬ IsUtf8 bs → text_of bs ≡ None
is_no_text bs absent = rw (fails bs (is_utf8 bs) refl absent) refl

-- what a list begins with is the member that is sought, or it is not
pub member_first : (name : List ℕ) (es rest : List Entry) (x : Entry) (b : Bool) → es ≡ x ∷ rest → bytes_eq name x.0.now ≡ b
    → get_member name (members_view es) ≡ (if b then Some (view x.1) else get_member name (members_view rest))
member_first name es rest x b is h = ap (λ l. get_member name (members_view l)) is ∙ by (slice_cmp nat_cmp name x.0.now) (is_eq-slice_cmp name x.0.now ∙ h)
  where
    by : (o : Ordering) → is_eq o ≡ b → match_ordering o (get_member name (members_view rest)) (Some (view x.1)) (get_member name (members_view rest)) ≡ (if b then Some (view x.1) else get_member name (members_view rest))
    by Less e = ap (λ c. if c then Some (view x.1) else get_member name (members_view rest)) e
    by Equal e = ap (λ c. if c then Some (view x.1) else get_member name (members_view rest)) e
    by Greater e = ap (λ c. if c then Some (view x.1) else get_member name (members_view rest)) e

pub none_left : (name : List ℕ) (es : List Entry) → length es ≡ 0 → None ≡ get_member name (members_view es)
none_left name [] e = refl
none_left name (x ∷ es) e = absurd (omega (arith, e))
