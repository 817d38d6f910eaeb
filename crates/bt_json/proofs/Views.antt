-- A value by its levels, and the entries of an object as its members.
use Rattle.std.proofs.Common.{◌≡◌, ℕ, suc, ◌+◌, ◌<◌, List, [], ◌∷◌, drop, length, slice_index_or, Bool, Option, Some, Vec, Global, Ordering, Less, Equal, Greater, nat_cmp, is_eq, cond, Bor, refl, sym, ap, ◌∙◌, rules, arith}
use Rattle.std.proofs.Math.Seq.{drop-cons}
use Rattle.std.proofs.lemmas.Map.Text.{is_eq-slice_cmp}
use Rattle.std.specs.Str.{bytes_eq}
use Rattle.std.specs.Cmp.Lexicographic.{slice_cmp}
use Rattle.std.specs.Ordering.{match_ordering}
use Rattle.std.specs.BTreeMap.{insert_entry}
use Rattle.serde_json.specs.Data.{Data, array, object, put}
use Rattle.serde_json.specs.Events.{members_len}
use Rattle.serde_json.specs.Find.{get_member}
use Rattle.bt_json.specs.Names.{name_cmp}
use Rattle.bt_json.specs.View.{view, items_view, members_view}
use Rattle.bt_json.specs.declared.value.Value.{Value, Array, Object, the_lemmas}

abbrev pub Name : Type 0
Name = Bor (List ℕ)

abbrev pub Entry : Type 0
Entry = Name × Value

pub view-Array : (v : Vec Value Global) → view (Array v) ≡ array (items_view v.items)
view-Array v = search (rules, the_lemmas)

pub view-Object : (m : Vec Entry Global) → view (Object m) ≡ object (members_view m.items)
view-Object m = search (rules, the_lemmas)

cases_seen : (o : Ordering) (a b c : List Entry) → members_view (match_ordering o a b c) ≡ match_ordering o (members_view a) (members_view b) (members_view c)
cases_seen Less a b c = refl
cases_seen Equal a b c = refl
cases_seen Greater a b c = refl

-- an entry that goes in is a member that is put
pub inserted : (es : List Entry) (k : Name) (v : Value) → members_view (insert_entry name_cmp es k v) ≡ put k.now (view v) (members_view es)
inserted [] k v = refl
inserted (e ∷ es) k v = cases_seen (name_cmp k e.0) _ _ _ ∙ rw (inserted es k v)

-- the member at hand is the one that is sought, or it is not
module _ (name : List ℕ) (es : List Entry) (i : ℕ) (x : Entry) (there : i < length es) (is : x ≡ slice_index_or es i x) where
  one_ahead : drop i es ≡ x ∷ drop (i + 1) es
  one_ahead =
      let next : suc i ≡ i + 1 = omega arith in
      drop-cons es i x there ∙ ap (λ j. slice_index_or es i x ∷ drop j es) next ∙ ap (λ y. y ∷ drop (i + 1) es) (sym is)

  by_order : (o : Ordering) (b : Bool) (d later : Option Data) → is_eq o ≡ b → match_ordering o later d later ≡ cond b d later
  by_order Less b d later h = ap (λ c. cond c d later) h
  by_order Equal b d later h = ap (λ c. cond c d later) h
  by_order Greater b d later h = ap (λ c. cond c d later) h

  pub member_at : (b : Bool) → bytes_eq name x.0.now ≡ b → get_member name (members_view (drop i es)) ≡ cond b (Some (view x.1)) (get_member name (members_view (drop (i + 1) es)))
  member_at b h = ap (λ l. get_member name (members_view l)) one_ahead ∙ by_order (slice_cmp nat_cmp name x.0.now) b _ _ (is_eq-slice_cmp name x.0.now ∙ h)

pub members_len-members_view : (es : List Entry) → members_len (members_view es) ≡ length es
members_len-members_view [] = refl
members_len-members_view (e ∷ es) = ap suc (members_len-members_view es)
