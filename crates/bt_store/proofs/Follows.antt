-- The state that entries lead to.
use Rattle.std.proofs.Common.{◌≡◌, ◌≤◌, ◌+◌, Bool, true, false, cond, List, [], ◌∷◌, ◌++◌, length, Option, None, Some, refl, sym, ◌∙◌, ap, subst, arith}
use Rattle.std.specs.List.{AllByRecursion}
use Rattle.std.proofs.lemmas.Bool.{and_from, le-leb}
use Rattle.bt_entry.specs.declared.numbered.Numbered.{Numbered}
use Rattle.bt_entry.specs.Grammar.{IsSpellableNumbered, last_moment}
use Rattle.bt_state.specs.State.{State, Present, Event, IsLawful, AreLawful, after, after_record, event_of, events_of, present_after, presents_after}
use Rattle.bt_store.specs.Held.{may_come, follow}

abbrev found : State → Option State
found s = Some s

some_is : (s t : State) → found s ≡ found t → s ≡ t
some_is s t e = cc

-- a step that led to a state was allowed
taken : (b : Bool) (o : Option State) (t : State) → cond b o None ≡ found t → (b ≡ true) × (o ≡ found t)
taken true o t e = (refl, e)
taken false o t e = absurd cc

-- a lawful event may come
pub lawful_may : (p : Present) (e : Event) → IsLawful p e → may_come p e ≡ true
lawful_may p e is = and_from _ _ (le-leb p.floor e.moment is.not_before) is.allowed

-- lawful entries are followed
follow_lawful : (s : State) (ms : List Numbered) → AreLawful s.present (events_of ms) → follow s ms ≡ found (after_record s (events_of ms))
follow_lawful s [] lawful = refl
follow_lawful s (m ∷ ms) lawful =
    ap (λ (b : Bool). cond b (follow (after s (event_of m)) ms) None) (lawful_may s.present (event_of m) lawful.0)
    ∙ follow_lawful (after s (event_of m)) ms lawful.1

-- lawful entries behind others
pub follow_more : (s : State) (ns ms : List Numbered) (t : State) → follow s ns ≡ found t → AreLawful t.present (events_of ms) → follow s (ns ++ ms) ≡ found (after_record t (events_of ms))
follow_more s [] ms t leads lawful = subst (λ (u : State). follow u ms ≡ found (after_record t (events_of ms))) (sym (some_is s t leads)) (follow_lawful t ms lawful)
follow_more s (n ∷ ns) ms t leads lawful =
    let p = taken (may_come s.present (event_of n)) (follow (after s (event_of n)) ns) t leads in
    ap (λ (b : Bool). cond b (follow (after s (event_of n)) (ns ++ ms)) None) p.0 ∙ follow_more (after s (event_of n)) ns ms t p.1 lawful

-- sequences count the entries
pub last_counts : (s : State) (ns : List Numbered) (t : State) → follow s ns ≡ found t → t.present.last ≡ s.present.last + length ns
last_counts s [] t leads = omega (arith, ap (λ (u : State). u.present.last) (some_is s t leads))
last_counts s (m ∷ ms) t leads =
    let p = taken (may_come s.present (event_of m)) (follow (after s (event_of m)) ms) t leads in
    omega (arith, last_counts (after s (event_of m)) ms t p.1)

-- the present behind a record is that of the state behind it
pub present_same : (s : State) (es : List Event) → (after_record s es).present ≡ presents_after s.present es
present_same s [] = refl
present_same s (e ∷ es) = present_same (after s e) es

-- lawful entries can each be spelled
pub spellable_all : (p : Present) (ns : List Numbered) → AreLawful p (events_of ns) → AllByRecursion IsSpellableNumbered ns
spellable_all p [] lawful = tt
spellable_all p (n ∷ ns) lawful = ((lawful.0.not_past, lawful.0.spellable), spellable_all (present_after p (event_of n)) ns lawful.1)

-- no moment of theirs is past the last
pub floor_within : (p : Present) (es : List Event) → p.floor ≤ last_moment → AreLawful p es → (presents_after p es).floor ≤ last_moment
floor_within p [] within lawful = within
floor_within p (e ∷ es) within lawful = floor_within (present_after p e) es lawful.0.not_past lawful.1

-- the same of a present that is known by another name
pub floor_next : (p q next : Present) (es : List Event) → p ≡ q → p.floor ≤ last_moment → AreLawful q es → next ≡ presents_after p es → next.floor ≤ last_moment
floor_next p q next es same within lawful is =
    subst (λ (n : Present). n.floor ≤ last_moment) (sym is) (floor_within p es within (subst (λ (r : Present). AreLawful r es) (sym same) lawful))
