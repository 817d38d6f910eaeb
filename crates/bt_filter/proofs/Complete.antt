-- Where texts are surely read, the first cause against a filter is told.
use Rattle.std.proofs.Common.{◌≡◌, ℕ, ◌+◌, ◌≤◌, zero, suc, List, [], ◌∷◌, take, Option, Some, None, Result, Ok, Err, arith, refl, sym, ap, ◌∙◌, inl, inr}
use Rattle.std.specs.Prelude.{◌⊎◌, IfSome}
use Rattle.std.specs.List.{AllByRecursion}
use Rattle.std.specs.Result.{IsErrAnd}
use Rattle.bt_pattern.specs.Patterns.{IsBad, MayBeLarge}
use Rattle.bt_filter.specs.declared.asked.AskedFilter.{AskedFilter}
use Rattle.bt_filter.specs.declared.refusal.Flaw.{Flaw}
use Rattle.bt_filter.specs.declared.refusal.FilterRefusal.{FilterRefusal}
use Rattle.bt_filter.specs.declared.refusal.FilterRefusal.TheVariants.{BadFilter, OutOfMemory}
use Rattle.bt_filter.specs.declared.refusal.Why.{Why}
use Rattle.bt_filter.specs.declared.refusal.Why.TheVariants as cause
use Rattle.bt_filter.specs.Flaws.{Check, Fine, Reads, Wrong, IsFine, IsFirst, IsTextCause, IsSurelyRead, IsFlawOrMemory, IsOutcome, extent_of, extent_flaw, node_list, first_wrong, whole_or, first_flaw}

none_wrong : (cs : List Check) (n : ℕ) → AllByRecursion IsFine cs → first_wrong n cs ≡ None
none_wrong [] n h = refl
none_wrong (Fine ∷ cs) n h = none_wrong cs (n + 1) h.1
none_wrong (Reads text ∷ cs) n h = none_wrong cs (n + 1) h.1
none_wrong (Wrong why ∷ cs) n h = absurd h.0

-- a flaw is at one of the nodes
not_before : (cs : List Check) (n : ℕ) (flaw : Flaw) → first_wrong n cs ≡ Some flaw → n ≤ flaw.node
not_before [] n flaw h = absurd (cc)
not_before (Fine ∷ cs) n flaw h = omega (arith, not_before cs (n + 1) flaw h)
not_before (Reads text ∷ cs) n flaw h = omega (arith, not_before cs (n + 1) flaw h)
not_before (Wrong why ∷ cs) n flaw h =
    let node : n ≡ flaw.node = cc in
    omega (arith, node)

no_cause : (why : Why) (text : List ℕ) → ¬ (IsBad text) × ¬ (MayBeLarge text) → IsTextCause why text → ⊥
no_cause cause.TooDeep text h k = k
no_cause cause.TooMany text h k = k
no_cause cause.TooLarge text h k = k
no_cause cause.TooManyPatterns text h k = k
no_cause cause.SinkUnderCondition text h k = k
no_cause cause.FlagNotTrue text h k = k
no_cause cause.BadLabel text h k = k
no_cause cause.TwoLabels text h k = k
no_cause cause.NegativeCount text h k = k
no_cause cause.BadTimeRange text h k = k
no_cause cause.BadPattern text h k = h.0 k
no_cause cause.LargePattern text h k = h.1 k

abbrev Agrees : Flaw → Why → ℕ → Type 0
Agrees flaw why node = (why ≡ flaw.why) × (node ≡ flaw.node)

agrees : (cs : List Check) (n k : ℕ) (flaw : Flaw) (why : Why) (node : ℕ) → first_wrong n cs ≡ Some flaw → flaw.node ≡ n + k → AllByRecursion IsSurelyRead (take k cs) → IsFirst n cs why node → Agrees flaw why node
agrees [] n k flaw why node h e s first = absurd first
agrees (Fine ∷ cs) n zero flaw why node h e s first = absurd (omega (arith, e, not_before cs (n + 1) flaw h))
agrees (Fine ∷ cs) n (suc k) flaw why node h e s (inl here) = absurd here.1
agrees (Fine ∷ cs) n (suc k) flaw why node h e s (inr later) = agrees cs (n + 1) k flaw why node h (omega (arith, e)) s.1 later.1
agrees (Reads text ∷ cs) n zero flaw why node h e s first = absurd (omega (arith, e, not_before cs (n + 1) flaw h))
agrees (Reads text ∷ cs) n (suc k) flaw why node h e s (inl here) = absurd (no_cause why text s.0 here.1)
agrees (Reads text ∷ cs) n (suc k) flaw why node h e s (inr later) = agrees cs (n + 1) k flaw why node h (omega (arith, e)) s.1 later.1
agrees (Wrong w ∷ cs) n k flaw why node h e s (inl here) =
    let first : w ≡ flaw.why = cc in
    let at : n ≡ flaw.node = cc in
    (here.1 ∙ first, here.0 ∙ at)
agrees (Wrong w ∷ cs) n k flaw why node h e s (inr later) = absurd later.0

the_flaw : (flaw : Flaw) (why : Why) (node : ℕ) → Agrees flaw why node → BadFilter why node ≡ BadFilter flaw.why flaw.node
the_flaw flaw why node same = rw (same.0, same.1) refl

told : (whole : Option Why) (cs : List Check) (flaw : Flaw) (why : Why) (node : ℕ) → whole_or whole (first_wrong 0 cs) ≡ Some flaw → AllByRecursion IsSurelyRead (take flaw.node cs) →
    ((whole ≡ Some why) × (node ≡ 0)) ⊎ ((whole ≡ None) × IsFirst 0 cs why node) → Agrees flaw why node
told None cs flaw why node h s (inl first) = absurd (cc)
told None cs flaw why node h s (inr first) = agrees cs 0 flaw.node flaw why node h (omega arith) s first.1
told (Some w) cs flaw why node h s (inl first) =
    let same : w ≡ flaw.why = cc in
    let at : 0 ≡ flaw.node = cc in
    let here : w ≡ why = cc in
    (sym here ∙ same, first.1 ∙ at)
told (Some w) cs flaw why node h s (inr first) = absurd (cc)

complete : {A : Type 0} (f : AskedFilter) (r : Result A FilterRefusal) (flaw : Flaw) → first_flaw f ≡ Some flaw → AllByRecursion IsSurelyRead (take flaw.node (node_list f)) →
    extent_flaw (extent_of f) ≡ None → IsOutcome r 0 (node_list f) → IsErrAnd r (IsFlawOrMemory flaw)
complete f (Ok x) flaw h s none nodes =
    let fine : first_flaw f ≡ None = ap (λ w. whole_or w (first_wrong 0 (node_list f))) none ∙ none_wrong (node_list f) 0 nodes in
    absurd (cc)
complete f (Err OutOfMemory) flaw h s none refused = inr refl
complete f (Err (BadFilter why node)) flaw h s none refused =
    inl (the_flaw flaw why node (told (extent_flaw (extent_of f)) (node_list f) flaw why node h s (inr (none, refused))))

some_flaw : {A : Type 0} (f : AskedFilter) (r : Result A FilterRefusal) (found : Option Flaw) → first_flaw f ≡ found → extent_flaw (extent_of f) ≡ None → IsOutcome r 0 (node_list f) →
    IfSome found (λ flaw. AllByRecursion IsSurelyRead (take flaw.node (node_list f)) → IsErrAnd r (IsFlawOrMemory flaw))
some_flaw f r None is none outcome = tt
some_flaw f r (Some flaw) is none outcome = λ s. complete f r flaw is s none outcome

pub completed : {A : Type 0} (f : AskedFilter) (r : Result A FilterRefusal) → extent_flaw (extent_of f) ≡ None → IsOutcome r 0 (node_list f) →
    IfSome (first_flaw f) (λ flaw. AllByRecursion IsSurelyRead (take flaw.node (node_list f)) → IsErrAnd r (IsFlawOrMemory flaw))
completed f r none outcome = some_flaw f r (first_flaw f) refl none outcome
