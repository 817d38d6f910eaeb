-- Nodes of several filters are numbered on from one to the next.
use Rattle.std.proofs.Common.{◌≡◌, ℕ, ◌+◌, List, [], ◌∷◌, ◌++◌, length, length-append, Result, Ok, Err, arith, refl, subst, inl, inr}
use Rattle.std.specs.List.{AllByRecursion}
use Rattle.std.specs.Result.{IsErrAnd}
use Rattle.bt_filter.specs.declared.refusal.FilterRefusal.{FilterRefusal}
use Rattle.bt_filter.specs.declared.refusal.FilterRefusal.TheVariants.{BadFilter, OutOfMemory}
use Rattle.bt_filter.specs.declared.refusal.Why.{Why}
use Rattle.bt_filter.specs.Flaws.{Check, Fine, IsFine, IsFirst, IsRefusedAt, IsOutcome}

pub fine_append : (a b : List Check) → AllByRecursion IsFine a → AllByRecursion IsFine b → AllByRecursion IsFine (a ++ b)
fine_append [] b h k = k
fine_append (c ∷ cs) b h k = (h.0, fine_append cs b h.1 k)

first_left : (a b : List Check) (n : ℕ) (why : Why) (node : ℕ) → IsFirst n a why node → IsFirst n (a ++ b) why node
first_left [] b n why node h = absurd h
first_left (c ∷ cs) b n why node (inl here) = inl here
first_left (c ∷ cs) b n why node (inr later) = inr (later.0, first_left cs b (n + 1) why node later.1)

first_right : (a b : List Check) (n m : ℕ) (why : Why) (node : ℕ) → m ≡ n + length a → AllByRecursion IsFine a → IsFirst m b why node → IsFirst n (a ++ b) why node
first_right [] b n m why node e h k = let same : m ≡ n = omega (arith, e) in subst (λ i. IsFirst i b why node) same k
first_right (c ∷ cs) b n m why node e h k = inr (h.0, first_right cs b (n + 1) m why node (omega (arith, e)) h.1 k)

-- refused for the nodes in front, whatever stands behind
pub refused_left : (a b : List Check) (n : ℕ) (refusal : FilterRefusal) → IsRefusedAt n a refusal → IsRefusedAt n (a ++ b) refusal
refused_left a b n (BadFilter why node) h = first_left a b n why node h
refused_left a b n OutOfMemory h = tt

-- refused for the nodes behind, those in front being fine
pub refused_right : (a b : List Check) (n m : ℕ) (refusal : FilterRefusal) → m ≡ n + length a → AllByRecursion IsFine a → IsRefusedAt m b refusal → IsRefusedAt n (a ++ b) refusal
refused_right a b n m (BadFilter why node) e h k = first_right a b n m why node e h k
refused_right a b n m OutOfMemory e h k = tt

-- ---- what was made of several parts

pub outcome_left : {A B : Type 0} (x : Result A FilterRefusal) (r : Result B FilterRefusal) (e : FilterRefusal) (n : ℕ) (a b : List Check) →
    x ≡ Err e → IsErrAnd r (λ d. d ≡ e) → IsOutcome x n a → IsOutcome r n (a ++ b)
outcome_left (Ok y) r e n a b is same h = absurd (cc)
outcome_left (Err f) (Ok y) e n a b is same h = absurd same
outcome_left (Err f) (Err d) e n a b is same h =
    let equal : f ≡ d = cc in
    refused_left a b n d (subst (IsRefusedAt n a) equal h)

pub outcome_right : {A B C : Type 0} (x : Result A FilterRefusal) (y : Result B FilterRefusal) (r : Result C FilterRefusal) (made : A) (e : FilterRefusal) (n m : ℕ) (a b : List Check) →
    x ≡ Ok made → y ≡ Err e → IsErrAnd r (λ d. d ≡ e) → m ≡ n + length a → IsOutcome x n a → IsOutcome y m b → IsOutcome r n (a ++ b)
outcome_right (Err d) y r made e n m a b is fails same len h k = absurd (cc)
outcome_right (Ok x) (Ok y) r made e n m a b is fails same len h k = absurd (cc)
outcome_right (Ok x) (Err f) (Ok z) made e n m a b is fails same len h k = absurd same
outcome_right (Ok x) (Err f) (Err d) made e n m a b is fails same len h k =
    let equal : f ≡ d = cc in
    refused_right a b n m d len h (subst (IsRefusedAt m b) equal k)

-- ---- what was made of a condition

behind : (n : ℕ) (nodes : List Check) (d : FilterRefusal) → IsRefusedAt (n + 1) nodes d → IsRefusedAt n (Fine ∷ nodes) d
behind n nodes (BadFilter why node) h = inr (tt, h)
behind n nodes OutOfMemory h = tt

pub first_refused : {A B : Type 0} (x : Result A FilterRefusal) (r : Result B FilterRefusal) (e : FilterRefusal) (n : ℕ) (a b c : List Check) →
    x ≡ Err e → IsErrAnd r (λ d. d ≡ e) → IsOutcome x (n + 1) a → IsOutcome r n (Fine ∷ (a ++ b ++ c))
first_refused (Ok y) r e n a b c is same h = absurd (cc)
first_refused (Err f) (Ok y) e n a b c is same h = absurd same
first_refused (Err f) (Err d) e n a b c is same h =
    let equal : f ≡ d = cc in
    behind n (a ++ b ++ c) d (refused_left (a ++ b) c (n + 1) d (refused_left a b (n + 1) d (subst (IsRefusedAt (n + 1) a) equal h)))

pub second_refused : {A B C : Type 0} (x : Result A FilterRefusal) (y : Result B FilterRefusal) (r : Result C FilterRefusal) (made : A) (e : FilterRefusal) (n : ℕ) (a b c : List Check) →
    x ≡ Ok made → y ≡ Err e → IsErrAnd r (λ d. d ≡ e) → IsOutcome x (n + 1) a → IsOutcome y (n + 1 + length a) b → IsOutcome r n (Fine ∷ (a ++ b ++ c))
second_refused (Err d) y r made e n a b c is fails same h k = absurd (cc)
second_refused (Ok x) (Ok y) r made e n a b c is fails same h k = absurd (cc)
second_refused (Ok x) (Err f) (Ok z) made e n a b c is fails same h k = absurd same
second_refused (Ok x) (Err f) (Err d) made e n a b c is fails same h k =
    let equal : f ≡ d = cc in
    behind n (a ++ b ++ c) d (refused_left (a ++ b) c (n + 1) d (refused_right a b (n + 1) (n + 1 + length a) d refl h (subst (IsRefusedAt (n + 1 + length a) b) equal k)))

pub third_refused : {A B C D : Type 0} (x : Result A FilterRefusal) (y : Result B FilterRefusal) (z : Result C FilterRefusal) (r : Result D FilterRefusal) (first : A) (second : B) (e : FilterRefusal) (n : ℕ) (a b c : List Check) →
    x ≡ Ok first → y ≡ Ok second → z ≡ Err e → IsErrAnd r (λ d. d ≡ e) → IsOutcome x (n + 1) a → IsOutcome y (n + 1 + length a) b → IsOutcome z (n + 1 + length a + length b) c →
    IsOutcome r n (Fine ∷ (a ++ b ++ c))
third_refused (Err d) y z r first second e n a b c i j fails same h k l = absurd (cc)
third_refused (Ok x) (Err d) z r first second e n a b c i j fails same h k l = absurd (cc)
third_refused (Ok x) (Ok y) (Ok z) r first second e n a b c i j fails same h k l = absurd (cc)
third_refused (Ok x) (Ok y) (Err f) (Ok w) first second e n a b c i j fails same h k l = absurd same
third_refused (Ok x) (Ok y) (Err f) (Err d) first second e n a b c i j fails same h k l =
    let equal : f ≡ d = cc in
    behind n (a ++ b ++ c) d (refused_right (a ++ b) c (n + 1) (n + 1 + length a + length b) d (omega (arith, length-append a b)) (fine_append a b h k)
    (subst (IsRefusedAt (n + 1 + length a + length b) c) equal l))
