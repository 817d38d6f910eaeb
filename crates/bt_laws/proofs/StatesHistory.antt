-- One more entry of the history.
use Rattle.std.proofs.Common.{◌≡◌, ◌≤◌, ◌+◌, ◌-◌, ℕ, List, [], ◌∷◌, ◌++◌, length, sym, subst, arith}
use Rattle.std.specs.List.{AllByRecursion}
use Rattle.std.proofs.lemmas.List.{length-append}
use Rattle.bt_entry.specs.declared.numbered.Numbered.{Numbered}
use Rattle.bt_codec.specs.Lists.{AllFrom}
use Rattle.bt_entry.specs.Grammar.{AreNumbered}
use Rattle.bt_laws.specs.States.{AreNumberedTo, NeverFall, moment_of}

pub weaker : {X : Type 0} (P Q : X → Type 0) → ((x : X) → P x → Q x) → (xs : List X) → AllByRecursion P xs → AllByRecursion Q xs
weaker P Q f [] all = tt
weaker P Q f (x ∷ xs) all = (f x all.0, weaker P Q f xs all.1)

pub all_push : {X : Type 0} (P : X → Type 0) (xs : List X) (x : X) → AllByRecursion P xs → P x → AllByRecursion P (xs ++ x ∷ [])
all_push P [] x all new = (new, tt)
all_push P (y ∷ ys) x all new = (all.0, all_push P ys x all.1 new)

numbered_push : (first : ℕ) (es : List Numbered) (n : Numbered) → n.sequence ≡ first + length es → AreNumbered first es → AreNumbered first (es ++ n ∷ [])
numbered_push first [] n is all = (omega (arith, is), tt)
numbered_push first (e ∷ es) n is all = (all.0, numbered_push (first + 1) es n (omega (arith, is)) all.1)

-- sequences go on
pub numbered_after : (last : ℕ) (es : List Numbered) (n : Numbered) → n.sequence ≡ last + 1 → AreNumberedTo last es → AreNumberedTo (last + 1) (es ++ n ∷ [])
numbered_after last es n is all =
    let le : length es ≤ last = all.0 in
    let longer : length (es ++ n ∷ []) ≡ length es + 1 = length-append es (n ∷ []) in
    let first : last + 1 + 1 - length (es ++ n ∷ []) ≡ last + 1 - length es = omega (arith, longer, le) in
    (omega (arith, longer, le), subst (λ m. AreNumbered m (es ++ n ∷ [])) (sym first) (numbered_push (last + 1 - length es) es n (omega (arith, is, le)) all.1))

timed_push : (before : ℕ) (es : List Numbered) (n : Numbered) → before ≤ n.moment → AllByRecursion (λ e. e.moment ≤ n.moment) es → AllFrom moment_of (λ m e. m ≤ e.moment) before es
    → AllFrom moment_of (λ m e. m ≤ e.moment) before (es ++ n ∷ [])
timed_push before [] n le past all = (le, tt)
timed_push before (e ∷ es) n le past all = (all.0, timed_push e.moment es n past.0 past.1 all.1)

-- moments do not fall
pub timed_after : (es : List Numbered) (n : Numbered) → AllByRecursion (λ e. e.moment ≤ n.moment) es → NeverFall es → NeverFall (es ++ n ∷ [])
timed_after es n past all = timed_push 0 es n (omega arith) past all
