-- Facts of each item of a list.
use Rattle.std.proofs.Common.{◌≡◌, ℕ, ◌+◌, ◌<◌, ◌≤◌, List, [], ◌∷◌, ◌++◌, length, take, get_or, sym, ap, subst, ◌∙◌, append_assoc}
use Rattle.std.specs.List.{AllByRecursion, flat_map}
use Rattle.std.proofs.lemmas.List.{take_all, take_more, flat_map_more}
use Rattle.std.proofs.lemmas.List.Elements.{All-from_recursion}
use Rattle.bt_codec.specs.Lists.{AllFrom}
use Rattle.bt_codec.specs.Reading.{anywhere}

-- a fact of each item, at the item of a loop
pub at_item : {A : Type 0} (P : A → Type 0) (xs ys : List A) (i : ℕ) (x : A) → AllByRecursion P ys → xs ≡ ys → i < length xs → P (get_or xs i x)
at_item {A} P xs ys i x all same lt = All-from_recursion P xs (rw same all) i x lt

-- a fact of each item before the end is one of each
pub each_of_all : {A : Type 0} (P : A → Type 0) (xs ys : List A) (i : ℕ) → xs ≡ ys → length xs ≤ i → AllByRecursion P (take i xs) → AllByRecursion P ys
each_of_all P xs ys i same le all = subst (AllByRecursion P) same (subst (AllByRecursion P) (take_all i xs le) all)

-- one more item of a list was written
pub one_more : {A : Type 0} (spell : A → List ℕ) (xs : List A) (i : ℕ) (x : A) (old head mid new : List ℕ) → i < length xs → x ≡ get_or xs i x → mid ≡ old ++ (head ++ flat_map spell (take i xs)) → new ≡ mid ++ spell x
    → new ≡ old ++ (head ++ flat_map spell (take (i + 1) xs))
one_more {A} spell xs i x old head mid new lt is so_far step =
    let taken : take i xs ++ x ∷ [] ≡ take (i + 1) xs = ap (λ (y : A). take i xs ++ y ∷ []) is ∙ sym (take_more xs i x lt) in
    step
    ∙ ap (λ (l : List ℕ). l ++ spell x) so_far
    ∙ append_assoc old (head ++ flat_map spell (take i xs)) (spell x)
    ∙ ap (λ (l : List ℕ). old ++ l) (flat_map_more spell head (take i xs) x ∙ ap (λ (l : List A). head ++ flat_map spell l) taken)

-- what fits anywhere is told of each item
pub each_of : {A : Type 0} (P : A → Type 0) (s : ℕ) (xs : List A) → AllFrom anywhere (λ _. P) s xs → AllByRecursion P xs
each_of P s [] all = tt
each_of P s (x ∷ xs) all = (all.0, each_of P s xs all.1)

pub of_each : {A : Type 0} (P : A → Type 0) (s : ℕ) (xs : List A) → AllByRecursion P xs → AllFrom anywhere (λ _. P) s xs
of_each P s [] all = tt
of_each P s (x ∷ xs) all = (all.0, of_each P s xs all.1)
