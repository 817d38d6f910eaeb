-- A step of the last of a list.
use Rattle.std.proofs.Common.{◌≡◌, ◌≢◌, ℕ, zero, suc, ◌+◌, ◌-◌, List, [], ◌∷◌, ◌++◌, length, get_or, set, refl, ◌∙◌, ap, subst, arith, length-append}
use Rattle.std.specs.Prelude.{Result, OnOk, OnErr, Ok, Err}
use Rattle.bt_outside.specs.Links.{Sent, LastGoes}

goes_behind : (step : Sent → Sent → Type 0) (before : List Sent) (s : Sent) (n : ℕ) (a b : Sent) → n ≡ length before → a ≡ get_or (before ++ s ∷ []) n a → step a b → (t : Sent) × (set (before ++ s ∷ []) n b ≡ before ++ t ∷ []) × step s t
goes_behind step [] s zero a b size is goes = (b, refl, subst (λ (y : Sent). step y b) is goes)
goes_behind step [] s (suc n) a b size is goes = absurd (omega arith)
goes_behind step (x ∷ before) s zero a b size is goes = absurd (omega arith)
goes_behind step (x ∷ before) s (suc n) a b size is goes =
    let r : (t : Sent) × (set (before ++ s ∷ []) n b ≡ before ++ t ∷ []) × step s t = goes_behind step before s n a b (omega arith) is goes in
    (r.0, ap (λ (l : List Sent). x ∷ l) r.1, r.2)

pub last_goes : (step : Sent → Sent → Type 0) (xs : List Sent) (n : ℕ) (a b : Sent) → n + 1 ≡ length xs → a ≡ get_or xs n a → step a b → LastGoes step xs (set xs n b)
last_goes step xs n a b size is goes before s same =
    let long : length xs ≡ length before + 1 = ap length same ∙ length-append before (s ∷ []) in
    let read : a ≡ get_or (before ++ s ∷ []) n a = is ∙ ap (λ (l : List Sent). get_or l n a) same in
    let r = goes_behind step before s n a b (omega (arith, size, long)) read goes in
    (r.0, ap (λ (l : List Sent). set l n b) same ∙ r.1, r.2)

pub last_place : (xs : List Sent) (n len : ℕ) → xs ≢ [] → len ≡ length xs → n ≡ len - 1 → n + 1 ≡ length xs
last_place [] n len some is at = absurd (some refl)
last_place (x ∷ xs) n len some is at = omega arith

pub on_ok : {T E : Type 0} (r : Result T E) (P Q : Type 0) → OnOk r P → (P → Q) → OnOk r Q
on_ok (Ok x) P Q has f = f has
on_ok (Err e) P Q has f = has

pub on_err : {T E : Type 0} (r : Result T E) (P Q : Type 0) → OnErr r P → (P → Q) → OnErr r Q
on_err (Ok x) P Q has f = has
on_err (Err e) P Q has f = f has
