-- Where a file stands in the list of files.
use Rattle.std.proofs.Common.{◌≡◌, ◌≢◌, ◌<◌, ◌≤◌, ℕ, zero, suc, ◌+◌, ◌-◌, List, [], ◌∷◌, ◌++◌, length, get_or, drop, set, refl, sym, ◌∙◌, ap, subst, arith, length-append}
use Rattle.std.specs.Prelude.{if◌then◌else◌, ◌==◌}
use Rattle.std.proofs.lemmas.Bool.{cases_eq}
use Rattle.std.proofs.lemmas.Bool.Decides.{nat_tests}
use Rattle.std.proofs.lemmas.List.{drop_more, drop_all}
use Rattle.std.proofs.Common.{inl, inr}
use Rattle.bt_outside.specs.Model.{State}
use Rattle.bt_outside.specs.declared.calls.Call.{Call}
use Rattle.bt_outside.specs.History.{after_kind, step_of}
use Rattle.bt_outside.specs.FileStates.{OfFile, lookup, IsPlace}

pub if_same : {X : Type 0} (a b : ℕ) (x y : X) → a ≡ b → (if a == b then x else y) ≡ x
if_same a b x y is = grind (arith, nat_tests)

pub if_other : {X : Type 0} (a b : ℕ) (x y : X) → a ≢ b → (if a == b then x else y) ≡ y
if_other a b x y not_is = grind (arith, nat_tests)

-- one file further
module _ (files : List OfFile) (file i : ℕ) (x : OfFile) (within : i < length files) (is : x ≡ get_or files i x) where
  rest : drop i files ≡ x ∷ drop (i + 1) files
  rest = drop_more files i x within ∙ ap (λ (y : OfFile). y ∷ drop (i + 1) files) (sym is)

  pub found_here : ((k : ℕ) → IsPlace (drop i files) file k → IsPlace files file (i + k)) → x.number ≡ file → IsPlace files file i
  found_here so_far same =
      let here : IsPlace (drop i files) file 0 = subst (λ (l : List OfFile). IsPlace l file 0) (sym rest) same in
      subst (λ (k : ℕ). IsPlace files file k) (omega arith) (so_far 0 here)

  pub found_further : ((k : ℕ) → IsPlace (drop i files) file k → IsPlace files file (i + k)) → x.number ≢ file → (k : ℕ) → IsPlace (drop (i + 1) files) file k → IsPlace files file (i + 1 + k)
  found_further so_far apart k there =
      let here : IsPlace (drop i files) file (suc k) = subst (λ (l : List OfFile). IsPlace l file (suc k)) (sym rest) (apart, there) in
      subst (λ (n : ℕ). IsPlace files file n) (omega arith) (so_far (suc k) here)

  pub same_further : (start : ℕ → State) → lookup start files file ≡ lookup start (drop i files) file → x.number ≢ file → lookup start files file ≡ lookup start (drop (i + 1) files) file
  same_further start so_far apart = so_far ∙ ap (λ (l : List OfFile). lookup start l file) rest ∙ if_other file x.number x.state (lookup start (drop (i + 1) files) file) (λ e. apart (sym e))

  further : (k m : ℕ) → m ≡ k - i → i ≤ k → x.number ≢ file → IsPlace (x ∷ drop (i + 1) files) file m → IsPlace (drop (i + 1) files) file (k - (i + 1)) × (i + 1 ≤ k)
  further k zero at le apart here = absurd (apart here)
  further k (suc m) at le apart here = (subst (λ (n : ℕ). IsPlace (drop (i + 1) files) file n) (omega (arith, at, le)) here.1, omega (arith, at, le))

  pub apart_further : ((k : ℕ) → IsPlace files file k → IsPlace (drop i files) file (k - i) × (i ≤ k)) → x.number ≢ file → (k : ℕ) → IsPlace files file k → IsPlace (drop (i + 1) files) file (k - (i + 1)) × (i + 1 ≤ k)
  apart_further so_far apart k there =
      let r = so_far k there in
      further k (k - i) refl r.1 apart (subst (λ (l : List OfFile). IsPlace l file (k - i)) rest r.0)

pub none_left : (start : ℕ → State) (files : List OfFile) (file i : ℕ) → length files ≤ i → lookup start files file ≡ lookup start (drop i files) file → lookup start files file ≡ start file
none_left start files file i past so_far = so_far ∙ ap (λ (l : List OfFile). lookup start l file) (drop_all i files past)

-- a new file at the end
pub place_added : (files : List OfFile) (x : OfFile) → ((k : ℕ) → IsPlace files x.number k → ⊥) → IsPlace (files ++ x ∷ []) x.number (length files)
place_added [] x none = refl
place_added (y ∷ files) x none = elim (cases_eq y.number x.number) [
  | inl is ↦ absurd (none 0 is)
  | inr apart ↦ (apart, place_added files x (λ k there. none (suc k) (apart, there)))
]

pub lookup_added : (start : ℕ → State) (files : List OfFile) (x : OfFile) (other : ℕ) → x.state ≡ start x.number → lookup start (files ++ x ∷ []) other ≡ lookup start files other
lookup_added start [] x other is = elim (cases_eq other x.number) [
  | inl same ↦ if_same other x.number x.state (start other) same ∙ is ∙ ap start (sym same)
  | inr apart ↦ if_other other x.number x.state (start other) apart
]
lookup_added start (y ∷ files) x other is = ap (λ (s : State). if other == y.number then y.state else s) (lookup_added start files x other is)

-- the file at its place
pub lookup_at : (start : ℕ → State) (files : List OfFile) (file place : ℕ) (x : OfFile) → IsPlace files file place → x ≡ get_or files place x → (x.number ≡ file) × (x.state ≡ lookup start files file) × (place < length files)
lookup_at start [] file place x at is = absurd at
lookup_at start (y ∷ files) file zero x at is = (ap (λ (z : OfFile). z.number) is ∙ at, ap (λ (z : OfFile). z.state) is ∙ sym (if_same file y.number y.state (lookup start files file) (sym at)), omega arith)
lookup_at start (y ∷ files) file (suc place) x at is =
    let r = lookup_at start files file place x at.1 is in
    (r.0, r.1 ∙ sym (if_other file y.number y.state (lookup start files file) (λ e. at.0 (sym e))), omega (arith, r.2))

pub place_within : (files : List OfFile) (file place : ℕ) → IsPlace files file place → place < length files
place_within [] file place at = absurd at
place_within (y ∷ files) file zero at = omega arith
place_within (y ∷ files) file (suc place) at = omega (arith, place_within files file place at.1)

-- the file at its place is replaced
pub lookup_set : (start : ℕ → State) (files : List OfFile) (file place : ℕ) (x : OfFile) (other : ℕ) → IsPlace files file place → x.number ≡ file → lookup start (set files place x) other ≡ (if other == file then x.state else lookup start files other)
lookup_set start [] file place x other at is = absurd at
lookup_set start (y ∷ files) file zero x other at is = elim (cases_eq other file) [
  | inl same ↦ if_same other x.number x.state (lookup start files other) (same ∙ sym is) ∙ sym (if_same other file x.state (lookup start (y ∷ files) other) same)
  | inr apart ↦ if_other other x.number x.state (lookup start files other) (λ e. apart (e ∙ is)) ∙ sym (if_other other y.number y.state (lookup start files other) (λ e. apart (e ∙ at))) ∙ sym (if_other other file x.state (lookup start (y ∷ files) other) apart)
]
lookup_set start (y ∷ files) file (suc place) x other at is = elim (cases_eq other y.number) [
  | inl same ↦
      let apart : other ≢ file = λ e. at.0 (sym same ∙ e) in
      if_same other y.number y.state (lookup start (set files place x) other) same ∙ sym (if_same other y.number y.state (lookup start files other) same) ∙ sym (if_other other file x.state (lookup start (y ∷ files) other) apart)
  | inr apart ↦
      if_other other y.number y.state (lookup start (set files place x) other) apart ∙ lookup_set start files file place x other at.1 is
      ∙ ap (λ (s : State). if other == file then x.state else s) (sym (if_other other y.number y.state (lookup start files other) apart))
]

-- the new file stands last
pub added_place : (files new : List OfFile) (x : OfFile) (file place : ℕ) → x.number ≡ file → new ≡ files ++ x ∷ [] → place + 1 ≡ length new → ((k : ℕ) → IsPlace files file k → ⊥) → IsPlace new file place
added_place files new x file place number pushed size none =
    let long : length new ≡ length files + 1 = ap length pushed ∙ length-append files (x ∷ []) in
    let at : length files ≡ place = omega (arith, size, long) in
    let here : IsPlace (files ++ x ∷ []) x.number (length files) = place_added files x (λ k there. none k (subst (λ (n : ℕ). IsPlace files n k) number there)) in
    subst (λ (l : List OfFile). IsPlace l file place) (sym pushed) (subst (λ (n : ℕ). IsPlace (files ++ x ∷ []) file n) at (subst (λ (n : ℕ). IsPlace (files ++ x ∷ []) n (length files)) number here))

-- the files after the one at the place went a step
pub lookup_step : (start : ℕ → State) (files first : List OfFile) (file place : ℕ) (x y : OfFile) (call : Call) → IsPlace files file place → ((other : ℕ) → lookup start files other ≡ lookup start first other) → x ≡ get_or files place x → call.file ≡ file
    → y ≡ record { number = x.number; state = after_kind call.kind call.failed x.state } → (other : ℕ) → lookup start (set files place y) other ≡ step_of call (lookup start first) other
lookup_step start files first file place x y call at same read call_file is other =
    let found = lookup_at start files file place x at read in
    let number : y.number ≡ file = ap (λ (z : OfFile). z.number) is ∙ found.0 in
    let state : y.state ≡ after_kind call.kind call.failed (lookup start first call.file) =
    ap (λ (z : OfFile). z.state) is ∙ ap (after_kind call.kind call.failed) (found.1 ∙ same file ∙ ap (lookup start first) (sym call_file)) in
    lookup_set start files file place y other at number
    ∙ ap (λ (s : State). if other == file then s else lookup start files other) state
    ∙ ap (λ (s : State). if other == file then after_kind call.kind call.failed (lookup start first call.file) else s) (same other)
    ∙ ap (λ (n : ℕ). if other == n then after_kind call.kind call.failed (lookup start first call.file) else lookup start first other) (sym call_file)
