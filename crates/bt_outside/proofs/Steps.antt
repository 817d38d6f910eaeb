-- The calls of a disk in memory are steps of the trait's clauses.
use Rattle.std.proofs.Common.{rules, ◌≡◌, ◌≢◌, inl, inr, ◌≤◌, ℕ, ◌+◌, List, ◌++◌, length, take, drop, Bool, true, false, refl, sym, ◌∙◌, ap, subst, arith, length-append, length-drop, append_assoc}
use Rattle.std.specs.Prelude.{◌↔◌, if◌then◌else◌, ◌==◌, Result, Ok, Err, OnOk, OnErr, IsOk, IsTrue}
use Rattle.std.proofs.lemmas.Bool.{cases_eq}
use Rattle.std.proofs.lemmas.List.{length-take-le, take_at, take_all, drop_at}
use Rattle.bt_outside.specs.declared.calls.Kind.{Kind}
use Rattle.bt_outside.specs.Disk.{Files, Torn, TornCut, AtFile, Follows}
use Rattle.bt_outside.specs.Model.{State, IsBounded, MayBe, after_write, after_cut}
use Rattle.bt_outside.specs.History.{after_kind, Images, stepped}
use Rattle.bt_outside.proofs.Places.{if_same, if_other}
use Rattle.bt_outside.proofs.Images.{write_before, cut_before}

-- bytes in their place differ in their range alone
pub holds_torn : (at : ℕ) (bytes old : List ℕ) → at ≤ length old → Torn at (length bytes) old (take at old ++ bytes ++ drop (at + length bytes) old)
holds_torn at bytes old le =
    let front = take at old ++ bytes in
    let rest = drop (at + length bytes) old in
    let first = length-take-le at old le in
    let size : length front ≡ at + length bytes = omega (arith, length-append (take at old) bytes, first) in
    let all = length-append front rest in
    let last = length-drop (at + length bytes) old in
    record {
      before = ap (λ (l : List ℕ). take at l) (append_assoc (take at old) bytes rest) ∙ take_at (take at old) (bytes ++ rest) at first;
      after = drop_at front rest (at + length bytes) size;
      no_shorter = omega (arith, all, size, last);
      no_longer = omega (arith, all, size, last);
    }

pub same_torn : (at n : ℕ) (old : List ℕ) → Torn at n old old
same_torn at n old = record { before = refl; after = refl; no_shorter = omega arith; no_longer = omega arith }

pub write_image : (at : ℕ) (bytes : List ℕ) (failed : Bool) (state : State) (c : List ℕ) → IsBounded state → at ≤ length state.bytes → MayBe (after_write at bytes failed state) c → (d : List ℕ) × MayBe state d × Torn at (length bytes) d c
write_image at bytes failed state c bounded le (inl image) = let r = write_before state at bytes failed c bounded le image in (r.0, inl r.1, r.2)
write_image at bytes true state c bounded le (inr is) = (state.bytes, inr refl, subst (λ (l : List ℕ). Torn at (length bytes) state.bytes l) (sym is) (same_torn at (length bytes) state.bytes))
write_image at bytes false state c bounded le (inr is) = (state.bytes, inr refl, subst (λ (l : List ℕ). Torn at (length bytes) state.bytes l) (sym is) (holds_torn at bytes state.bytes le))

taken_torn : (n : ℕ) (old : List ℕ) → n ≤ length old → TornCut n old (take n old)
taken_torn n old le = record { before = take_all_of n old le; no_longer = omega (arith, length-take-le n old le, le) }
  where
    take_all_of : (n : ℕ) (old : List ℕ) → n ≤ length old → take n (take n old) ≡ take n old
    take_all_of n old le = take_all n (take n old) (omega (arith, length-take-le n old le))

pub cut_image : (n : ℕ) (failed : Bool) (state : State) (c : List ℕ) → IsBounded state → n ≤ length state.bytes → MayBe (after_cut n failed state) c → (d : List ℕ) × MayBe state d × TornCut n d c
cut_image n failed state c bounded le (inl image) = let r = cut_before state n failed c bounded image in (r.0, inl r.1, r.2)
cut_image n true state c bounded le (inr is) = (state.bytes, inr refl, subst (λ (l : List ℕ). TornCut n state.bytes l) (sym is) (record { before = refl; no_longer = omega arith }))
cut_image n false state c bounded le (inr is) = (state.bytes, inr refl, subst (λ (l : List ℕ). TornCut n state.bytes l) (sym is) (taken_torn n state.bytes le))

-- a step of one file is one of all files
module _ (file : ℕ) (step : List ℕ → List ℕ → Type 0) (old new : ℕ → State) (after : State) (here : new file ≡ after) (others : (other : ℕ) → other ≢ file → new other ≡ old other)
    (back : (b : List ℕ) → MayBe after b → (d : List ℕ) × MayBe (old file) d × step d b) where
  pub follows_at : Follows (AtFile file step) (Images old) (Images new)
  follows_at c images =
      let from = back (c file) (subst (λ (s : State). MayBe s (c file)) here (images file)) in
      let d : Files = λ other. if other == file then from.0 else c other in (
        d,
        λ other. elim (cases_eq other file) [
          | inl same ↦ subst (λ (b : List ℕ). MayBe (old other) b) (sym (if_same other file from.0 (c other) same)) (subst (λ (n : ℕ). MayBe (old n) from.0) (sym same) from.1)
          | inr apart ↦ subst (λ (b : List ℕ). MayBe (old other) b) (sym (if_other other file from.0 (c other) apart)) (subst (λ (s : State). MayBe s (c other)) (others other apart) (images other))
        ],
        record {
          here = subst (λ (b : List ℕ). step b (c file)) (sym (if_same file file from.0 (c file) refl)) from.2;
          others = λ other apart. sym (if_other other file from.0 (c other) apart);
        },
      )

-- a call that was kept, or found no memory
module _ {T E : Type 0} (file : ℕ) (kind : Kind) (failed : Bool) (old new : ℕ → State) where
  pub write_follows : (r : Result T E) → OnOk r ((other : ℕ) → new other ≡ stepped file kind failed old other) → OnErr r ((other : ℕ) → new other ≡ old other)
      → (step : List ℕ → List ℕ → Type 0) → ((b : List ℕ) → step b b) → ((b : List ℕ) → MayBe (after_kind kind failed (old file)) b → (d : List ℕ) × MayBe (old file) d × step d b) → Follows (AtFile file step) (Images old) (Images new)
  write_follows (Ok x) kept stayed step same back =
      follows_at file step old new (after_kind kind failed (old file))
      (kept file ∙ if_same file file (after_kind kind failed (old file)) (old file) refl)
      (λ other apart. kept other ∙ if_other other file (after_kind kind failed (old file)) (old other) apart) back
  write_follows (Err e) kept stayed step same back =
      follows_at file step old new (old file) (stayed file) (λ other apart. stayed other) (λ b may. (b, may, same b))

-- a call that answers Ok exactly where it was done
pub on_done : {T E : Type 0} (r : Result T E) (done : Bool) (P : Type 0) → (IsOk r ↔ IsTrue done) → (IsTrue done → P) → OnOk r P
on_done (Ok x) done P same has = has (same.0 (search rules))
on_done (Err e) done P same has = tt
