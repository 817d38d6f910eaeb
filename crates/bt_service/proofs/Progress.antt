-- Records that are committed one after another.
use Rattle.std.proofs.Common.{◌≡◌, ◌<◌, ℕ, ◌+◌, Bool, true, false, cond, List, [], ◌∷◌, ◌++◌, length, take, Ok, Err, inl, inr, refl, sym, ap, ◌∙◌, subst, arith, append_assoc, append-nil, length-append}
use Rattle.std.proofs.lemmas.List.{take-append-le, take_all}
use Rattle.bt_crash.specs.Changes.{after_all, StepsThrough}
use Rattle.bt_crash.proofs.Chains.{OnlyNow, chained, not_begun, promises}
use Rattle.bt_outside.specs.declared.disk.Disk.{Ghosts}
use Rattle.bt_service.specs.Commits.{AreThere, CommitsSo}
use Rattle.bt_service.specs.Turns.{fitting, is_too_large}
use Rattle.bt_service.specs.declared.committing.ChangeFault.{ChangeFault}
use Rattle.bt_service.specs.declared.committing.ChangeFault.TheVariants.{DiskFailed, OutOfMemory, TooLarge}
use Rattle.bt_service.proofs.Sizes.{either, fits_first, fits_not}
use Rattle.bt_state.specs.State.{Event, Present, State, after, after_record, after_records}
use Rattle.bt_store.specs.Held.{HoldsState}
use Rattle.bt_store.specs.Stands.{Seen, Stands}
use Rattle.bt_store.specs.declared.limits.Limits.{Limits}
use Rattle.bt_store.proofs.Holds.{stands_hold}

-- the two words for the state after records
pub after_same : (s : State) (rs : List (List Event)) → after_all after_record s rs ≡ after_records s rs
after_same s [] = refl
after_same s (r ∷ rs) = after_same (after_record s r) rs

after_both : (s : State) (xs ys : List (List Event)) → after_records s (xs ++ ys) ≡ after_records (after_records s xs) ys
after_both s [] ys = refl
after_both s (x ∷ xs) ys = after_both (after_record s x) xs ys

-- sequences count the entries
last_after : (s : State) (r : List Event) → (after_record s r).present.last ≡ s.present.last + length r
last_after s [] = omega arith
last_after s (e ∷ es) = omega (arith, last_after (after s e) es)

module _ {D : Type 0} (disk : Ghosts D) (s : State) where
  -- before the first record
  pub none_there : (old : D) (store : Seen) → OnlyNow disk old → Stands store s (disk.held old) (disk.may_leave old) → AreThere disk s [] old old store
  none_there old store law stands = record {
    stands = stands;
    steps = not_begun disk HoldsState after_record s [] old law (λ tells c left. stands_hold store s (disk.held old) (disk.may_leave old) stands c left);
  }

  joined_steps : (xs ys : List (List Event)) (old mid new : D) → StepsThrough disk HoldsState after_record s xs old mid → StepsThrough disk HoldsState after_record (after_records s xs) ys mid new → StepsThrough disk HoldsState after_record s (xs ++ ys) old new
  joined_steps xs ys old mid new first second =
      chained disk HoldsState after_record s xs ys old mid new first (subst (λ (t : State). StepsThrough disk HoldsState after_record t ys mid new) (sym (after_same s xs)) second)

  joined : (xs ys : List (List Event)) (old mid new : D) (store next : Seen) → AreThere disk s xs old mid store → AreThere disk (after_records s xs) ys mid new next → AreThere disk s (xs ++ ys) old new next
  joined xs ys old mid new store next first second = record {
    stands = subst (λ (t : State). Stands next t (disk.held new) (disk.may_leave new)) (sym (after_both s xs ys)) second.stands;
    steps = joined_steps xs ys old mid new first.steps second.steps;
  }

-- a record that fits is not too large
is_small : (b : Bool) (r : List Event) → cond b [] (r ∷ []) ≡ r ∷ [] → b ≡ false
is_small true r e = absurd cc
is_small false r e = refl

-- what was committed so far of all records, and what is left
pub record Progress {D : Type 0} (disk : Ghosts D) (limits : Limits) (s : State) (all rest : List (List Event)) (old now : D) (store : Seen) : Type 0 where
  pub done : List (List Event)
  pub is : all ≡ done ++ rest
  pub fits : fitting limits s.present.last all ≡ done ++ fitting limits store.present.last rest
  pub there : AreThere disk s done old now store

module _ {D : Type 0} (disk : Ghosts D) (limits : Limits) (s : State) (all : List (List Event)) (old : D) where
  pub begins : (store : Seen) → OnlyNow disk old → Stands store s (disk.held old) (disk.may_leave old) → Progress disk limits s all all old old store
  begins store law stands = record {
    done = [];
    is = refl;
    fits = ap (λ (p : Present). fitting limits p.last all) (sym stands.present);
    there = none_there disk s old store law stands;
  }

  pub ends : {T : Type 0} (x : T) (store : Seen) (now : D) → Progress disk limits s all [] old now store → CommitsSo {T = T} disk limits s all old now store (Ok x)
  ends x store now so_far =
      let whole : all ≡ so_far.done = so_far.is ∙ append-nil so_far.done in (
        so_far.fits ∙ append-nil so_far.done ∙ sym whole,
        subst (λ (rs : List (List Event)). AreThere disk s rs old now store) (sym whole) so_far.there,
      )

  module _ (r : List Event) (rest : List (List Event)) (store : Seen) (mid : D) (so_far : Progress disk limits s all (r ∷ rest) old mid store) where
    -- the state after the records so far
    abbrev pub state_here : State
    state_here = after_records s so_far.done

    last_here : store.present.last ≡ state_here.present.last
    last_here = ap (λ (p : Present). p.last) so_far.there.stands.present

    large : is_too_large limits state_here.present.last r ≡ true → fitting limits s.present.last all ≡ so_far.done
    large h =
        so_far.fits
        ∙ ap (λ (n : ℕ). so_far.done ++ fitting limits n (r ∷ rest)) last_here
        ∙ ap (λ (rs : List (List Event)). so_far.done ++ rs) (fits_not limits state_here.present.last r rest h)
        ∙ append-nil so_far.done

    small : is_too_large limits state_here.present.last r ≡ false → fitting limits s.present.last all ≡ so_far.done ++ r ∷ fitting limits (state_here.present.last + length r) rest
    small h =
        so_far.fits
        ∙ ap (λ (n : ℕ). so_far.done ++ fitting limits n (r ∷ rest)) last_here
        ∙ ap (λ (rs : List (List Event)). so_far.done ++ rs) (fits_first limits state_here.present.last r rest h)

    -- one record more
    pub goes_on : {T : Type 0} (x : T) (next : Seen) (new : D) → CommitsSo {T = T} disk limits state_here (r ∷ []) mid new next (Ok x) → Progress disk limits s all rest old new next
    goes_on x next new one =
        let fits = small (is_small (is_too_large limits state_here.present.last r) r one.0) in
        let now_last : next.present.last ≡ state_here.present.last + length r = ap (λ (p : Present). p.last) one.1.stands.present ∙ last_after state_here r in
        record {
          done = so_far.done ++ r ∷ [];
          is = so_far.is ∙ sym (append_assoc so_far.done (r ∷ []) rest);
          fits = fits
              ∙ ap (λ (n : ℕ). so_far.done ++ r ∷ fitting limits n rest) (sym now_last)
              ∙ sym (append_assoc so_far.done (r ∷ []) (fitting limits next.present.last rest));
          there = joined disk s so_far.done (r ∷ []) old mid new store next so_far.there one.1;
        }

    abbrev alone : List (List Event)
    alone = fitting limits state_here.present.last (r ∷ [])

    abbrev fit : List (List Event)
    fit = fitting limits s.present.last all

    module _ (next : Seen) (new : D) where
      -- no record more
      same_there : fit ≡ so_far.done → AreThere disk state_here [] mid new next → AreThere disk s fit old new next
      same_there is none =
          subst (λ (rs : List (List Event)). AreThere disk s rs old new next) (append-nil so_far.done ∙ sym is)
          (joined disk s so_far.done [] old mid new store next so_far.there none)

      too_large : (length alone < 1) × AreThere disk state_here alone mid new next → (length fit < length all) × AreThere disk s fit old new next
      too_large one =
          elim (either (is_too_large limits state_here.present.last r)) as (λ _. (length fit < length all) × AreThere disk s fit old new next) [
            | inl h ↦ (
              omega (arith, ap length (large h), ap length so_far.is, length-append so_far.done (r ∷ rest)),
              same_there (large h) (subst (λ (rs : List (List Event)). AreThere disk state_here rs mid new next) (fits_not limits state_here.present.last r [] h) one.1),
            )
            | inr h ↦ absurd (omega (arith, one.0, ap length (fits_first limits state_here.present.last r [] h)))
          ]

      without_memory : (n : ℕ) × (n < length alone) × AreThere disk state_here (take n alone) mid new next → (n : ℕ) × (n < length fit) × AreThere disk s (take n fit) old new next
      without_memory one =
          elim (either (is_too_large limits state_here.present.last r)) as (λ _. (n : ℕ) × (n < length fit) × AreThere disk s (take n fit) old new next) [
            | inl h ↦ absurd (omega (arith, one.1, ap length (fits_not limits state_here.present.last r [] h)))
            | inr h ↦
                let is = fits_first limits state_here.present.last r [] h in
                let first : one.0 ≡ 0 = omega (arith, one.1, ap length is) in
                let none : take one.0 alone ≡ [] = ap (λ (rs : List (List Event)). take one.0 rs) is ∙ ap (λ (n : ℕ). take n (r ∷ [])) first in
                let more = fitting limits (state_here.present.last + length r) rest in
                let done : take (length so_far.done) fit ≡ so_far.done =
                ap (λ (rs : List (List Event)). take (length so_far.done) rs) (small h)
                ∙ take-append-le (length so_far.done) so_far.done (r ∷ more) (omega arith)
                ∙ take_all (length so_far.done) so_far.done (omega arith)
                in
                let there = joined disk s so_far.done [] old mid new store next so_far.there (subst (λ (rs : List (List Event)). AreThere disk state_here rs mid new next) none one.2) in (
                  length so_far.done,
                  omega (arith, ap length (small h), length-append so_far.done (r ∷ more)),
                  subst (λ (rs : List (List Event)). AreThere disk s rs old new next) (append-nil so_far.done ∙ sym done) there,
                )
          ]

      failed : StepsThrough disk HoldsState after_record state_here alone mid new → StepsThrough disk HoldsState after_record s fit old new
      failed one =
          let so = joined_steps disk s so_far.done alone old mid new so_far.there.steps one in
          elim (either (is_too_large limits state_here.present.last r)) as (λ _. StepsThrough disk HoldsState after_record s fit old new) [
            | inl h ↦
                let is : so_far.done ++ alone ≡ fit =
                ap (λ (rs : List (List Event)). so_far.done ++ rs) (fits_not limits state_here.present.last r [] h) ∙ append-nil so_far.done ∙ sym (large h)
                in
                subst (λ (rs : List (List Event)). StepsThrough disk HoldsState after_record s rs old new) is so
            | inr h ↦
                let more = fitting limits (state_here.present.last + length r) rest in
                let is : (so_far.done ++ alone) ++ more ≡ fit =
                ap (λ (rs : List (List Event)). (so_far.done ++ rs) ++ more) (fits_first limits state_here.present.last r [] h)
                ∙ append_assoc so_far.done (r ∷ []) more
                ∙ sym (small h)
                in
                subst (λ (rs : List (List Event)). StepsThrough disk HoldsState after_record s rs old new) is
                (promises disk HoldsState after_record s (so_far.done ++ alone) more old new so)
          ]

      -- a record that was not committed is the last that was tried
      pub stops : (T : Type 0) (e : ChangeFault) → CommitsSo {T = T} disk limits state_here (r ∷ []) mid new next (Err e) → CommitsSo {T = T} disk limits s all old new next (Err e)
      stops T TooLarge one = too_large one
      stops T OutOfMemory one = without_memory one
      stops T DiskFailed one = failed one
