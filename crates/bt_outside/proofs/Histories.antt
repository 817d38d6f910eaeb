-- How what is kept of a disk in memory goes on.
use Rattle.std.proofs.Common.{◌≡◌, ◌⊎◌, inl, inr, ⊎_elim, ◌<◌, ◌≤◌, ℕ, ◌+◌, List, [], ◌∷◌, ◌++◌, length, take, drop, Bool, true, false, refl, sym, ◌∙◌, ap, subst, arith, length-append, length-drop}
use Rattle.std.proofs.lemmas.List.{length-take-le}
use Rattle.std.specs.Prelude.{if◌then◌else◌, ◌==◌, Result, Ok, Err, OnOk, OnErr}
use Rattle.std.proofs.lemmas.Bool.{cases_eq}
use Rattle.bt_outside.specs.declared.calls.Kind.{Kind}
use Rattle.bt_outside.specs.declared.calls.Kind.TheVariants.{Length, Read, Write, Cut, Sync}
use Rattle.bt_outside.specs.declared.calls.Call.{Call}
use Rattle.bt_base.specs.Counts.{most, counted}
use Rattle.bt_outside.specs.Disk.{Files, Elapses}
use Rattle.bt_outside.specs.Model.{State, IsBounded, MayBe, after_write, after_cut, after_sync}
use Rattle.bt_outside.specs.FileStates.{OfFile, lookup}
use Rattle.bt_outside.specs.declared.image.FileBytes.{FileBytes}
use Rattle.bt_outside.specs.DiskImage.{start_of}
use Rattle.bt_outside.specs.History.{after_kind, step_of, replayed, Images, Past, Core, LeftSince, AllBefore}
use Rattle.bt_outside.specs.DiskSteps.{Keeps, CanBe, Stayed}
use Rattle.bt_outside.proofs.Places.{if_same, if_other}

step_same : (call : Call) (s t : ℕ → State) → ((file : ℕ) → s file ≡ t file) → (other : ℕ) → step_of call s other ≡ step_of call t other
step_same call s t same other = ap (λ (x : State). if other == call.file then x else s other) (ap (after_kind call.kind call.failed) (same call.file)) ∙ ap (λ (x : State). if other == call.file then after_kind call.kind call.failed (t call.file) else x) (same other)

replayed_push : (s : ℕ → State) (calls : List Call) (call : Call) (other : ℕ) → replayed s (calls ++ call ∷ []) other ≡ step_of call (replayed s calls) other
replayed_push s [] call other = refl
replayed_push s (first ∷ calls) call other = replayed_push (step_of first s) calls call other

images_same : (s t : ℕ → State) → ((file : ℕ) → s file ≡ t file) → (c : Files) → Images s c → Images t c
images_same s t same c images file = subst (λ (x : State). MayBe x (c file)) (same file) (images file)

past_push : (s : ℕ → State) (calls : List Call) (call : Call) (t : ℕ) (c : Files) → Past s calls t c → Past s (calls ++ call ∷ []) t c
past_push s [] call t c past = absurd past
past_push s (first ∷ calls) call t c (inl here) = inl here
past_push s (first ∷ calls) call t c (inr there) = inr (past_push (step_of first s) calls call t c there)

past_last : (s : ℕ → State) (calls : List Call) (call : Call) (t : ℕ) (c : Files) → t ≤ call.moment → Images (replayed s calls) c → Past s (calls ++ call ∷ []) t c
past_last s [] call t c le images = inl (le, images)
past_last s (first ∷ calls) call t c le images = inr (past_last (step_of first s) calls call t c le images)

past_pop : (s : ℕ → State) (calls : List Call) (call : Call) (t : ℕ) (c : Files) → Past s (calls ++ call ∷ []) t c → Past s calls t c ⊎ Images (replayed s calls) c
past_pop s [] call t c (inl here) = inr here.1
past_pop s [] call t c (inr none) = absurd none
past_pop s (first ∷ calls) call t c (inl here) = inl (inl here)
past_pop s (first ∷ calls) call t c (inr there) = ⊎_elim (λ past. inl (inr past)) (λ now. inr now) (past_pop (step_of first s) calls call t c there)

past_before : (s : ℕ → State) (calls : List Call) (moment t : ℕ) (c : Files) → AllBefore calls moment → Past s calls t c → t < moment
past_before s [] moment t c all past = absurd past
past_before s (first ∷ calls) moment t c all (inl here) = omega (arith, all.0, here.0)
past_before s (first ∷ calls) moment t c all (inr there) = past_before (step_of first s) calls moment t c all.1 there

all_later : (calls : List Call) (m n : ℕ) → m ≤ n → AllBefore calls m → AllBefore calls n
all_later [] m n le all = tt
all_later (call ∷ calls) m n le all = (omega (arith, le, all.0), all_later calls m n le all.1)

all_push : (calls : List Call) (call : Call) (m : ℕ) → call.moment < m → AllBefore calls m → AllBefore (calls ++ call ∷ []) m
all_push [] call m lt all = (lt, tt)
all_push (first ∷ calls) call m lt all = (all.0, all_push calls call m lt all.1)

-- a step keeps the bytes between the lengths
bounded_write : (at : ℕ) (bytes : List ℕ) (failed : Bool) (state : State) → IsBounded state → at ≤ length state.bytes → IsBounded (after_write at bytes failed state)
bounded_write at bytes true state b le = record { no_shorter = b.no_shorter; no_longer = omega (arith, b.no_longer) }
bounded_write at bytes false state b le =
    let rest = drop (at + length bytes) state.bytes in
    let size = length-append (take at state.bytes ++ bytes) rest in
    let front = length-append (take at state.bytes) bytes in
    let first = length-take-le at state.bytes le in
    let last = length-drop (at + length bytes) state.bytes in
    record { no_shorter = omega (arith, size, front, first, last, b.no_shorter, le); no_longer = omega (arith, size, front, first, last, b.no_longer, le) }

bounded_cut : (n : ℕ) (failed : Bool) (state : State) → IsBounded state → n ≤ length state.bytes → IsBounded (after_cut n failed state)
bounded_cut n true state b le = record { no_shorter = omega (arith, b.no_shorter); no_longer = b.no_longer }
bounded_cut n false state b le = let size = length-take-le n state.bytes le in record { no_shorter = omega (arith, size); no_longer = omega (arith, size, b.no_longer, le) }

bounded_sync : (failed : Bool) (state : State) → IsBounded state → IsBounded (after_sync failed state)
bounded_sync true state b = b
bounded_sync false state b = record { no_shorter = omega arith; no_longer = omega arith }

bounded_step : (kind : Kind) (failed : Bool) (state : State) → IsBounded state → CanBe kind state → IsBounded (after_kind kind failed state)
bounded_step Length failed state b can = b
bounded_step (Read at n) failed state b can = b
bounded_step (Write at bytes) failed state b can = bounded_write at bytes.items failed state b can
bounded_step (Cut n) failed state b can = bounded_cut n failed state b can
bounded_step Sync failed state b can = bounded_sync failed state b

module _ (base : List FileBytes) (files new_files : List OfFile) (calls new_calls : List Call) (moment new_moment : ℕ) (keeps : Keeps base files calls moment) (counts : new_moment ≡ counted moment) where
  old : Core
  old = record { base = base; files = files; calls = calls; moment = moment }

  -- a call that is in the record
  module _ (call : Call) (at : call.moment ≡ moment) (pushed : new_calls ≡ calls ++ call ∷ []) (states : (other : ℕ) → lookup (start_of base) new_files other ≡ step_of call (lookup (start_of base) files) other) where
    pub keeps_made : CanBe call.kind (lookup (start_of base) files call.file) → Keeps base new_files new_calls new_moment
    keeps_made can = record {
      agree = λ other. states other ∙ step_same call _ _ keeps.agree other ∙ sym (replayed_push (start_of base) calls call other) ∙ ap (λ (l : List Call). replayed (start_of base) l other) (sym pushed);
      bounded = λ other. subst IsBounded (sym (states other)) (elim (cases_eq other call.file) [
        | inl same ↦ subst IsBounded (sym (if_same other call.file (after_kind call.kind call.failed (lookup (start_of base) files call.file)) (lookup (start_of base) files other) same)) (bounded_step call.kind call.failed (lookup (start_of base) files call.file) (keeps.bounded call.file) can)
        | inr apart ↦ subst IsBounded (sym (if_other other call.file (after_kind call.kind call.failed (lookup (start_of base) files call.file)) (lookup (start_of base) files other) apart)) (keeps.bounded other)
      ]);
      before = λ below.
          let earlier : moment < most = omega (arith, counts, below) in
          let next : call.moment < new_moment = omega (arith, counts, below, at) in
          subst (λ (l : List Call). AllBefore l new_moment) (sym pushed) (all_push calls call new_moment next (all_later calls moment new_moment (omega (arith, counts, below)) (keeps.before earlier)));
    }

    pub time_made : new_moment < most → Elapses moment new_moment (LeftSince (record { base = base; files = files; calls = calls; moment = moment })) (LeftSince (record { base = base; files = new_files; calls = new_calls; moment = new_moment })) (Images (lookup (start_of base) new_files))
    time_made below =
        let earlier : moment < most = omega (arith, counts, below) in
        let next : moment < new_moment = omega (arith, counts, below) in
        record {
          nothing_else = λ t c le left. ⊎_elim (λ now. inr now) (λ past. ⊎_elim
              (λ had. inl (inr (past_before (start_of base) calls moment t c (keeps.before earlier) had, had)))
              (λ now. inl (inl (images_same _ _ (λ file. sym (keeps.agree file)) c now)))
              (past_pop (start_of base) calls call t c (subst (λ (l : List Call). Past (start_of base) l t c) pushed past.1))) left;
          keeps = λ t c le left. inr (
            omega (arith, le, next),
            subst (λ (l : List Call). Past (start_of base) l t c) (sym pushed) (⊎_elim
                (λ now. past_last (start_of base) calls call t c (omega (arith, le, at)) (images_same _ _ keeps.agree c now))
                (λ past. past_push (start_of base) calls call t c past.1) left),
          );
        }

  -- a call that is not
  module _ (same : new_calls ≡ calls) (states : (other : ℕ) → lookup (start_of base) new_files other ≡ lookup (start_of base) files other) where
    pub keeps_stayed : Keeps base new_files new_calls new_moment
    keeps_stayed = record {
      agree = λ other. states other ∙ keeps.agree other ∙ ap (λ (l : List Call). replayed (start_of base) l other) (sym same);
      bounded = λ other. subst IsBounded (sym (states other)) (keeps.bounded other);
      before = λ below. subst (λ (l : List Call). AllBefore l new_moment) (sym same) (all_later calls moment new_moment (omega (arith, counts, below)) (keeps.before (omega (arith, counts, below))));
    }

    pub time_stayed : new_moment < most → Elapses moment new_moment (LeftSince (record { base = base; files = files; calls = calls; moment = moment })) (LeftSince (record { base = base; files = new_files; calls = new_calls; moment = new_moment })) (Images (lookup (start_of base) new_files))
    time_stayed below =
        let earlier : moment < most = omega (arith, counts, below) in
        let next : moment < new_moment = omega (arith, counts, below) in
        record {
          nothing_else = λ t c le left. ⊎_elim (λ now. inr now) (λ past.
              let had = subst (λ (l : List Call). Past (start_of base) l t c) same past.1 in
              inl (inr (past_before (start_of base) calls moment t c (keeps.before earlier) had, had))) left;
          keeps = λ t c le left. ⊎_elim (λ now. inl (images_same _ _ (λ file. sym (states file)) c now)) (λ past. inr (omega (arith, le, next), subst (λ (l : List Call). Past (start_of base) l t c) (sym same) past.1)) left;
        }

module _ {T E : Type 0} (base : List FileBytes) (files new_files : List OfFile) (calls new_calls : List Call) (moment new_moment : ℕ) (keeps : Keeps base files calls moment) (counts : new_moment ≡ counted moment) (call : Call) (at : call.moment ≡ moment) where
  -- a call that is in the record or is not
  pub keeps_either : (r : Result T E) → OnOk r ((new_calls ≡ calls ++ call ∷ []) × ((other : ℕ) → lookup (start_of base) new_files other ≡ step_of call (lookup (start_of base) files) other)) → OnErr r (Stayed (start_of base) files new_files calls new_calls) → CanBe call.kind (lookup (start_of base) files call.file) → Keeps base new_files new_calls new_moment
  keeps_either (Ok x) made stayed can = keeps_made base files new_files calls new_calls moment new_moment keeps counts call at made.0 made.1 can
  keeps_either (Err e) made stayed can = keeps_stayed base files new_files calls new_calls moment new_moment keeps counts stayed.same stayed.states

  pub time_either : (r : Result T E) → OnOk r ((new_calls ≡ calls ++ call ∷ []) × ((other : ℕ) → lookup (start_of base) new_files other ≡ step_of call (lookup (start_of base) files) other)) → OnErr r (Stayed (start_of base) files new_files calls new_calls)
      → new_moment < most → Elapses moment new_moment (LeftSince (record { base = base; files = files; calls = calls; moment = moment })) (LeftSince (record { base = base; files = new_files; calls = new_calls; moment = new_moment })) (Images (lookup (start_of base) new_files))
  time_either (Ok x) made stayed = time_made base files new_files calls new_calls moment new_moment keeps counts call at made.0 made.1
  time_either (Err e) made stayed = time_stayed base files new_files calls new_calls moment new_moment keeps counts stayed.same stayed.states
