-- A record, committed or not.
use Rattle.std.proofs.Common.{◌≡◌, ℕ, List, [], ◌∷◌, length, inl, inr, sym, ap, ◌∙◌, subst, arith}
use Rattle.std.specs.Prelude.{Ok, Err}
use Rattle.bt_crash.specs.Changes.{StepsThrough}
use Rattle.bt_crash.proofs.Chains.{OnlyNow}
use Rattle.bt_entry.specs.declared.numbered.Numbered.{Numbered}
use Rattle.bt_gate.specs.Faults.{WriteFailed}
use Rattle.bt_gate.specs.declared.log_fault.LogFault.{LogFault}
use Rattle.bt_gate.specs.declared.log_fault.LogFault.TheVariants as fault
use Rattle.bt_outside.specs.declared.disk.Disk.{Ghosts}
use Rattle.bt_service.specs.Commits.{AreThere, CommitsSo, fault_of}
use Rattle.bt_service.specs.Turns.{fitting, is_too_large}
use Rattle.bt_service.specs.declared.committing.ChangeFault.TheVariants as change
use Rattle.bt_service.proofs.Progress.{none_there}
use Rattle.bt_service.proofs.Sizes.{either, fits_first, fits_not, large_true, true_large}
use Rattle.bt_state.specs.State.{Event, Present, State, after_record, events_of}
use Rattle.bt_store.specs.Faults.{IsCommitFault, IsTooLarge}
use Rattle.bt_store.specs.Held.{HoldsState}
use Rattle.bt_store.specs.Stands.{Seen, Stands}

module _ {D : Type 0} (disk : Ghosts D) (s : State) (store : Seen) (batch : List Numbered) (old : D) (law : OnlyNow disk old) (stands : Stands store s (disk.held old) (disk.may_leave old)) where
  abbrev alone : List (List Event)
  alone = events_of batch ∷ []

  last_here : store.present.last ≡ s.present.last
  last_here = ap (λ (p : Present). p.last) stands.present

  not_fit : IsTooLarge store batch → fitting store.limits s.present.last alone ≡ []
  not_fit large = fits_not store.limits s.present.last (events_of batch) [] (ap (λ (n : ℕ). is_too_large store.limits n (events_of batch)) (sym last_here) ∙ large_true store batch large)

  do_fit : (IsTooLarge store batch → ⊥) → fitting store.limits s.present.last alone ≡ alone
  do_fit small =
      elim (either (is_too_large store.limits s.present.last (events_of batch))) as (λ _. fitting store.limits s.present.last alone ≡ alone) [
        | inl h ↦ absurd (small (true_large store batch (ap (λ (n : ℕ). is_too_large store.limits n (events_of batch)) last_here ∙ h)))
        | inr h ↦ fits_first store.limits s.present.last (events_of batch) [] h
      ]

  -- it is refused as too large
  pub refused_large : (T : Type 0) → IsTooLarge store batch → CommitsSo {T = T} disk store.limits s alone old old store (Err change.TooLarge)
  refused_large T large = (
    omega (arith, ap length (not_fit large)),
    subst (λ (rs : List (List Event)). AreThere disk s rs old old store) (sym (not_fit large)) (none_there disk s old store law stands),
  )

  module _ (small : IsTooLarge store batch → ⊥) (new : D) (next : Seen) where
    -- it is there
    pub committed : {T : Type 0} (x : T) → Stands next (after_record s (events_of batch)) (disk.held new) (disk.may_leave new) → StepsThrough disk HoldsState after_record s alone old new
        → CommitsSo {T = T} disk store.limits s alone old new next (Ok x)
    committed x stands_next steps = (do_fit small, record { stands = stands_next; steps = steps })

    nothing_there : (new ≡ old) × (next ≡ store) → AreThere disk s [] old new next
    nothing_there same =
        subst (λ (d : D). AreThere disk s [] old d next) (sym same.0)
        (subst (λ (n : Seen). AreThere disk s [] old old n) (sym same.1) (none_there disk s old store law stands))

    -- it is not, or the disk failed
    pub not_committed : (T : Type 0) (e : LogFault) → StepsThrough disk HoldsState after_record s alone old new → IsCommitFault store batch (WriteFailed disk old new) ((new ≡ old) × (next ≡ store)) e
        → CommitsSo {T = T} disk store.limits s alone old new next (Err (fault_of e))
    not_committed T fault.DiskFailed steps failed = subst (λ (rs : List (List Event)). StepsThrough disk HoldsState after_record s rs old new) (sym (do_fit small)) steps
    not_committed T (fault.Damaged file at) steps failed = absurd failed
    not_committed T (fault.TooLarge n) steps failed = absurd (small failed.0)
    not_committed T fault.OutOfMemory steps failed = (0, omega (arith, ap length (do_fit small)), nothing_there failed)
