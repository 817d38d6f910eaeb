-- An empty log that is made and published.
use Rattle.std.proofs.Common.{◌≡◌, ⊎_elim, inl, inr, ◌≤◌, ℕ, [], None, Some, Ok, refl, sym, ◌∙◌, ap, subst, arith, length, lit≤}
use Rattle.std.proofs.lemmas.Bool.{cases_lt}
use Rattle.bt_base.specs.Counts.{most, counted, Risen}
use Rattle.bt_outside.specs.Disk.{Files, AtFile}
use Rattle.bt_outside.specs.declared.disk.Disk.{Ghosts}
use Rattle.bt_crash.specs.Moments.{AllImages, Keeps}
use Rattle.bt_crash.specs.Steps.{Anyhow, Reaches, StepsAt}
use Rattle.bt_crash.proofs.Chains.{OnlyNow, begun, goes_through, weakens}
use Rattle.bt_gate.specs.Faults.{Failed, IsDiskFault}
use Rattle.bt_gate.specs.declared.log_fault.LogFault.{LogFault}
use Rattle.bt_gate.specs.declared.log_fault.LogFault.TheVariants as fault
use Rattle.bt_log.specs.Place as places
use Rattle.bt_log.specs.Segment.{segment, entries_of}
use Rattle.bt_log.specs.Log.{IsOpen}
use Rattle.bt_log.proofs.Stays.{open_elsewhere}
use Rattle.bt_manifest.specs.declared.snapshot.Snapshot.{Snapshot}
use Rattle.bt_manifest.specs.Grammar.{most_body}
use Rattle.bt_manifest.specs.Spelling.{snapshot_bytes}
use Rattle.bt_manifest.specs.Slots.{Slot, counting, SlotsSettle}
use Rattle.bt_manifest.specs.Publishing.{IsNext, IsPublishFault, OldOrNew}
use Rattle.bt_state.specs.State.{empty_state, nothing}
use Rattle.bt_store.specs.Held.{first_snapshot, state_of, HoldsState}
use Rattle.bt_store.specs.Stands.{Seen, Stands}
use Rattle.bt_store.proofs.Holds.{slots_same, holds}

abbrev no_slot : Slot
no_slot = Ok None

abbrev first_slot : Slot
first_slot = Ok (Some (first_snapshot, 1))

abbrev pub slot_of : Snapshot → Slot
slot_of s = Ok (Some (s, 1))

pub first_short : length (snapshot_bytes first_snapshot) ≤ most_body
unfolding snapshot_bytes
first_short = lit≤ tt

pub risen : (n m : ℕ) → m ≡ counted n → Risen n m
risen n m e = elim (cases_lt n most) [ inl below ↦ inl (omega (arith, e, below), omega (arith, e, below)) | inr above ↦ inr (omega (arith, e, above)) ]

module _ {D : Type 0} (disk : Ghosts D) where
  -- a failure of publishing is one since before
  pub publish_fault : (old mid new : D) (e : LogFault) → disk.faults mid ≡ disk.faults old → IsPublishFault disk mid new e → IsDiskFault (Failed disk old new) e
  publish_fault old mid new fault.DiskFailed same f = (risen (disk.faults old) (disk.faults new) (f.0 ∙ ap counted same), f.1)
  publish_fault old mid new (fault.Damaged file at) same f = f
  publish_fault old mid new (fault.TooLarge n) same f = f
  publish_fault old mid new fault.OutOfMemory same f = tt

  module _ (d0 d1 : D) (slots : disk.tells → SlotsSettle (disk.held d0) (disk.may_leave d0)) (none : disk.tells → counting (disk.held d0) ≡ no_slot) where
    -- an image whose slots read so
    empty_at : disk.tells → (c : Files) → c 0 ≡ disk.held d0 0 → c 1 ≡ disk.held d0 1 → HoldsState empty_state c
    empty_at tells c zeroth first = ap (state_of c) (slots_same (disk.held d0) c zeroth first ∙ none tells)

    pub empty_now : AllImages disk d0 (HoldsState empty_state)
    empty_now tells c left = empty_at tells c ((slots tells).0 c left) ((slots tells).1 c left)

    pub not_yet : OnlyNow disk d0 → Keeps disk d0 d0 (HoldsState empty_state)
    not_yet law = begun disk d0 (HoldsState empty_state) law empty_now

    module _ (made : StepsAt disk 2 Anyhow d0 d1) where
      pub empty_made : Keeps disk d0 d1 (HoldsState empty_state)
      empty_made =
          weakens disk d0 d1 (Reaches 2 Anyhow (disk.may_leave d0)) (HoldsState empty_state) made
          (λ tells c r. empty_at tells c (r.2.others 0 (omega arith) ∙ (slots tells).0 r.0 r.1) (r.2.others 1 (omega arith) ∙ (slots tells).1 r.0 r.1))

      module _ (others : disk.tells → AtFile 2 Anyhow (disk.held d0) (disk.held d1)) where
        pub slots_after : disk.tells → SlotsSettle (disk.held d1) (disk.may_leave d1)
        slots_after tells = (
          (λ c left. let r = made.now tells c left in r.2.others 0 (omega arith) ∙ (slots tells).0 r.0 r.1 ∙ sym ((others tells).others 0 (omega arith))),
          (λ c left. let r = made.now tells c left in r.2.others 1 (omega arith) ∙ (slots tells).1 r.0 r.1 ∙ sym ((others tells).others 1 (omega arith))),
        )

        pub none_after : disk.tells → counting (disk.held d1) ≡ no_slot
        none_after tells = slots_same (disk.held d0) (disk.held d1) ((others tells).others 0 (omega arith)) ((others tells).others 1 (omega arith)) ∙ none tells

        pub next_is : disk.tells → IsNext (counting (disk.held d1)) 1
        next_is tells = subst (λ (slot : Slot). IsNext slot 1) (sym (none_after tells)) refl

        module _ (d2 : D) (log : places.Place) (is_two : log.file ≡ 2) (open_now : disk.tells → (first : ℕ) → IsOpen log first [] (disk.held d1) (disk.may_leave d1))
            (published : Keeps disk d1 d2 (OldOrNew (disk.may_leave d1) (counting (disk.held d1)) first_snapshot 1)) where
          same_log : disk.tells → (c : Files) → OldOrNew (disk.may_leave d1) (counting (disk.held d1)) first_snapshot 1 c → (d : Files) × disk.may_leave d1 d × (c log.file ≡ d log.file)
          same_log tells c is = (is.0.0, is.0.1, is.0.2.others log.file (λ e. absurd (omega (arith, e, is_two))))

          reads_empty : disk.tells → (c : Files) → OldOrNew (disk.may_leave d1) (counting (disk.held d1)) first_snapshot 1 c → segment 1 (c 2) ≡ Ok []
          reads_empty tells c is =
              let r = same_log tells c is in
              let now = open_now tells 1 in
              ap (λ (f : ℕ). segment 1 (c f)) (sym is_two) ∙ ap (segment 1) (r.2 ∙ now.settled r.0 r.1) ∙ ap entries_of now.reads

          pub empty_through : Keeps disk d0 d2 (HoldsState empty_state)
          empty_through =
              goes_through disk d0 d1 d2 (HoldsState empty_state) (OldOrNew (disk.may_leave d1) (counting (disk.held d1)) first_snapshot 1) (HoldsState empty_state) empty_made published (λ tells c is. is)
              (λ tells c is. ⊎_elim
              (λ stays. ap (state_of c) (stays ∙ none_after tells))
              (λ goes. holds c first_snapshot 1 2 [] empty_state goes refl (reads_empty tells c is) refl)
              is.1)

          pub stands_first : (store : Seen) → store.log ≡ log → store.present ≡ nothing → disk.tells → counting (disk.held d2) ≡ first_slot → SlotsSettle (disk.held d2) (disk.may_leave d2) → AtFile 1 Anyhow (disk.held d1) (disk.held d2)
              → Stands store empty_state (disk.held d2) (disk.may_leave d2)
          stands_first store log_is present tells counts settled step = record {
            snapshot = first_snapshot;
            generation = 1;
            counts = counts;
            names = ap (λ (n : ℕ). Some n) (sym (ap (λ (p : places.Place). p.file) log_is ∙ is_two));
            entries = [];
            is_open = subst (λ (p : places.Place). IsOpen p 1 [] (disk.held d2) (disk.may_leave d2)) (sym log_is)
                (open_elsewhere log 1 [] (disk.held d1) (disk.held d2) (disk.may_leave d1) (disk.may_leave d2) (open_now tells 1) (step.others log.file (λ e. absurd (omega (arith, e, is_two)))) (λ c left. same_log tells c (published.now tells c left)));
            leads = refl;
            slots = settled;
            present = present;
          }
