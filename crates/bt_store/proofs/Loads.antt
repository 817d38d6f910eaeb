-- What a log leads to, entry by entry, and what was loaded.
use Rattle.std.proofs.Common.{◌≡◌, ◌<◌, ◌≤◌, ℕ, ◌+◌, ◌%◌, Bool, true, false, cond, List, [], ◌∷◌, length, None, Some, Ok, Err, refl, sym, ◌∙◌, ap, arith}
use Rattle.std.specs.List.{AllByRecursion}
use Rattle.bt_outside.specs.Disk.{Files, Alike, max_length}
use Rattle.bt_entry.specs.declared.numbered.Numbered.{Numbered}
use Rattle.bt_entry.specs.Grammar.{IsSpellableNumbered}
use Rattle.bt_gate.specs.declared.log_fault.LogFault.{LogFault}
use Rattle.bt_gate.specs.declared.log_fault.LogFault.TheVariants as fault
use Rattle.bt_log.specs.Segment.{segment}
use Rattle.bt_log.specs.Log.{IsOpen}
use Rattle.bt_manifest.specs.declared.snapshot.Snapshot.{Snapshot}
use Rattle.bt_manifest.specs.Slots.{counting, SlotsSettle}
use Rattle.bt_state.specs.State.{State, Present, after, event_of, present_after, nothing, greatest_sequence}
use Rattle.bt_store.specs.Held.{segment_of, base_state, may_come, follow, or_place, after_segment, after_snapshot, state_of, disk_state}
use Rattle.bt_store.specs.Faults.{IsReplayFault}
use Rattle.bt_store.specs.Stands.{Seen, Stands}
use Rattle.bt_store.proofs.Holds.{slots_same, holds}

-- the present so far, and what is left leads where all entries lead
pub record Replays (snapshot : Snapshot) (entries : List Numbered) (p : Present) (rest : List Numbered) : Type 0 where
  pub s : State
  pub leads : follow (base_state snapshot) entries ≡ follow s rest
  pub is : p ≡ s.present
  pub spellable : AllByRecursion IsSpellableNumbered rest
  pub few : p.last + length rest ≤ max_length

pub begins : (snapshot : Snapshot) (entries : List Numbered) (p : Present) → snapshot.base ≡ 0 → length entries ≤ max_length → AllByRecursion IsSpellableNumbered entries → p ≡ record nothing { floor = snapshot.floor } → Replays snapshot entries p entries
begins snapshot entries p base few spellable is = record {
  s = base_state snapshot;
  leads = refl;
  is = is ∙ ap (λ (n : ℕ). record { schema = []; contents = []; last = n; floor = snapshot.floor }) (sym base);
  spellable = spellable;
  few = omega (arith, few, ap (λ (q : Present). q.last) is);
}

module _ (snapshot : Snapshot) (entries : List Numbered) (p : Present) where
  pub goes_on : (n : Numbered) (ns : List Numbered) (next : Present) → Replays snapshot entries p (n ∷ ns) → may_come p (event_of n) ≡ true → next ≡ present_after p (event_of n) → Replays snapshot entries next ns
  goes_on n ns next so_far may is =
      let may_here : may_come so_far.s.present (event_of n) ≡ true = ap (λ (q : Present). may_come q (event_of n)) (sym so_far.is) ∙ may in
      record {
        s = after so_far.s (event_of n);
        leads = so_far.leads ∙ ap (λ (b : Bool). cond b (follow (after so_far.s (event_of n)) ns) None) may_here;
        is = is ∙ ap (λ (q : Present). present_after q (event_of n)) so_far.is;
        spellable = so_far.spellable.1;
        few = omega (arith, so_far.few, ap (λ (q : Present). q.last) is);
      }

  pub refuses : (n : Numbered) (ns : List Numbered) → Replays snapshot entries p (n ∷ ns) → may_come p (event_of n) ≡ false → follow (base_state snapshot) entries ≡ None
  refuses n ns so_far may =
      let may_here : may_come so_far.s.present (event_of n) ≡ false = ap (λ (q : Present). may_come q (event_of n)) (sym so_far.is) ∙ may in
      so_far.leads ∙ ap (λ (b : Bool). cond b (follow (after so_far.s (event_of n)) ns) None) may_here

  pub ends : Replays snapshot entries p [] → (s : State) × (follow (base_state snapshot) entries ≡ Some s) × (p ≡ s.present)
  ends so_far = (so_far.s, so_far.leads, so_far.is)

pub nothing_left : {X : Type 0} (l : List X) → length l ≡ 0 → l ≡ []
nothing_left [] none = refl
nothing_left (x ∷ xs) none = absurd (omega arith)

pub room : (snapshot : Snapshot) (entries : List Numbered) (p : Present) (n : Numbered) (ns : List Numbered) → Replays snapshot entries p (n ∷ ns) → p.last < greatest_sequence
room snapshot entries p n ns so_far = omega (arith, so_far.few)

pub replay_turn : (file : ℕ) (was now : Type 0) (e : LogFault) → (was → now) → IsReplayFault file was e → IsReplayFault file now e
replay_turn file was now fault.DiskFailed turn f = f
replay_turn file was now (fault.Damaged number at) turn f = (f.0, f.1, turn f.2)
replay_turn file was now (fault.TooLarge n) turn f = f
replay_turn file was now fault.OutOfMemory turn f = f

-- ---- what the files stand for

module _ (c : Files) (snapshot : Snapshot) (generation : ℕ) (counts : counting c ≡ Ok (Some (snapshot, generation))) where
  here : disk_state c ≡ after_snapshot c snapshot generation (segment_of snapshot)
  here = ap (state_of c) counts

  pub no_log : segment_of snapshot ≡ None → disk_state c ≡ Err (generation % 2, 0)
  no_log none = here ∙ ap (after_snapshot c snapshot generation) none

  module _ (file : ℕ) (names : segment_of snapshot ≡ Some file) where
    pub bad_log : (at : ℕ) → segment (snapshot.base + 1) (c file) ≡ Err at → disk_state c ≡ Err (file, at)
    bad_log at bad = here ∙ ap (after_snapshot c snapshot generation) names ∙ ap (after_segment file (base_state snapshot)) bad

    pub bad_entry : (entries : List Numbered) → segment (snapshot.base + 1) (c file) ≡ Ok entries → follow (base_state snapshot) entries ≡ None → disk_state c ≡ Err (file, 0)
    bad_entry entries reads bad = here ∙ ap (after_snapshot c snapshot generation) names ∙ ap (after_segment file (base_state snapshot)) reads ∙ ap (or_place (file, 0)) bad

    pub stands : (store : Seen) (s : State) (entries : List Numbered) (new : Files) (images now : Files → Type 0) → store.log.file ≡ file → store.present ≡ s.present → segment (snapshot.base + 1) (c file) ≡ Ok entries
        → follow (base_state snapshot) entries ≡ Some s → IsOpen store.log (snapshot.base + 1) entries new now → SlotsSettle c images → Alike c new → ((x : Files) → now x → images x)
        → (t : State) × (disk_state c ≡ Ok t) × Stands store t new now
    stands store s entries new images now is present reads leads open_now slots alike fewer = (
      s,
      holds c snapshot generation file entries s counts names reads leads,
      record {
        snapshot = snapshot;
        generation = generation;
        counts = slots_same c new (alike 0) (alike 1) ∙ counts;
        names = names ∙ ap (λ (n : ℕ). Some n) (sym is);
        entries = entries;
        is_open = open_now;
        leads = leads;
        slots = ((λ x left. slots.0 x (fewer x left) ∙ sym (alike 0)), (λ x left. slots.1 x (fewer x left) ∙ sym (alike 1)));
        present = present;
      },
    )
