-- The manifest is loaded, and then what it names.
use Rattle.std.proofs.Common.{◌≡◌, ℕ, ◌+◌, Option, None, Some, Result, Ok, Err, refl, sym, ◌∙◌, ap, subst}
use Rattle.bt_base.specs.Counts.{Risen}
use Rattle.bt_outside.specs.Disk.{Files, Alike}
use Rattle.bt_outside.specs.declared.disk.Disk.{Ghosts}
use Rattle.bt_crash.specs.Moments.{Keeps}
use Rattle.bt_crash.proofs.Chains.{goes_through, weakens}
use Rattle.std.specs.Prelude.{IfOk, IfErr}
use Rattle.bt_gate.specs.Faults.{Failed, IsDiskFault}
use Rattle.bt_gate.specs.declared.log_fault.LogFault.{LogFault}
use Rattle.bt_gate.specs.declared.log_fault.LogFault.TheVariants as fault
use Rattle.bt_log.specs.Segment.{segment}
use Rattle.bt_log.specs.Log as logs
use Rattle.bt_manifest.specs.Loading as manifests
use Rattle.bt_manifest.specs.declared.snapshot.Snapshot.{Snapshot}
use Rattle.bt_manifest.specs.Slots.{Slot, Generation, counting}
use Rattle.bt_state.specs.State.{State, empty_state}
use Rattle.bt_store.specs.Held.{Place, base_state, after_segment, after_snapshot, state_of, disk_state, segment_of, HoldsState, IsBroken, LikeSome}
use Rattle.bt_store.specs.Faults.{IsReplayFault, IsLoadFault}
use Rattle.bt_store.specs.Stands.{Seen, Stands}
use Rattle.bt_store.proofs.Holds.{slots_same}

snapshot_same : (d c : Files) → Alike d c → (s : Snapshot) (generation : ℕ) (o : Option ℕ) → after_snapshot c s generation o ≡ after_snapshot d s generation o
snapshot_same d c alike s generation None = refl
snapshot_same d c alike s generation (Some file) = ap (λ l. after_segment file (base_state s) (segment (s.base + 1) l)) (alike file)

slot_same : (d c : Files) → Alike d c → (slot : Slot) → state_of c slot ≡ state_of d slot
slot_same d c alike (Err file) = refl
slot_same d c alike (Ok None) = refl
slot_same d c alike (Ok (Some x)) = snapshot_same d c alike x.0 x.1 (segment_of x.0)

-- files that read the same stand for the same
pub state_same : (d c : Files) → Alike d c → disk_state c ≡ disk_state d
state_same d c alike = ap (state_of c) (slots_same d c (alike 0) (alike 1)) ∙ slot_same d c alike (counting d)

module _ {D : Type 0} (disk : Ghosts D) (d0 d1 : D) (loaded : Keeps disk d0 d1 (disk.may_leave d0)) where
  -- nothing but the manifest was loaded
  pub like_same : Keeps disk d0 d1 (LikeSome (disk.may_leave d0))
  like_same = weakens disk d0 d1 (disk.may_leave d0) (LikeSome (disk.may_leave d0)) loaded (λ tells c is. (c, is, refl))

  module _ (d2 : D) where
    pub like_loaded : Keeps disk d1 d2 (disk.may_leave d1) → Keeps disk d0 d2 (LikeSome (disk.may_leave d0))
    like_loaded more =
        goes_through disk d0 d1 d2 (disk.may_leave d0) (disk.may_leave d1) (LikeSome (disk.may_leave d0)) loaded more (λ tells c is. (c, is, refl)) (λ tells c is. (c, loaded.now tells c is, refl))

    pub like_begun : (disk.tells → disk.may_leave d0 (disk.held d0)) → (disk.tells → HoldsState empty_state (disk.held d0)) → Keeps disk d1 d2 (HoldsState empty_state) → Keeps disk d0 d2 (LikeSome (disk.may_leave d0))
    like_begun itself empty more =
        goes_through disk d0 d1 d2 (disk.may_leave d0) (HoldsState empty_state) (LikeSome (disk.may_leave d0)) loaded more (λ tells c is. (c, is, refl)) (λ tells c is. (disk.held d0, itself tells, is ∙ sym (empty tells)))

pub counting_same : (d c : Files) → Alike d c → counting c ≡ counting d
counting_same d c alike = slots_same d c (alike 0) (alike 1)

pub broken_same : (d c : Files) (file at : ℕ) → Alike d c → IsBroken c file at → IsBroken d file at
broken_same d c file at alike broken = sym (state_same d c alike) ∙ broken

pub failed_since : {D : Type 0} (disk : Ghosts D) (d0 d1 d2 : D) → disk.faults d1 ≡ disk.faults d0 → Failed disk d1 d2 → Failed disk d0 d2
failed_since disk d0 d1 d2 same f = (subst (λ (n : ℕ). Risen n (disk.faults d2)) same f.0, f.1)

-- ---- faults

abbrev broken_at : ℕ → ℕ → Result State Place
broken_at file at = Err (file, at)

pub log_fault : (failed : Type 0) (file : ℕ) (bad : ℕ → Type 0) (broken : ℕ → ℕ → Type 0) (e : LogFault) → ((at : ℕ) → bad at → broken file at) → logs.IsLoadFault failed file bad e → IsLoadFault failed broken e
log_fault failed file bad broken fault.DiskFailed turn f = f
log_fault failed file bad broken (fault.Damaged number at) turn f = subst (λ (n : ℕ). broken n at) (sym f.0) (turn at f.1)
log_fault failed file bad broken (fault.TooLarge n) turn f = f
log_fault failed file bad broken fault.OutOfMemory turn f = tt

pub replay_fault : (failed : Type 0) (file : ℕ) (bad : Type 0) (broken : ℕ → ℕ → Type 0) (e : LogFault) → (bad → broken file 0) → IsReplayFault file bad e → IsLoadFault failed broken e
replay_fault failed file bad broken fault.DiskFailed turn f = absurd f
replay_fault failed file bad broken (fault.Damaged number at) turn f = subst (λ (n : ℕ). broken n at) (sym f.0) (subst (λ (n : ℕ). broken file n) (sym f.1) (turn f.2))
replay_fault failed file bad broken (fault.TooLarge n) turn f = f
replay_fault failed file bad broken fault.OutOfMemory turn f = tt

pub disk_fault : (old failed : Type 0) (broken : ℕ → ℕ → Type 0) (e : LogFault) → (old → failed) → IsDiskFault old e → IsLoadFault failed broken e
disk_fault old failed broken fault.DiskFailed turn f = turn f
disk_fault old failed broken (fault.Damaged number at) turn f = absurd f
disk_fault old failed broken (fault.TooLarge n) turn f = f
disk_fault old failed broken fault.OutOfMemory turn f = tt

pub more_fault : (old failed : Type 0) (was broken : ℕ → ℕ → Type 0) (e : LogFault) → (old → failed) → ((file at : ℕ) → was file at → broken file at) → IsLoadFault old was e → IsLoadFault failed broken e
more_fault old failed was broken fault.DiskFailed turn place f = turn f
more_fault old failed was broken (fault.Damaged file at) turn place f = place file at f
more_fault old failed was broken (fault.TooLarge n) turn place f = f
more_fault old failed was broken fault.OutOfMemory turn place f = tt

pub manifest_fault : {D : Type 0} (disk : Ghosts D) (d0 d1 : D) (e : LogFault) → (disk.tells → manifests.Answers (Err e) (counting (disk.held d0))) → manifests.IsLoadFault disk d0 d1 e → IsLoadFault (Failed disk d0 d1) (λ file at. disk.tells → IsBroken (disk.held d0) file at) e
manifest_fault disk d0 d1 fault.DiskFailed said f = f
manifest_fault disk d0 d1 (fault.Damaged file at) said f = λ tells. ap (state_of (disk.held d0)) (said tells).0 ∙ ap (broken_at file) (sym (said tells).1)
manifest_fault disk d0 d1 (fault.TooLarge n) said f = f
manifest_fault disk d0 d1 fault.OutOfMemory said f = tt

abbrev pub said_of : Option Generation → Slot
said_of o = Ok o

-- what an answer tells is put in other words
pub if_ok : {T E : Type 0} (P Q : T → Type 0) (r : Result T E) → ((x : T) → P x → Q x) → IfOk r P → IfOk r Q
if_ok P Q (Ok x) turn h = turn x h
if_ok P Q (Err e) turn h = h

pub if_err : {T E : Type 0} (P Q : E → Type 0) (r : Result T E) → ((e : E) → P e → Q e) → IfErr r P → IfErr r Q
if_err P Q (Ok x) turn h = h
if_err P Q (Err e) turn h = turn e h

module _ {D : Type 0} (disk : Ghosts D) (d0 d1 d2 : D) (alike : disk.tells → Alike (disk.held d0) (disk.held d1)) where
  -- no slot is opened: the files stand for the state before the first entry
  pub empty_before : (disk.tells → counting (disk.held d0) ≡ Ok None) → disk.tells → HoldsState empty_state (disk.held d0)
  empty_before none tells = ap (state_of (disk.held d0)) (none tells)

  pub begun_stands : (r : Result Seen LogFault) → (disk.tells → counting (disk.held d0) ≡ Ok None) → (disk.tells → IfOk r (λ st. Stands st empty_state (disk.held d2) (disk.may_leave d2)))
      → disk.tells → IfOk r (λ st. (s : State) × (disk_state (disk.held d0) ≡ Ok s) × Stands st s (disk.held d2) (disk.may_leave d2))
  begun_stands r none stood tells = if_ok _ _ r (λ st is. (empty_state, empty_before none tells, is)) (stood tells)

  pub loaded_stands : (r : Result Seen LogFault) → (disk.tells → IfOk r (λ st. (s : State) × (disk_state (disk.held d1) ≡ Ok s) × Stands st s (disk.held d2) (disk.may_leave d2)))
      → disk.tells → IfOk r (λ st. (s : State) × (disk_state (disk.held d0) ≡ Ok s) × Stands st s (disk.held d2) (disk.may_leave d2))
  loaded_stands r stood tells = if_ok _ _ r (λ st is. (is.0, sym (state_same (disk.held d0) (disk.held d1) (alike tells)) ∙ is.1, is.2)) (stood tells)

  module _ (same : disk.faults d1 ≡ disk.faults d0) (r : Result Seen LogFault) where
    pub begun_fault : IfErr r (IsDiskFault (Failed disk d1 d2)) → IfErr r (IsLoadFault (Failed disk d0 d2) (λ file at. disk.tells → IsBroken (disk.held d0) file at))
    begun_fault failed = if_err _ _ r (λ e f. disk_fault (Failed disk d1 d2) (Failed disk d0 d2) _ e (failed_since disk d0 d1 d2 same) f) failed

    pub loaded_fault : IfErr r (IsLoadFault (Failed disk d1 d2) (λ file at. disk.tells → IsBroken (disk.held d1) file at)) → IfErr r (IsLoadFault (Failed disk d0 d2) (λ file at. disk.tells → IsBroken (disk.held d0) file at))
    loaded_fault failed =
        if_err _ _ r
        (λ e f. more_fault (Failed disk d1 d2) (Failed disk d0 d2) (λ file at. disk.tells → IsBroken (disk.held d1) file at) (λ file at. disk.tells → IsBroken (disk.held d0) file at) e
        (failed_since disk d0 d1 d2 same) (λ file at broken tells. broken_same (disk.held d0) (disk.held d1) file at (alike tells) (broken tells)) f)
        failed
