-- What a crash leaves while a slot is closed, and while it is published.
use Rattle.std.proofs.Common.{◌≡◌, ◌≤◌, inl, refl, ℕ, ◌%◌, List, length, sym, subst}
use Rattle.bt_base.specs.Counts.{counted}
use Rattle.bt_outside.specs.declared.disk.Disk.{Ghosts}
use Rattle.bt_outside.specs.Disk.{AtFile, Follows, Settles, Torn}
use Rattle.bt_crash.specs.Moments.{Keeps}
use Rattle.bt_crash.specs.Steps.{Reaches, StepsAt}
use Rattle.bt_crash.proofs.Chains.{OnlyNow, Passes, one_step, weakens}
use Rattle.bt_manifest.specs.declared.snapshot.Snapshot.{Snapshot}
use Rattle.bt_manifest.specs.Grammar.{IsSnapshot, most_body, most_number}
use Rattle.bt_manifest.specs.Spelling.{snapshot_bytes}
use Rattle.bt_manifest.specs.Slots.{SlotsSettle, counting, slot_bytes}
use Rattle.bt_manifest.specs.Publishing.{CanClose, IsNext, OldOrNew, SameOrClosed, SlotStep}
use Rattle.bt_manifest.proofs.SlotReads.{torn_slot}
use Rattle.bt_manifest.proofs.Counting.{can_stand, old_or_new}

-- the write that closes a slot
pub closing : {D : Type 0} (disk : Ghosts D) (old new : D) (file : ℕ) → OnlyNow disk old → disk.moment new ≡ counted (disk.moment old) → Passes disk old new
    → (disk.tells → Settles file (disk.held old file) (disk.may_leave old)) → (disk.tells → CanClose (disk.held old file)) → (disk.tells → Follows (AtFile file (Torn 0 1)) (disk.may_leave old) (disk.may_leave new))
    → StepsAt disk file (SameOrClosed file) old new
closing disk old new file law counts time settled can crash =
    one_step disk old new file (SameOrClosed file) (λ b. inl refl) law counts time
    (λ tells c now.
    let from = crash tells c now in
    let lawful = subst (λ (l : List ℕ). CanClose l) (sym (settled tells from.0 from.1)) (can tells) in
    (from.0, from.1, record { here = torn_slot file (from.0 file) (c file) lawful from.2.here; others = from.2.others }))

-- a slot's step is one from the old snapshot to the new one
pub publishing : {D : Type 0} (disk : Ghosts D) (old new : D) (s : Snapshot) (generation : ℕ) (bytes : List ℕ) → bytes ≡ slot_bytes s generation → IsSnapshot s → length (snapshot_bytes s) ≤ most_body → generation ≤ most_number
    → (disk.tells → SlotsSettle (disk.held old) (disk.may_leave old)) → (disk.tells → IsNext (counting (disk.held old)) generation)
    → StepsAt disk (generation % 2) (SlotStep (generation % 2) bytes) old new → Keeps disk old new (OldOrNew (disk.may_leave old) (counting (disk.held old)) s generation)
publishing disk old new s generation bytes is grammar body most settled next steps =
    let file = generation % 2 in
    weakens disk old new (Reaches file (SlotStep file bytes) (disk.may_leave old)) (OldOrNew (disk.may_leave old) (counting (disk.held old)) s generation) steps
    (λ tells c r.
    let step = subst (λ (l : List ℕ). AtFile file (SlotStep file l) r.0 c) is r.2 in
    let fits = can_stand (disk.held old) s generation grammar body most (next tells) in
    ((r.0, r.1, record { here = tt; others = r.2.others }), old_or_new (disk.held old) s generation fits (next tells) (disk.may_leave old) (settled tells) c r.0 r.1 step))
