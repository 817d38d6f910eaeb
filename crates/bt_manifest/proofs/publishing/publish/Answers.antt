use Rattle.std.proofs.Common.{ℕ, ◌%◌, List, [], subst, ◌∙◌}
use Rattle.bt_outside.specs.Disk.{AtFile}
use Rattle.bt_gate.specs.Gate.{IsOpened}
use Rattle.bt_manifest.proofs.Counting.{can_stand, new_counts}
use Rattle.bt_manifest.proofs.Publishes.{publishing}
use Rattle.bt_manifest.proofs.publishing.publish.Goals as goal

pub returns-in_err-write_slot-clause-any_moment : goal.returns-in_err-write_slot-clause-any_moment
returns-in_err-write_slot-clause-any_moment g c =
    let r = c.requires in
    publishing g.D.Disk c.args.disk.now c.write_slot.new.disk c.args.snapshot.now c.args.generation c.deref.result.now (c.deref.ensures.value ∙ c.in_ok-bytes.ensures) r.grammar r.body r.limit r.settled r.next c.write_slot.ensures.any_moment

pub returns-clause-any_moment : goal.returns-clause-any_moment
returns-clause-any_moment g c =
    let r = c.requires in
    publishing g.D.Disk c.args.disk.now c.write_slot.new.disk c.args.snapshot.now c.args.generation c.deref.result.now (c.deref.ensures.value ∙ c.in_ok-bytes.ensures) r.grammar r.body r.limit r.settled r.next c.write_slot.ensures.any_moment

pub returns-clause-published : goal.returns-clause-published
returns-clause-published g c = λ tells.
    let disk = g.D.Disk in
    let held = disk.held c.args.disk.now in
    let new = disk.held c.write_slot.new.disk in
    let s = c.args.snapshot.now in
    let generation = c.args.generation in
    let r = c.requires in
    let is = c.deref.ensures.value ∙ c.in_ok-bytes.ensures in
    let step = subst (λ (l : List ℕ). AtFile (generation % 2) (λ _ bytes. IsOpened [] l bytes) held new) is (c.in_ok-write_slot.ensures.written tells) in
    new_counts held s generation (can_stand held s generation r.grammar r.body r.limit (r.next tells)) (r.next tells) new step
