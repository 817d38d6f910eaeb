use Rattle.std.proofs.Common.{◌≡◌, ℕ, List, sym, subst}
use Rattle.bt_plans.specs.Plans.{IsChange, IsPlan, IsSaid, read_reply}
use Rattle.bt_plans.specs.declared.plan.Plan.{Plan}
use Rattle.bt_send.specs.Reads.{ReadGoes}
use Rattle.bt_service.specs.Commits.{CommitsSo}
use Rattle.bt_service.specs.Outcomes.{IsUsable, SaysSo, has_ended}
use Rattle.bt_service.specs.Steps.{Made}
use Rattle.bt_service.specs.declared.outcome.Outcome.{Outcome}
use Rattle.bt_service.proofs.Makes.{made_changes, made_read, made_said, so_said, usable_changes}
use Rattle.bt_state.specs.State.{Event, Present}
use Rattle.bt_service.proofs.carrying.carried_out.Goals as goal

pub returns-in-Says-clause-made : goal.returns-in-Says-clause-made
returns-in-Says-clause-made g c tells s stands r plan =
    let disk = g.D.Disk in
    let limits = c.args.store.now.limits in
    let now = c.args.disk.now in
    let store = c.args.store.now in
    let is : IsSaid c.in-Says.answer r = subst (λ (p : Plan). IsPlan p store.present r) c.in-Says.is plan in
    subst (λ (o : Outcome). (out : List ℕ) → SaysSo store.present o out → Made disk limits s r now now store out (has_ended o)) (sym c.said.ensures)
    (so_said disk limits s now now store r c.in-Says.answer _ (made_said disk limits s r now store (g.met.D.Disk.only_now now) stands c.in-Says.answer is))

pub returns-in-Changes-clause-made : goal.returns-in-Changes-clause-made
returns-in-Changes-clause-made g c tells s stands r plan =
    let disk = g.D.Disk in
    let limits = c.args.store.now.limits in
    let is : IsChange c.in-Changes.records c.in-Changes.answer c.args.store.now.present r = subst (λ (p : Plan). IsPlan p c.args.store.now.present r) c.in-Changes.is plan in
    let new = c.commit_records.new.disk in
    let store = c.commit_records.new.store in
    let so = subst (λ (rs : List (List Event)). CommitsSo disk limits s rs c.args.disk.now new store c.commit_records.result) (sym is.events) (c.commit_records.ensures.commits tells s stands) in
    subst (λ (o : Outcome). (out : List ℕ) → SaysSo store.present o out → Made disk limits s r c.args.disk.now new store out (has_ended o)) (sym c.committed.ensures)
    (made_changes disk limits s c.args.disk.now new store c.in-Changes.answer r tells (g.met.D.Disk.reads_as_image new tells) is.lines c.commit_records.result so)

pub returns-in-Changes-clause-usable : goal.returns-in-Changes-clause-usable
returns-in-Changes-clause-usable g c tells =
    let stood = c.requires.stands tells in
    subst (λ (o : Outcome). IsUsable g.D.Disk (has_ended o) c.commit_records.new.store c.commit_records.new.disk) (sym c.committed.ensures)
    (usable_changes g.D.Disk c.args.store.now.limits stood.0 c.args.disk.now c.commit_records.new.disk c.commit_records.new.store c.in-Changes.answer _ c.commit_records.result
    (c.commit_records.ensures.commits tells stood.0 stood.1))

pub returns-in-Reads-clause-made : goal.returns-in-Reads-clause-made
returns-in-Reads-clause-made g c tells s stands r plan =
    let disk = g.D.Disk in
    let limits = c.args.store.now.limits in
    let now = c.args.disk.now in
    let store = c.args.store.now in
    let read = c.in-Reads.read in
    let is : r ≡ read_reply store.present read = subst (λ (p : Plan). IsPlan p store.present r) c.in-Reads.is plan in
    λ out says.
    made_read disk limits s r now store (g.met.D.Disk.only_now now) stands read (subst (λ (p : Present). r ≡ read_reply p read) stands.present is) out
    (subst (λ (p : Present). ReadGoes (read_reply p read).responses out) stands.present says)
