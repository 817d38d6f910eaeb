use Rattle.std.proofs.Common.{◌≤◌, length, ap, subst, sym, ◌∙◌}
use Rattle.bt_crash.specs.Moments.{Keeps}
use Rattle.bt_manifest.specs.declared.snapshot.Snapshot.{Snapshot}
use Rattle.bt_manifest.specs.Grammar.{most_body}
use Rattle.bt_manifest.specs.Spelling.{snapshot_bytes}
use Rattle.bt_manifest.specs.Slots.{counting}
use Rattle.bt_manifest.specs.Publishing.{OldOrNew}
use Rattle.bt_store.specs.Stands.{Seen}
use Rattle.bt_store.proofs.Begins.{first_short, empty_through, stands_first, slot_of}
use Rattle.bt_store.proofs.begun.begin.Goals as goal

pub publish-requires-clause-body : goal.publish-requires-clause-body
publish-requires-clause-body g c = subst (λ (s : Snapshot). length (snapshot_bytes s) ≤ most_body) (sym c.in_ok-snapshot.ensures) first_short

pub returns-in_err-publish-clause-any_moment : goal.returns-in_err-publish-clause-any_moment
returns-in_err-publish-clause-any_moment g c =
    let disk = g.D.Disk in
    let d1 = c.create.new.disk in
    let d2 = c.publish.new.disk in
    empty_through disk c.args.disk.now d1 c.requires.settled c.requires.none c.create.ensures.any_moment c.create.ensures.others d2 c.in_ok-log.log c.in_ok-log.ensures.file c.in_ok-log.ensures.open
    (subst (λ (s : Snapshot). Keeps disk d1 d2 (OldOrNew (disk.may_leave d1) (counting (disk.held d1)) s 1)) c.in_ok-snapshot.ensures c.publish.ensures.any_moment)

pub returns-clause-stands : goal.returns-clause-stands
returns-clause-stands g c tells =
    let disk = g.D.Disk in
    let d1 = c.create.new.disk in
    let d2 = c.publish.new.disk in
    stands_first disk c.args.disk.now d1 c.requires.settled c.requires.none c.create.ensures.any_moment c.create.ensures.others d2 c.in_ok-log.log c.in_ok-log.ensures.file c.in_ok-log.ensures.open
    (subst (λ (s : Snapshot). Keeps disk d1 d2 (OldOrNew (disk.may_leave d1) (counting (disk.held d1)) s 1)) c.in_ok-snapshot.ensures c.publish.ensures.any_moment)
    c.new-2.result (ap (λ (st : Seen). st.log) c.new-2.ensures) (ap (λ (st : Seen). st.present) c.new-2.ensures ∙ c.new.ensures) tells
    (c.in_ok-publish.ensures.published tells ∙ ap slot_of c.in_ok-snapshot.ensures) (c.in_ok-publish.ensures.settled tells) (c.in_ok-publish.ensures.others tells)

pub returns-clause-any_moment : goal.returns-clause-any_moment
returns-clause-any_moment g c =
    let disk = g.D.Disk in
    let d1 = c.create.new.disk in
    let d2 = c.publish.new.disk in
    empty_through disk c.args.disk.now d1 c.requires.settled c.requires.none c.create.ensures.any_moment c.create.ensures.others d2 c.in_ok-log.log c.in_ok-log.ensures.file c.in_ok-log.ensures.open
    (subst (λ (s : Snapshot). Keeps disk d1 d2 (OldOrNew (disk.may_leave d1) (counting (disk.held d1)) s 1)) c.in_ok-snapshot.ensures c.publish.ensures.any_moment)
