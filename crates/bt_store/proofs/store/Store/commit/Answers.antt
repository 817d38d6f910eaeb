use Rattle.std.proofs.Common.{ap, ◌∙◌}
use Rattle.bt_state.specs.State.{events_of, presents_after}
use Rattle.bt_store.specs.Stands.{Seen}
use Rattle.bt_store.proofs.Commits.{committed, stands_next}
use Rattle.bt_store.proofs.Follows.{floor_next, spellable_all}
use Rattle.bt_store.proofs.Writable.{writable_all}
use Rattle.bt_store.proofs.store.Store.commit.Goals as goal

pub write_batch-requires : goal.write_batch-requires
write_batch-requires g c = (c.requires.some.0, c.requires.some.1, writable_all c.args.batch (spellable_all c.args.self.now.present c.args.batch c.requires.lawful))

pub invariant_of-self-in_err-add : goal.invariant_of-self-in_err-add
invariant_of-self-in_err-add g c =
    floor_next c.self.inside.present c.args.self.now.present c.apply_all.new.self (events_of c.args.batch) (ap (λ (st : Seen). st.present) c.self.view_is) c.self.invariant c.requires.lawful c.in_ok-apply_all.ensures.ok

pub returns-in_err-add-clause-any_moment : goal.returns-in_err-add-clause-any_moment
returns-in_err-add-clause-any_moment g c s is =
    committed g.D.Disk c.args.self.now s c.args.batch c.args.disk.now is c.add.new.disk c.in_ok-record.record c.self.inside.log
    (record { spellable = c.in_ok-body.ensures.spellable; numbered = c.requires.numbered; lawful = c.requires.lawful })
    (c.in_ok-record.ensures.some.0 ∙ c.bytes.ensures ∙ c.in_ok-body.ensures.spelled)
    (ap (λ (st : Seen). st.log) c.self.view_is) c.add.ensures.any_moment

pub invariant_of-self-2 : goal.invariant_of-self-2
invariant_of-self-2 g c =
    floor_next c.self.inside.present c.args.self.now.present c.apply_all.new.self (events_of c.args.batch) (ap (λ (st : Seen). st.present) c.self.view_is) c.self.invariant c.requires.lawful c.in_ok-apply_all.ensures.ok

pub returns-clause-stands : goal.returns-clause-stands
returns-clause-stands g c s tells is =
    stands_next g.D.Disk c.args.self.now s c.args.batch c.args.disk.now (λ t. is) c.add.new.disk c.in_ok-record.record c.self.inside.log
    (record { present = c.apply_all.new.self; log = c.add.new.self; limits = c.self.inside.limits })
    (record { spellable = c.in_ok-body.ensures.spellable; numbered = c.requires.numbered; lawful = c.requires.lawful })
    (c.in_ok-record.ensures.some.0 ∙ c.bytes.ensures ∙ c.in_ok-body.ensures.spelled)
    (ap (λ (st : Seen). st.log) c.self.view_is) c.add.ensures.file
    (c.in_ok-apply_all.ensures.ok ∙ ap (λ (st : Seen). presents_after st.present (events_of c.args.batch)) c.self.view_is)
    c.in_ok-add.ensures.open c.add.ensures.any_moment c.add.ensures.others tells

pub returns-clause-any_moment : goal.returns-clause-any_moment
returns-clause-any_moment g c s is =
    committed g.D.Disk c.args.self.now s c.args.batch c.args.disk.now is c.add.new.disk c.in_ok-record.record c.self.inside.log
    (record { spellable = c.in_ok-body.ensures.spellable; numbered = c.requires.numbered; lawful = c.requires.lawful })
    (c.in_ok-record.ensures.some.0 ∙ c.bytes.ensures ∙ c.in_ok-body.ensures.spelled)
    (ap (λ (st : Seen). st.log) c.self.view_is) c.add.ensures.any_moment
