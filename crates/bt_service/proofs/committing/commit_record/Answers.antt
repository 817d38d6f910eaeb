use Rattle.std.proofs.Common.{[], ◌∷◌, Err, sym, subst}
use Rattle.bt_service.specs.Commits.{CommitsSo}
use Rattle.bt_service.specs.declared.committing.ChangeFault.{ChangeFault}
use Rattle.bt_service.proofs.Alone.{committed, not_committed, refused_large}
use Rattle.bt_state.specs.State.{events_of}
use Rattle.bt_service.proofs.committing.commit_record.Goals as goal

pub returns-then-is_too_large-clause-commits : goal.returns-then-is_too_large-clause-commits
returns-then-is_too_large-clause-commits g c tells s stands =
    refused_large g.D.Disk s c.args.store.now c.args.batch c.args.disk.now (g.met.D.Disk.only_now c.args.disk.now) stands (Unit {0}) (c.is_too_large.ensures.large.0 c.if-is_too_large.true)

pub returns-in-Ok-clause-commits : goal.returns-in-Ok-clause-commits
returns-in-Ok-clause-commits g c tells s stands =
    committed g.D.Disk s c.args.store.now c.args.batch c.args.disk.now (g.met.D.Disk.only_now c.args.disk.now) stands (λ large. absurd (cc (c.is_too_large.ensures.large.1 large, c.if-is_too_large.false))) c.commit.new.disk c.commit.new.self c.in-Ok.field-0
    (c.in-Ok.ensures.stands s tells stands) (c.commit.ensures.any_moment s (λ t. stands))

pub returns-in-Err-clause-commits : goal.returns-in-Err-clause-commits
returns-in-Err-clause-commits g c tells s stands =
    subst (λ (e : ChangeFault). CommitsSo {T = Unit {0}} g.D.Disk c.args.store.now.limits s (events_of c.args.batch ∷ []) c.args.disk.now c.commit.new.disk c.commit.new.self (Err e)) (sym c.change_fault.ensures)
    (not_committed g.D.Disk s c.args.store.now c.args.batch c.args.disk.now (g.met.D.Disk.only_now c.args.disk.now) stands (λ large. absurd (cc (c.is_too_large.ensures.large.1 large, c.if-is_too_large.false))) c.commit.new.disk c.commit.new.self (Unit {0}) c.in-Err.fault
    (c.commit.ensures.any_moment s (λ t. stands)) c.in-Err.ensures.fault)
