use Rattle.std.proofs.Common.{ap, ◌∙◌}
use Rattle.bt_store.proofs.Holds.{alike_same}
use Rattle.bt_store.proofs.Both.{like_begun, empty_before, begun_stands, begun_fault, said_of, like_loaded, loaded_stands, loaded_fault}
use Rattle.bt_store.proofs.store.Store.load.Goals as goal

pub returns-in_default-clause-stands : goal.returns-in_default-clause-stands
returns-in_default-clause-stands g c =
    begun_stands g.D.Disk c.args.disk.now c.load_manifest.new.disk c.begin.new.disk c.load_manifest.ensures.held c.begin.result
    (λ tells. c.in_ok-snapshot.ensures.answer tells ∙ ap said_of c.in_default.is) c.begin.ensures.stands

pub returns-in_default-clause-any_moment : goal.returns-in_default-clause-any_moment
returns-in_default-clause-any_moment g c =
    like_begun g.D.Disk c.args.disk.now c.load_manifest.new.disk c.load_manifest.ensures.any_moment c.begin.new.disk (g.met.D.Disk.reads_as_image c.args.disk.now)
    (empty_before g.D.Disk c.args.disk.now c.load_manifest.new.disk c.begin.new.disk c.load_manifest.ensures.held (λ tells. c.in_ok-snapshot.ensures.answer tells ∙ ap said_of c.in_default.is))
    c.begin.ensures.any_moment

pub returns-in_default-clause-fault : goal.returns-in_default-clause-fault
returns-in_default-clause-fault g c =
    begun_fault g.D.Disk c.args.disk.now c.load_manifest.new.disk c.begin.new.disk c.load_manifest.ensures.held c.in_ok-snapshot.ensures.fine.0 c.begin.result c.begin.ensures.fault

pub returns-clause-stands : goal.returns-clause-stands
returns-clause-stands g c =
    loaded_stands g.D.Disk c.args.disk.now c.load_manifest.new.disk c.load_from.new.disk c.load_manifest.ensures.held c.load_from.result c.load_from.ensures.stands

pub returns-clause-any_moment : goal.returns-clause-any_moment
returns-clause-any_moment g c = like_loaded g.D.Disk c.args.disk.now c.load_manifest.new.disk c.load_manifest.ensures.any_moment c.load_from.new.disk c.load_from.ensures.any_moment

pub returns-clause-fault : goal.returns-clause-fault
returns-clause-fault g c =
    loaded_fault g.D.Disk c.args.disk.now c.load_manifest.new.disk c.load_from.new.disk c.load_manifest.ensures.held c.in_ok-snapshot.ensures.fine.0 c.load_from.result c.load_from.ensures.fault

pub returns-clause-same : goal.returns-clause-same
returns-clause-same g c tells = alike_same _ _ (c.load_from.ensures.held tells) ∙ alike_same _ _ (c.load_manifest.ensures.held tells)
