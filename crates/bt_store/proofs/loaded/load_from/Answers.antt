use Rattle.std.proofs.Common.{◌+◌, ap, sym, subst, ◌∙◌}
use Rattle.bt_log.specs.Place as places
use Rattle.bt_log.specs.Log.{IsOpen}
use Rattle.bt_store.specs.Stands.{Seen}
use Rattle.bt_store.proofs.Loads.{stands}
use Rattle.bt_store.proofs.loaded.load_from.Goals as goal

pub returns-clause-stands : goal.returns-clause-stands
returns-clause-stands g c tells =
    let disk = g.D.Disk in
    let d1 = c.args.disk.now in
    let d2 = c.load.new.disk in
    let ok = c.in_ok-log.ensures in
    let r = c.in_ok-present.ensures.some in
    let names = sym c.segment_of.ensures.file ∙ c.in-Some.is in
    let log_is = ap (λ (st : Seen). st.log) c.new.ensures in
    stands (disk.held d1) c.args.snapshot.now c.args.generation (c.requires.counts tells) c.in-Some.file names c.new.result r.0 c.in_ok-log.entries (disk.held d2) (disk.may_leave d1) (disk.may_leave d2)
    (ap (λ (p : places.Place). p.file) log_is ∙ ok.file) (ap (λ (st : Seen). st.present) c.new.ensures ∙ r.2) (ok.entries tells) r.1
    (subst (λ (p : places.Place). IsOpen p (c.args.snapshot.now.base + 1) c.in_ok-log.entries (disk.held d2) (disk.may_leave d2)) (sym log_is) (ok.open tells))
    (c.requires.settled tells) (c.load.ensures.held tells) (c.load.ensures.any_moment.now tells)
