use Rattle.std.proofs.Common.{refl, sym, subst, ◌<◌}
use Rattle.bt_outside.specs.declared.calls.Call.{Call}
use Rattle.bt_base.specs.Counts.{most}
use Rattle.bt_outside.specs.Disk.{Elapses}
use Rattle.bt_outside.specs.DiskSteps.{CanBe}
use Rattle.bt_outside.specs.History.{Core, LeftSince, Images, states_of}
use Rattle.bt_outside.proofs.Histories.{keeps_either, time_either}
use Rattle.bt_outside.proofs.disk_core.DiskCore.make.Goals as goal

pub invariant_of-self : goal.invariant_of-self
invariant_of-self c =
    let s = c.self.inside in
    let call : Call = record { moment = s.moment; file = c.args.file; kind = c.args.kind; failed = c.args.failed } in
    let can = subst (λ (o : Core). CanBe c.args.kind (states_of o c.args.file)) (sym c.self.view_is) c.requires in
    keeps_either s.base s.files.items c.keep.new.files.items s.calls.items c.keep.new.calls.items s.moment _ c.self.invariant c.saturating_add-self-inside.ensures call refl c.keep.result c.keep.ensures.ok c.keep.ensures.err can

pub returns-clause-time : goal.returns-clause-time
returns-clause-time c =
    let s = c.self.inside in
    let n = c.saturating_add-self-inside.result in
    let call : Call = record { moment = s.moment; file = c.args.file; kind = c.args.kind; failed = c.args.failed } in
    let new : Core = record { base = s.base; files = c.keep.new.files.items; calls = c.keep.new.calls.items; moment = n } in
    subst (λ (o : Core). n < most → Elapses o.moment n (LeftSince o) (LeftSince new) (Images (states_of new))) c.self.view_is
    (time_either s.base s.files.items c.keep.new.files.items s.calls.items c.keep.new.calls.items s.moment n c.self.invariant c.saturating_add-self-inside.ensures call refl c.keep.result c.keep.ensures.ok c.keep.ensures.err)
