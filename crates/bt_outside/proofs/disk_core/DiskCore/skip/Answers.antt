use Rattle.std.proofs.Common.{refl, subst, ◌<◌}
use Rattle.bt_base.specs.Counts.{most}
use Rattle.bt_outside.specs.Disk.{Elapses}
use Rattle.bt_outside.specs.History.{Core, LeftSince, Images, states_of}
use Rattle.bt_outside.proofs.Histories.{keeps_stayed, time_stayed}
use Rattle.bt_outside.proofs.disk_core.DiskCore.skip.Goals as goal

pub invariant_of-self : goal.invariant_of-self
invariant_of-self c = let s = c.self.inside in keeps_stayed s.base s.files.items s.files.items s.calls.items s.calls.items s.moment _ c.self.invariant c.saturating_add-self-inside.ensures refl (λ other. refl)

pub returns-clause-time : goal.returns-clause-time
returns-clause-time c =
    let s = c.self.inside in
    let n = c.saturating_add-self-inside.result in
    let new : Core = record { base = s.base; files = s.files.items; calls = s.calls.items; moment = n } in
    subst (λ (o : Core). n < most → Elapses o.moment n (LeftSince o) (LeftSince new) (Images (states_of new))) c.self.view_is
    (time_stayed s.base s.files.items s.files.items s.calls.items s.calls.items s.moment n c.self.invariant c.saturating_add-self-inside.ensures refl (λ other. refl))
