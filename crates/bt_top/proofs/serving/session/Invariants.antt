use Rattle.std.proofs.Common.{◌-◌, ◌≡◌, ◌≤◌, false}
use Rattle.bt_service.specs.Outcomes.{FailsIf, IsUsable}
use Rattle.bt_state.specs.State.{State}
use Rattle.bt_store.specs.Stands.{Stands}
use Rattle.bt_top.proofs.Sessions.{SoFar}
use Rattle.bt_top.proofs.serving.session.Given as goal

-- the connections so far are a run that goes on
abbrev pub invariant-loop-served : goal.invariant-loop-served
invariant-loop-served g l = record {
  within : l.served ≤ l.count;
  line : l.buffer.most ≡ l.store.limits.line;
  limits : l.store.limits ≡ l.fn.store.limits;
  tells : g.C.Clock.tells l.clock → g.C.Clock.tells l.fn.clock;
  next_faults : g.L.Links.next_faults l.links ≡ g.L.Links.next_faults l.fn.links;
  disk : FailsIf g.D.Disk false l.fn.disk l.disk;
  usable : g.D.Disk.tells → IsUsable g.D.Disk false l.store l.disk;
  run : g.D.Disk.tells → g.L.Links.tells → g.C.Clock.tells l.clock → (s : State) → Stands l.fn.store s (g.D.Disk.held l.fn.disk) (g.D.Disk.may_leave l.fn.disk)
      → SoFar g.D.Disk false l.fn.store.limits s l.store l.fn.disk l.disk (g.L.Links.left l.fn.links) (g.L.Links.left l.links) (g.L.Links.sent l.fn.links) (g.L.Links.sent l.links) (g.C.Clock.told l.fn.clock) (g.C.Clock.told l.clock) l.served (g.L.Links.faults l.fn.links) (g.L.Links.faults l.links);
}

abbrev pub decreases-loop-served : goal.decreases-loop-served
decreases-loop-served g l = l.count - l.served
