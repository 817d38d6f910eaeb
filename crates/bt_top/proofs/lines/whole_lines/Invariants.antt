use Rattle.std.proofs.Common.{◌≡◌, ℕ, List, length, false}
use Rattle.bt_service.specs.Outcomes.{FailsIf, IsUsable}
use Rattle.bt_service.specs.Steps.{KeepsConnections}
use Rattle.bt_state.specs.State.{State}
use Rattle.bt_store.specs.Stands.{Stands}
use Rattle.bt_top.specs.Steps.{Went, Divides}
use Rattle.bt_top.proofs.lines.whole_lines.Given as goal

-- the lines so far had their turns, and the stream goes on behind them
abbrev pub invariant-loop-at : goal.invariant-loop-at
invariant-loop-at g l =
    (g.L.Links.tells → KeepsConnections (g.L.Links.left l.initial.links) (g.L.Links.left l.links) (g.L.Links.at_hand l.initial.links) (g.L.Links.at_hand l.links))
    × (g.C.Clock.tells l.clock → g.C.Clock.tells l.initial.clock)
    × (g.D.Disk.tells → g.L.Links.tells → g.C.Clock.tells l.clock → (s : State) → Stands l.initial.store s (g.D.Disk.held l.initial.disk) (g.D.Disk.may_leave l.initial.disk)
    → (lines : List (List ℕ)) × Went g.D.Disk l.initial.store.limits s l.store l.initial.disk l.disk (g.L.Links.sent l.initial.links) (g.L.Links.sent l.links) (g.C.Clock.told l.initial.clock) (g.C.Clock.told l.clock) (g.L.Links.faults l.initial.links) (g.L.Links.faults l.links) lines × Divides l.initial.buffer.most l.initial.buffer.text l.buffer.text lines)
    × (g.L.Links.faults l.links ≡ g.L.Links.faults l.initial.links)
    × (g.L.Links.next_faults l.links ≡ g.L.Links.next_faults l.initial.links)
    × (l.buffer.most ≡ l.initial.buffer.most)
    × (g.D.Disk.tells → IsUsable g.D.Disk false l.store l.disk)
    × (l.store.limits ≡ l.initial.store.limits)
    × FailsIf g.D.Disk false l.initial.disk l.disk

abbrev pub decreases-loop-at : goal.decreases-loop-at
decreases-loop-at g l = length l.buffer.text
