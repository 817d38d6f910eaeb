use Rattle.std.proofs.Common.{◌-◌, ◌≡◌, ◌≤◌, ℕ, List, Some, None, length, false}
use Rattle.std.specs.Prelude.{IsSome}
use Rattle.std.specs.List.{position}
use Rattle.bt_service.specs.Outcomes.{FailsIf, IsUsable}
use Rattle.bt_state.specs.State.{State}
use Rattle.bt_store.specs.Stands.{Stands}
use Rattle.bt_top.specs.Lines.{is_lf}
use Rattle.bt_top.proofs.Readers.{Reached}
use Rattle.bt_top.proofs.connection.serve.Given as goal

-- what was read holds no LF and is no longer than a line, and the lines so far had their turns
abbrev pub invariant-loop-count : goal.invariant-loop-count
invariant-loop-count g l =
    (l.buffer.most ≡ l.fn.buffer.most) × (l.count ≤ l.limit) × (position is_lf l.buffer.text ≡ None) × (length l.buffer.text ≤ l.buffer.most)
    × (g.C.Clock.tells l.clock → g.C.Clock.tells l.fn.clock)
    × (g.L.Links.next_faults l.links ≡ g.L.Links.next_faults l.fn.links)
    × (g.L.Links.tells → g.L.Links.left l.links ≡ g.L.Links.left l.fn.links)
    × (g.L.Links.tells → IsSome (g.L.Links.at_hand l.links))
    × (g.D.Disk.tells → g.L.Links.tells → g.C.Clock.tells l.clock → (s : State) → Stands l.fn.store s (g.D.Disk.held l.fn.disk) (g.D.Disk.may_leave l.fn.disk) → (bytes : List ℕ) → g.L.Links.at_hand l.fn.links ≡ Some bytes
    → Reached g.D.Disk l.fn.store.limits s bytes (g.L.Links.at_hand l.links) l.buffer.text l.count l.store l.fn.disk l.disk (g.L.Links.sent l.fn.links) (g.L.Links.sent l.links) (g.C.Clock.told l.fn.clock) (g.C.Clock.told l.clock) (g.L.Links.faults l.fn.links) (g.L.Links.faults l.links))
    × (l.limit ≡ l.fn.store.limits.connection)
    × (l.store.limits ≡ l.fn.store.limits)
    × (g.D.Disk.tells → IsUsable g.D.Disk false l.store l.disk)
    × FailsIf g.D.Disk false l.fn.disk l.disk

abbrev pub decreases-loop-count : goal.decreases-loop-count
decreases-loop-count g l = l.limit - l.count
