use Rattle.std.proofs.Common.{◌≡◌, length}
use Rattle.bt_send.specs.Reads.{read_lines}
use Rattle.bt_send.proofs.Reading.{SoFar}
use Rattle.bt_send.proofs.read.send_responses.Given as goal

-- the lines of the responses that were given are written, and nothing else of the links has changed
abbrev pub invariant-loop-chunks : goal.invariant-loop-chunks
invariant-loop-chunks g l =
    (g.L.Links.tells → SoFar (read_lines l.fn.scan) (read_lines l.scan) (g.D.Disk.moment l.disk) (g.L.Links.sent l.fn.links) (g.L.Links.sent l.links))
    × (g.L.Links.faults l.links ≡ g.L.Links.faults l.fn.links)
    × (g.L.Links.next_faults l.links ≡ g.L.Links.next_faults l.fn.links)
    × (g.L.Links.tells → g.L.Links.left l.links ≡ g.L.Links.left l.fn.links)
    × (g.L.Links.tells → g.L.Links.at_hand l.links ≡ g.L.Links.at_hand l.fn.links)

abbrev pub decreases-loop-chunks : goal.decreases-loop-chunks
decreases-loop-chunks g l = length l.scan
