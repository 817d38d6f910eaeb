use Rattle.std.proofs.Common.{◌≡◌, length}
use Rattle.bt_chunks.specs.Chunks.{packed}
use Rattle.bt_scan.proofs.scan.Scan.next_response.Given as goal

-- the responses that are left stay the same
abbrev pub invariant-loop-chunk : goal.invariant-loop-chunk
invariant-loop-chunk l = packed l.self-inside.packer l.self-inside.chunks ≡ l.fn.self

abbrev pub decreases-loop-chunk : goal.decreases-loop-chunk
decreases-loop-chunk l = length l.self-inside.chunks
