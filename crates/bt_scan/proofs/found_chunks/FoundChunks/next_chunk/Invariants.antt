use Rattle.std.proofs.Common.{◌≡◌, ◌++◌, length}
use Rattle.std.specs.Prelude.{reverse}
use Rattle.bt_chunks.specs.Chunks.{chunks_of}
use Rattle.bt_scan.proofs.found_chunks.FoundChunks.next_chunk.Given as goal

-- the chunks that are left stay the same
abbrev pub invariant-loop-chunk : goal.invariant-loop-chunk
invariant-loop-chunk l = reverse l.self-inside.pending.items ++ chunks_of l.self-inside.rows ≡ l.fn.self

abbrev pub decreases-loop-chunk : goal.decreases-loop-chunk
decreases-loop-chunk l = length l.self-inside.rows
