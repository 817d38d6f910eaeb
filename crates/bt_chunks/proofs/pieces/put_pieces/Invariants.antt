use Rattle.std.proofs.Common.{◌≡◌, ◌<◌, ◌++◌, length}
use Rattle.bt_chunks.specs.Chunks.{further_pieces}
use Rattle.bt_chunks.proofs.pieces.put_pieces.Given as goal

-- the pieces so far, and those of the bytes that are left
abbrev pub invariant-loop-left : goal.invariant-loop-left
invariant-loop-left l =
    (l.chunks ++ further_pieces (length l.left) l.size l.ends_row l.left ≡ l.initial.chunks ++ further_pieces l.size l.size l.ends_row l.value)
    × (0 < length l.left)

abbrev pub decreases-loop-left : goal.decreases-loop-left
decreases-loop-left l = length l.left
