use Rattle.std.proofs.Common.{◌≡◌, ◌++◌, drop, option_map}
use Rattle.bt_chunks.specs.Chunks.{chunks_of_cells}
use Rattle.bt_chunks.specs.Pieces.{column_before}
use Rattle.bt_chunks.proofs.pieces.row_chunks.Given as goal

-- the chunks so far, and those of the cells that are left
abbrev pub invariant-loop-place : goal.invariant-loop-place
invariant-loop-place l =
    l.chunks ++ chunks_of_cells l.row.key (column_before (option_map (λ c. c.now) l.last) (option_map (λ c. c.now) l.before)) (drop l.place l.cells)
    ≡ chunks_of_cells l.row.key (option_map (λ c. c.now) l.last) l.cells
