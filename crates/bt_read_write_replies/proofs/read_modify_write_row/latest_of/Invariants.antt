use Rattle.std.proofs.Common.{◌≡◌}
use Rattle.bt_contents.specs.Contents.{row_at}
use Rattle.bt_rmw.specs.Columns.{latest_of_each}
use Rattle.bt_read_write_replies.proofs.read_modify_write_row.latest_of.Given as goal

-- the latest cells of the columns so far
abbrev pub invariant-loop-column : goal.invariant-loop-column
invariant-loop-column l = l.latest ≡ latest_of_each (row_at l.key l.rows) l.yielded
