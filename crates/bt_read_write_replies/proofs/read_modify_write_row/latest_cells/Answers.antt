use Rattle.std.proofs.Common.{[]}
use Rattle.bt_contents.specs.Contents.{row_at}
use Rattle.bt_read_write_replies.proofs.Modifying.{alike_itself, stand_for}
use Rattle.bt_read_write_replies.proofs.read_modify_write_row.latest_cells.Goals as goal

pub returns-in_ok-columns-in-Some : goal.returns-in_ok-columns-in-Some
returns-in_ok-columns-in-Some c =
    rw c.in-Some.is (stand_for (row_at c.args.key.now c.in-Some.rows.now) c.in_ok-columns-in-Some.columns c.args.rules.now c.latest_of.result c.in_ok-columns-in-Some.ensures.all c.latest_of.ensures)

pub returns-in-None : goal.returns-in-None
returns-in-None c = rw (c.in-None.is, c.new.ensures) (alike_itself [] c.args.rules.now)
