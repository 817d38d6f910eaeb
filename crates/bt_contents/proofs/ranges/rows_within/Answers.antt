use Rattle.std.proofs.Common.{None, ◌∙◌}
use Rattle.std.specs.Map.{keys_of}
use Rattle.bt_contents.proofs.Within.{same_rows, no_end, an_end}
use Rattle.bt_contents.proofs.ranges.rows_within.Goals as goal

-- keys stand for the bounds
pub returns-in-None-clause-rows : goal.returns-in-None-clause-rows
returns-in-None-clause-rows c =
    let rows = c.args.rows.now.entries in
    c.between.ensures.rows ∙ same_rows c.args.range.now _ None rows (rw c.bytes-2.ensures at c.bound-start.ensures) (no_end c.args.range.now.end (keys_of rows) c.in-None.is)

pub returns-clause-rows : goal.returns-clause-rows
returns-clause-rows c =
    let rows = c.args.rows.now.entries in
    c.between-in-Some.ensures.rows ∙ same_rows c.args.range.now _ _ rows (rw c.bytes-2.ensures at c.bound-start.ensures) (an_end c.args.range.now.end _ _ (keys_of rows) c.in-Some.is (rw c.bytes-in-Some-2.ensures at c.bound-end.ensures))
