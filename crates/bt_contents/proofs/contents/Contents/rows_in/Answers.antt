use Rattle.std.proofs.Common.{◌∙◌, ap}
use Rattle.bt_contents.specs.Contents.{seen}
use Rattle.bt_contents.specs.Ranges.{is_in, rows_within, unread}
use Rattle.bt_contents.proofs.Rows.{held_filter, seen_filter}
use Rattle.bt_contents.proofs.contents.Contents.rows_in.Goals as goal

-- the rows in a range are held as all are
pub new-requires : goal.new-requires
new-requires c = rw c.rows_within.ensures.rows (held_filter (is_in c.args.range.now) c.self.inside.rows.entries c.self.invariant)

pub returns : goal.returns
returns c =
    c.new.ensures ∙ ap unread (ap seen c.rows_within.ensures.rows ∙ seen_filter (is_in c.args.range.now) c.self.inside.rows.entries ∙ ap (rows_within c.args.range.now) c.self.view_is)
