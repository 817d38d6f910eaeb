use Rattle.std.proofs.Common.{◌≡◌, ◌∙◌, ap}
use Rattle.std.specs.Ordering.{is_gt}
use Rattle.std.proofs.lemmas.Cmp.{nat_list_cmp_total, tied_itself}
use Rattle.bt_contents.specs.Contents.{key_is, seen}
use Rattle.bt_contents.specs.Ranges.{row_with, unread}
use Rattle.bt_contents.proofs.Found.{from_to}
use Rattle.bt_contents.proofs.Rows.{held_filter, seen_filter}
use Rattle.bt_contents.proofs.contents.Contents.row.Goals as goal

pub range-requires : goal.range-requires
range-requires c = rw (c.new.ensures.start, c.new.ensures.end) (ap is_gt (tied_itself nat_list_cmp_total c.args.key.now))

-- the rows from the key to itself
pub new-requires-2 : goal.new-requires-2
new-requires-2 c =
    let rows = c.self.inside.rows.entries in
    let range : c.range.result ≡ row_with c.args.key.now rows = rw (c.new.ensures.start, c.new.ensures.end) at (c.range.ensures.between tt) ∙ from_to c.args.key.now rows in
    rw range (held_filter (key_is c.args.key.now) rows c.self.invariant)

pub returns : goal.returns
returns c =
    let rows = c.self.inside.rows.entries in
    let range : c.range.result ≡ row_with c.args.key.now rows = rw (c.new.ensures.start, c.new.ensures.end) at (c.range.ensures.between tt) ∙ from_to c.args.key.now rows in
    c.new-2.ensures ∙ ap unread (ap seen range ∙ seen_filter (key_is c.args.key.now) rows ∙ ap (row_with c.args.key.now) c.self.view_is)
