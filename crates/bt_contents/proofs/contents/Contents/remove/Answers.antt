use Rattle.std.proofs.Common.{◌∙◌, [], ap}
use Rattle.bt_contents.specs.Contents.{seen, with_row}
use Rattle.bt_contents.proofs.Rows.{held_removed, removed_row, table_of}
use Rattle.bt_contents.proofs.contents.Contents.remove.Goals as goal

-- the other rows are held still
pub invariant_of-self : goal.invariant_of-self
invariant_of-self c = rw c.remove.ensures.entries (held_removed c.args.key.now c.self.inside.rows.entries c.self.invariant)

pub returns-clause-row : goal.returns-clause-row
returns-clause-row c = ap seen c.remove.ensures.entries ∙ removed_row c.args.key.now c.self.inside.rows.entries ∙ ap (with_row c.args.key.now []) c.self.view_is

pub returns-clause-table : goal.returns-clause-table
returns-clause-table c = table_of c.remove.new.self.entries (rw c.remove.ensures.entries (held_removed c.args.key.now c.self.inside.rows.entries c.self.invariant))
