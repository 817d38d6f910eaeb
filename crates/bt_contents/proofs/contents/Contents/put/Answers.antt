use Rattle.std.proofs.Common.{◌∙◌, ap}
use Rattle.bt_contents.specs.Contents.{seen, with_row}
use Rattle.bt_row.specs.Keys.{cells_of}
use Rattle.bt_contents.proofs.Rows.{held_new, new_row, table_of}
use Rattle.bt_contents.proofs.contents.Contents.put.Goals as goal

-- where memory was short, the rows are what they were
pub returns-in_err-insert-clause-table : goal.returns-in_err-insert-clause-table
returns-in_err-insert-clause-table c = rw c.in_err-insert.ensures.err (table_of c.self.inside.rows.entries c.self.invariant)

pub invariant_of-self-2 : goal.invariant_of-self-2
invariant_of-self-2 c = rw c.in_ok-insert.ensures.entries (held_new c.args.key c.self.inside.rows.entries c.args.row c.self.invariant c.requires)

pub returns-clause-ok : goal.returns-clause-ok
returns-clause-ok c =
    ap seen c.in_ok-insert.ensures.entries ∙ new_row c.args.key c.self.inside.rows.entries c.args.row c.requires.1 ∙ ap (with_row c.args.key (cells_of c.args.row.cells.entries)) c.self.view_is

pub returns-clause-table : goal.returns-clause-table
returns-clause-table c = table_of c.insert.new.self.entries (rw c.in_ok-insert.ensures.entries (held_new c.args.key c.self.inside.rows.entries c.args.row c.self.invariant c.requires))
