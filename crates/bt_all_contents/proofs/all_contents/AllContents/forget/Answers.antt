use Rattle.bt_all_contents.proofs.AllRows.{tables_without}
use Rattle.bt_all_contents.proofs.all_contents.AllContents.forget.Goals as goal

-- the other tables stay as they are
pub invariant_of-self : goal.invariant_of-self
invariant_of-self c = rw c.remove.ensures.entries (tables_without c.args.incarnation c.self.inside.tables.entries c.self.invariant)
