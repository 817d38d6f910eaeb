use Rattle.bt_state.proofs.Reached.{found_lawful}
use Rattle.bt_state.proofs.present.Present.table.Goals as goal

pub returns-clause-lawful : goal.returns-clause-lawful
returns-clause-lawful c = found_lawful (λ t. t.now) c.table.result c.args.name.now c.self.inside.schema c.table.ensures.table c.self.invariant.lawful
