use Rattle.bt_laws.proofs.StatesReached.{valid_reached, valid_tables}
use Rattle.bt_laws.proofs.states.states_reached.Goals as goal

pub returns-clause-present : goal.returns-clause-present
returns-clause-present c = valid_reached

pub returns-clause-rows : goal.returns-clause-rows
returns-clause-rows c = valid_tables
