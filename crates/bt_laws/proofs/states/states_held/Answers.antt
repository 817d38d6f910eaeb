use Rattle.bt_laws.proofs.StatesHeld.{held_valid}
use Rattle.bt_laws.proofs.states.states_held.Goals as goal

pub returns : goal.returns
returns c = held_valid
