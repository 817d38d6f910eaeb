use Rattle.bt_laws.proofs.StatesCut.{valid_cut}
use Rattle.bt_laws.proofs.states.states_cut.Goals as goal

pub returns : goal.returns
returns c = valid_cut
