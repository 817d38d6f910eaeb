use Rattle.bt_laws.proofs.StatesAfter.{empty_valid, valid_after, valid_after_records}
use Rattle.bt_laws.proofs.states.states_valid.Goals as goal

pub returns-clause-empty : goal.returns-clause-empty
returns-clause-empty c = empty_valid

pub returns-clause-event : goal.returns-clause-event
returns-clause-event c = valid_after

pub returns-clause-records : goal.returns-clause-records
returns-clause-records c = valid_after_records
