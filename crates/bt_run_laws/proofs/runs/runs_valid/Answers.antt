use Rattle.bt_run_laws.proofs.Running.{runs_valid, states_valid, turns_valid_in}
use Rattle.bt_run_laws.proofs.runs.runs_valid.Goals as goal

pub returns-clause-records : goal.returns-clause-records
returns-clause-records c = runs_valid c.states_valid.ensures.records

pub returns-clause-states : goal.returns-clause-states
returns-clause-states c = states_valid c.states_valid.ensures.records

pub returns-clause-turns : goal.returns-clause-turns
returns-clause-turns c = turns_valid_in c.states_valid.ensures.records
