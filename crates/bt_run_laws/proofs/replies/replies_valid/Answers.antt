use Rattle.bt_run_laws.proofs.Replying.{replies_lawful, replies_valid}
use Rattle.bt_run_laws.proofs.replies.replies_valid.Goals as goal

pub returns-clause-records : goal.returns-clause-records
returns-clause-records c = replies_lawful

pub returns-clause-state : goal.returns-clause-state
returns-clause-state c = replies_valid c.states_valid.ensures.records
