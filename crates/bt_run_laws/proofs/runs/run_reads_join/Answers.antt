use Rattle.bt_run_laws.proofs.Reading.{run_reads_join}
use Rattle.bt_run_laws.proofs.runs.run_reads_join.Goals as goal

pub returns : goal.returns
returns c = run_reads_join c.states_valid.ensures.records c.reads_join.ensures
