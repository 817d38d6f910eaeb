use Rattle.bt_state.specs.State.{rows_of}
use Rattle.bt_laws.proofs.Answering.{answers_join}
use Rattle.bt_laws.proofs.reads.reads_join.Goals as goal

pub returns : goal.returns
returns c = λ s incarnation keys ranges f n valid is. answers_join (rows_of incarnation s.present.contents) keys ranges f n (valid.rows incarnation).lawful is
