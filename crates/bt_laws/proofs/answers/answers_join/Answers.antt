use Rattle.bt_laws.proofs.Answering.{answers_are_lawful, answers_join}
use Rattle.bt_laws.proofs.answers.answers_join.Goals as goal

pub returns : goal.returns
returns c = record { lawful = answers_are_lawful; joined = answers_join }
