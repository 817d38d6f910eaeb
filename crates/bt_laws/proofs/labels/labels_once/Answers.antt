use Rattle.bt_laws.proofs.Labelling.{labels_once}
use Rattle.bt_laws.proofs.Traces.{traces_mean}
use Rattle.bt_laws.proofs.labels.labels_once.Goals as goal

pub returns : goal.returns
returns c = record { once = labels_once; meaning = traces_mean }
