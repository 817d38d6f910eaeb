use Rattle.bt_text.proofs.StandardForms.{read_as_it_is}
use Rattle.bt_text.proofs.laws.standard_text_is_decoded_as_it_is.Goals as goal

pub returns : goal.returns
returns c = read_as_it_is
