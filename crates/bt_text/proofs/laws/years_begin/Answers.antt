use Rattle.bt_text.proofs.Dates.{years_begin}
use Rattle.bt_text.proofs.laws.years_begin.Goals as goal

pub returns : goal.returns
returns c = years_begin
