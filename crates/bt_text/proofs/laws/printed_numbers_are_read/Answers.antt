use Rattle.bt_text.proofs.PrintedNumbers.{printed_numbers_are_read}
use Rattle.bt_text.proofs.laws.printed_numbers_are_read.Goals as goal

pub returns : goal.returns
returns c = printed_numbers_are_read
