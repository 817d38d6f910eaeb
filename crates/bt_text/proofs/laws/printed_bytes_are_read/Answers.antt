use Rattle.bt_text.proofs.PrintedBytes.{printed_bytes_are_read}
use Rattle.bt_text.proofs.laws.printed_bytes_are_read.Goals as goal

pub returns : goal.returns
returns c = printed_bytes_are_read
