use Rattle.bt_text.proofs.PrintedDurations.{printed_durations_are_read}
use Rattle.bt_text.proofs.laws.printed_durations_are_read.Goals as goal

pub returns : goal.returns
returns c = printed_durations_are_read
