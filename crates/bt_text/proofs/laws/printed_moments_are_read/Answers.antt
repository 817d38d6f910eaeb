use Rattle.bt_text.proofs.PrintedMoments.{printed_moments_are_read}
use Rattle.bt_text.proofs.laws.printed_moments_are_read.Goals as goal

pub returns : goal.returns
returns c = printed_moments_are_read
