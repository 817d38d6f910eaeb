use Rattle.std.proofs.Common.{length}
use Rattle.bt_text.proofs.names.+is_original.Given as goal

abbrev pub decreases-is_original : goal.decreases-is_original
decreases-is_original l = length l.name.now
