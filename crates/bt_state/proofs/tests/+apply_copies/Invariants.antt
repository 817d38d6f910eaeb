use Rattle.std.proofs.Common.{length}
use Rattle.bt_state.proofs.tests.+apply_copies.Given as goal

-- the entries that are left
abbrev pub decreases-apply_copies : goal.decreases-apply_copies
decreases-apply_copies l = length l.batch.now
