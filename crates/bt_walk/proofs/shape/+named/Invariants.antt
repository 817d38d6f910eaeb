use Rattle.std.proofs.Common.{length}
use Rattle.bt_walk.proofs.shape.+named.Given as goal

abbrev pub decreases-named : goal.decreases-named
decreases-named l = length l.members.now
