use Rattle.std.proofs.Common.{length}
use Rattle.bt_walk.proofs.member.+has_choice_alone.Given as goal

abbrev pub decreases-has_choice_alone : goal.decreases-has_choice_alone
decreases-has_choice_alone l = length l.members.now
