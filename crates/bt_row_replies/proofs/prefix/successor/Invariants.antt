use Rattle.std.proofs.Common.{◌≡◌, vec_len}
use Rattle.bt_row_replies.specs.Prefixes.{successor}
use Rattle.bt_row_replies.proofs.prefix.successor.Given as goal

-- what is gone does not count
abbrev pub invariant-loop-last : goal.invariant-loop-last
invariant-loop-last l = successor l.end.items ≡ successor l.front

abbrev pub decreases-loop-last : goal.decreases-loop-last
decreases-loop-last l = vec_len l.end
