use Rattle.std.proofs.Common.{◌≡◌, take}
use Rattle.bt_table_replies.specs.Losses.{losses}
use Rattle.bt_table_replies.proofs.losses.losses_in.Given as goal

-- what the rows lose with the families so far
abbrev pub invariant-loop-family : goal.invariant-loop-family
invariant-loop-family l = l.all.entries ≡ losses (take l.family-index l.families) l.rows
