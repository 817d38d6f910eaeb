use Rattle.std.proofs.Common.{◌≡◌, take}
use Rattle.bt_base.proofs.list_of.ListOfPlain.copy.Given as goal

-- the copies so far are those of the first items
abbrev pub invariant-loop-item : goal.invariant-loop-item
invariant-loop-item g l = l.held.items ≡ take l.item-index l.self
