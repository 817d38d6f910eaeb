use Rattle.std.proofs.Common.{◌≡◌, take}
use Rattle.bt_range.proofs.cover.copied.Given as goal

-- the copies so far are those of the first parts
abbrev pub invariant-loop-part : goal.invariant-loop-part
invariant-loop-part l = l.all.items ≡ take l.part-index l.parts
