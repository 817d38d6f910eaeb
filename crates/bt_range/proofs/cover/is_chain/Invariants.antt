use Rattle.std.proofs.Common.{◌≡◌, drop}
use Rattle.bt_range.specs.Covers.{is_chain}
use Rattle.bt_range.proofs.cover.is_chain.Given as goal

-- the parts that are left chain on exactly where all do
abbrev pub invariant-loop-part : goal.invariant-loop-part
invariant-loop-part l = is_chain l.at (drop l.part-index l.parts) l.end ≡ is_chain l.initial.at l.parts l.end
