use Rattle.std.proofs.Common.{◌≡◌, ◌≤◌, length, nat_cmp}
use Rattle.std.specs.Cmp.Lexicographic.{slice_cmp}
use Rattle.bt_json.proofs.Sorted.{LessAt}
use Rattle.bt_json.proofs.gathering.put.Given as goal

-- the name is less than that at the place
abbrev pub invariant-loop-at : goal.invariant-loop-at
invariant-loop-at l = (l.at ≤ length l.members.items) × LessAt (λ n. slice_cmp nat_cmp l.name n.now) l.members.items l.at × (l.members ≡ l.fn.members)

abbrev pub decreases-loop-at : goal.decreases-loop-at
decreases-loop-at l = l.at
