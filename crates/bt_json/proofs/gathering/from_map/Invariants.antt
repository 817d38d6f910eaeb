use Rattle.std.proofs.Common.{◌≡◌, ◌++◌}
use Rattle.bt_json.proofs.gathering.from_map.Given as goal

-- those so far, and those that are left
abbrev pub invariant-loop-name : goal.invariant-loop-name
invariant-loop-name l = l.members.items ++ l.name-iterator ≡ l.fn.map.entries
