use Rattle.std.proofs.Common.{◌≡◌, ◌++◌}
use Rattle.bt_json.proofs.gathering.to_map.Given as goal

-- those so far, and those that are left
abbrev pub invariant-loop-name : goal.invariant-loop-name
invariant-loop-name l = l.map.entries ++ l.name-iterator.rest.items ≡ l.fn.members.items
