use Rattle.std.proofs.Common.{◌≡◌}
use Rattle.serde_json.specs.Find.{get_member}
use Rattle.bt_json.specs.View.{members_view}
use Rattle.bt_requests.proofs.parsing.taken.Given as goal

-- the members before have other names
abbrev pub invariant-loop-other : goal.invariant-loop-other
invariant-loop-other l = get_member l.name (members_view l.other-iterator.rest.items) ≡ get_member l.name (members_view l.fn.members.items)
