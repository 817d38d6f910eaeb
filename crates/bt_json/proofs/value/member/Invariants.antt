use Rattle.std.proofs.Common.{◌≡◌, drop}
use Rattle.serde_json.specs.Find.{get_member}
use Rattle.bt_json.specs.View.{members_view}
use Rattle.bt_json.proofs.value.member.Given as goal

-- the members before have other names
abbrev pub invariant-loop-other : goal.invariant-loop-other
invariant-loop-other l = get_member l.name (members_view (drop l.other-index l.members)) ≡ get_member l.name (members_view l.members)
