use Rattle.std.proofs.Common.{◌≡◌, drop}
use Rattle.bt_json.specs.View.{members_view}
use Rattle.bt_text.specs.Members.{first_fault}
use Rattle.bt_text.specs.Names.{listed}
use Rattle.bt_text.proofs.members.first_fault.Given as goal

abbrev pub invariant-loop-key : goal.invariant-loop-key
invariant-loop-key l = first_fault (listed l.names) (members_view l.members.items) (members_view (drop l.key-index l.members.items)) ≡ first_fault (listed l.names) (members_view l.members.items) (members_view l.members.items)
