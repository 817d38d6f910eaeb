use Rattle.std.proofs.Common.{◌≡◌, drop, bytes_eq}
use Rattle.bt_json.specs.View.{members_view}
use Rattle.bt_text.specs.Members.{holds}
use Rattle.bt_text.proofs.members.holds_name.Given as goal

abbrev pub invariant-loop-key : goal.invariant-loop-key
invariant-loop-key l = holds (λ k. bytes_eq k l.name) (members_view (drop l.key-index l.members.items)) ≡ holds (λ k. bytes_eq k l.name) (members_view l.members.items)
