use Rattle.std.proofs.Common.{◌≡◌, drop}
use Rattle.serde_json.specs.Data.{no_members}
use Rattle.serde_json.specs.View.{members_view}
use Rattle.bt_messages.specs.Responses.{families_onto}
use Rattle.bt_messages.proofs.table_value.families_value.Given as goal

-- the members so far, and those of the families that are left
abbrev pub invariant-loop-family : goal.invariant-loop-family
invariant-loop-family l = families_onto (members_view l.members.entries) (drop l.family-index l.families) ≡ families_onto no_members l.families
