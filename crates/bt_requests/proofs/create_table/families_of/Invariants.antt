use Rattle.std.proofs.Common.{◌≡◌, drop, ◌++◌}
use Rattle.bt_json.specs.View.{members_view}
use Rattle.bt_requests.specs.Readers.{families_of}
use Rattle.bt_requests.proofs.create_table.families_of.Given as goal

-- those so far, and those that are left
abbrev pub invariant-loop-key : goal.invariant-loop-key
invariant-loop-key l = l.families ++ families_of (members_view (drop l.key-index l.entries.items)) ≡ families_of (members_view l.entries.items)
