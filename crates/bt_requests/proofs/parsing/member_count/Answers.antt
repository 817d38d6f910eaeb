use Rattle.std.proofs.Common.{◌∙◌}
use Rattle.bt_json.specs.View.{view}
use Rattle.bt_requests.proofs.Looks.{count_members}
use Rattle.bt_requests.proofs.parsing.member_count.Goals as goal

pub returns-in-Some : goal.returns-in-Some
returns-in-Some c = count_members (view c.args.value.now) c.in-Some.members.now.items c.len.result (rw c.in-Some.is at c.as_object.ensures) (c.len.ensures ∙ c.in-Some.members.now.ok.0)
