use Rattle.std.proofs.Common.{◌≡◌, rules}
use Rattle.std.specs.Prelude.{Err}
use Rattle.bt_json.specs.View.{view}
use Rattle.bt_replies.proofs.Replying.{plan_of_one}
use Rattle.bt_replies.specs.Lines.{request_refusal_line}
use Rattle.bt_plans.specs.Replies.{refused_by}
use Rattle.bt_requests.specs.Requests.{request_in}
use Rattle.bt_replies.proofs.planning.asked_plan.Goals as goal

pub returns-in-Err : goal.returns-in-Err
returns-in-Err c =
    let is : request_in c.args.method (view c.args.object.now.value) ≡ Err c.in-Err.refusal = search rules in
    rw is (plan_of_one c.args.present.now (refused_by (request_refusal_line c.in-Err.refusal)) c.refusal_plan.result c.refusal_plan.ensures)
