use Rattle.std.proofs.Common.{◌≡◌, refl, rules}
use Rattle.std.specs.Prelude.{Err}
use Rattle.bt_replies.specs.Lines.{envelope_refusal}
use Rattle.bt_plans.specs.Replies.{refused}
use Rattle.bt_requests.specs.Envelopes.{envelope_of}
use Rattle.bt_replies.proofs.planning.planned.Goals as goal

pub returns : goal.returns
returns c =
    let is : envelope_of c.args.line.now ≡ Err c.in-Err.refusal = search rules in
    rw is (refused (envelope_refusal c.in-Err.refusal), refl, search rules)
