use Rattle.std.proofs.Common.{◌≡◌, rules}
use Rattle.bt_row.proofs.Plans.{wanted_among, wanted_keys}
use Rattle.bt_row.proofs.plan.Plan.new_keys.Goals as goal

pub returns : goal.returns
returns c =
    let all : c.loop-key.keys.items ≡ wanted_keys c.args.self.now.outcomes.entries = search rules in
    wanted_among c.args.self.now.outcomes.entries c.into_iter-key-iterator.ensures.into_iter_gives.5 c.loop-key.keys.items all
