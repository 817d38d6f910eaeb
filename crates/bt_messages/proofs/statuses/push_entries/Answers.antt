use Rattle.std.proofs.Common.{arith, ◌∙◌}
use Rattle.bt_messages.proofs.StatusTexts.{entries_end, entries_step}
use Rattle.bt_messages.proofs.statuses.push_entries.Goals as goal

pub loop-index-preserved : goal.loop-index-preserved
loop-index-preserved c =
    let step = entries_step c.loop-index.out.items _ c.loop-index.index c.index-statuses-index.result c.args.statuses.now c.loop-index-test.true c.index-statuses-index.is c.loop-index.invariant in
    rw c.in_ok-push_entry.ensures step

pub returns : goal.returns
returns c = c.in_ok-push.ensures.items ∙ entries_end c.loop-index.out.items _ c.loop-index.index c.args.statuses.now (omega arith) c.loop-index.invariant
