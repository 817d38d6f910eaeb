use Rattle.std.proofs.Common.{length, ap, arith}
use Rattle.bt_log.proofs.Sizes.{entries_few}
use Rattle.bt_log.proofs.records.next_record.Goals as goal

pub returns-in-Ok-clause-shorter : goal.returns-in-Ok-clause-shorter
returns-in-Ok-clause-shorter c =
    omega (arith, entries_few c.in-Ok.batch, ap length c.in-Ok.ensures.found.2, c.in-Some.ensures.parts, c.in-len1-up.len_at_least)
