use Rattle.std.proofs.Common.{rules}
use Rattle.bt_pattern.proofs.Readings.{read_from_reads, readable_from_read, outside_from_refused}
use Rattle.bt_pattern.proofs.build.parsed.Goals as goal

pub returns-in-Ok-clause-read : goal.returns-in-Ok-clause-read
returns-in-Ok-clause-read c = read_from_reads _ _ _ _ (search rules) c.in-Ok.ensures.ok

pub returns-in-Err-clause-bad : goal.returns-in-Err-clause-bad
returns-in-Err-clause-bad c = λ bad. outside_from_refused _ _ _ (search rules) (c.refusal_of.ensures.bad bad) c.in-Err.ensures.err

pub returns-in-Ok-clause-readable : goal.returns-in-Ok-clause-readable
returns-in-Ok-clause-readable c = readable_from_read c.args.source.now _ (read_from_reads _ _ _ _ (search rules) c.in-Ok.ensures.ok)
