use Rattle.std.proofs.Common.{◌≡◌, ◌-◌}
use Rattle.bt_manifest.specs.Grammar.{next_incarnation}
use Rattle.bt_codec.specs.Reading.{many_at}
use Rattle.bt_manifest.specs.Reading.{table_at, tables_at}
use Rattle.bt_codec.proofs.Many.{with_front}
use Rattle.bt_manifest.proofs.reading.tables_at.Given as goal

abbrev pub invariant-loop : goal.invariant-loop
invariant-loop l = with_front l.tables (many_at table_at next_incarnation l.least (l.count - l.counter) l.rest) ≡ tables_at l.count l.bytes
