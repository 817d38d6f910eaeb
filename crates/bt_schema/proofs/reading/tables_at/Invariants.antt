use Rattle.std.proofs.Common.{◌≡◌, ◌-◌}
use Rattle.bt_codec.specs.Reading.{many_at}
use Rattle.bt_codec.proofs.Many.{with_front}
use Rattle.bt_schema.specs.Grammar.{behind}
use Rattle.bt_schema.specs.Reading.{table_behind_at, tables_at}
use Rattle.bt_schema.proofs.Ends.{Ascend}
use Rattle.bt_schema.proofs.reading.tables_at.Given as goal

abbrev pub invariant-loop : goal.invariant-loop
invariant-loop l = record {
  read : with_front l.schema (many_at table_behind_at behind l.schema (l.count - l.counter) l.rest) ≡ tables_at l.count l.bytes;
  ascend : Ascend l.schema;
}
