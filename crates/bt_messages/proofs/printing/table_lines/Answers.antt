use Rattle.std.proofs.Common.{ap, ◌∙◌}
use Rattle.serde_json.specs.Written.{has_float}
use Rattle.bt_messages.proofs.NoFloats.{table_plain}
use Rattle.bt_messages.proofs.printing.table_lines.Goals as goal

pub line-requires : goal.line-requires
line-requires c = ap has_float c.in_ok-value.ensures ∙ table_plain c.args.table.now
