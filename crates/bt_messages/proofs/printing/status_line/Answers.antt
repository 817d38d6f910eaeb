use Rattle.std.proofs.Common.{ap, ◌∙◌}
use Rattle.serde_json.specs.Written.{has_float}
use Rattle.bt_messages.proofs.NoFloats.{status_plain}
use Rattle.bt_messages.proofs.printing.status_line.Goals as goal

pub line-requires : goal.line-requires
line-requires c = ap has_float c.in_ok-value.ensures ∙ status_plain c.args.code c.args.text.now
