use Rattle.std.proofs.Common.{ap, ◌∙◌}
use Rattle.serde_json.specs.Written.{has_float}
use Rattle.bt_messages.proofs.NoFloats.{shown_plain}
use Rattle.bt_messages.proofs.printing.value_line.Goals as goal

pub line-requires : goal.line-requires
line-requires c = ap has_float c.in_ok-value.ensures ∙ shown_plain c.args.response.now c.requires
