use Rattle.std.proofs.Common.{◌∙◌}
use Rattle.bt_pattern.proofs.Rewriting.{rewritten_from_letters}
use Rattle.bt_pattern.proofs.any_byte.rewritten.Goals as goal

pub returns : goal.returns
returns c = c.in_ok-out.ensures ∙ rewritten_from_letters c.args.text.now _ c.utf8.text (c.as_slice.ensures.value ∙ c.in_ok-letters.ensures)
