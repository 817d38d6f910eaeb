use Rattle.std.proofs.Common.{◌≡◌, length, is_some}
use Rattle.bt_text.specs.Bytes.{bytes_of_text}
use Rattle.bt_text.proofs.base64_form.is_base64.Given as goal

abbrev pub invariant-loop-rest : goal.invariant-loop-rest
invariant-loop-rest l = is_some (bytes_of_text l.rest) ≡ is_some (bytes_of_text l.text)

abbrev pub decreases-loop-rest : goal.decreases-loop-rest
decreases-loop-rest l = length l.rest
