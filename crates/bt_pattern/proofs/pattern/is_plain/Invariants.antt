use Rattle.std.proofs.Common.{◌≡◌, drop}
use Rattle.bt_pattern.specs.Patterns.{is_plain}
use Rattle.bt_pattern.proofs.pattern.is_plain.Given as goal

abbrev pub invariant-loop-byte : goal.invariant-loop-byte
invariant-loop-byte l = is_plain (drop l.byte-index l.text) ≡ is_plain l.text
