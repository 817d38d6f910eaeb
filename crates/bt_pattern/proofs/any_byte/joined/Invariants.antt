use Rattle.std.proofs.Common.{◌≡◌, ◌++◌, drop, string_bytes}
use Rattle.std.specs.Prelude.{encode_utf8_all}
use Rattle.bt_pattern.specs.AnyByte.{rewrite}
use Rattle.bt_pattern.specs.declared.any_byte.Place.TheVariants.{Outside}
use Rattle.bt_pattern.proofs.any_byte.joined.Given as goal

abbrev pub invariant-loop-letter : goal.invariant-loop-letter
invariant-loop-letter l =
    string_bytes l.out ++ encode_utf8_all (rewrite l.place (drop l.letter-index l.letters)) ≡ encode_utf8_all (rewrite Outside l.letters)
