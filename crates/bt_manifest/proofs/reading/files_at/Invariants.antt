use Rattle.std.proofs.Common.{◌≡◌, ◌-◌}
use Rattle.bt_manifest.specs.Reading.{files_at}
use Rattle.bt_codec.proofs.Many.{with_front}
use Rattle.bt_manifest.proofs.reading.files_at.Given as goal

abbrev pub invariant-loop : goal.invariant-loop
invariant-loop l = with_front l.files (files_at (l.count - l.counter) l.rest) ≡ files_at l.count l.bytes
