use Rattle.std.proofs.Common.{◌≡◌, ◌+◌, ◌-◌}
use Rattle.bt_entry.specs.Reading.{entries_at}
use Rattle.bt_codec.proofs.Many.{with_front}
use Rattle.bt_entry.proofs.reading.entries_at.Given as goal

abbrev pub invariant-loop-i : goal.invariant-loop-i
invariant-loop-i l = with_front l.batch (entries_at (l.first + l.i) (l.count - l.i) l.rest) ≡ entries_at l.first l.count l.bytes
