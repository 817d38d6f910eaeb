use Rattle.std.proofs.Common.{◌≡◌, ◌-◌}
use Rattle.bt_entry.specs.Reading.{mutations_at}
use Rattle.bt_codec.proofs.Many.{with_front}
use Rattle.bt_entry.proofs.mutations.mutations_at.Given as goal

abbrev pub invariant-loop : goal.invariant-loop
invariant-loop l = with_front l.mutations (mutations_at (l.count - l.counter) l.rest) ≡ mutations_at l.count l.bytes
