use Rattle.std.proofs.Common.{◌≡◌, ◌-◌}
use Rattle.bt_entry.specs.Grammar.{last_name, name_of}
use Rattle.bt_codec.specs.Reading.{many_at}
use Rattle.bt_entry.specs.Reading.{family_at, families_at}
use Rattle.bt_codec.proofs.Many.{with_front}
use Rattle.bt_entry.proofs.families.families_at.Given as goal

abbrev pub invariant-loop : goal.invariant-loop
invariant-loop l = with_front l.families (many_at family_at name_of (last_name l.families) (l.count - l.counter) l.rest) ≡ families_at l.count l.bytes
