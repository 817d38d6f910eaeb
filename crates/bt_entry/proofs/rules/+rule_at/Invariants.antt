use Rattle.std.proofs.Common.{◌≡◌, ◌+◌, ◌-◌, ◌*◌, length}
use Rattle.std.specs.List.{fold}
use Rattle.bt_codec.specs.Reading.{many_at}
use Rattle.bt_entry.specs.Reading.{rule_at, left_behind}
use Rattle.bt_codec.proofs.Many.{with_front}
use Rattle.bt_entry.proofs.rules.+rule_at.Given as goal

abbrev pub decreases-rule_at : goal.decreases-rule_at
decreases-rule_at l = 4 * l.levels

abbrev pub decreases-node_at : goal.decreases-node_at
decreases-node_at l = 4 * l.levels + 3

abbrev pub decreases-parts_at : goal.decreases-parts_at
decreases-parts_at l = 4 * l.levels + 2

abbrev pub decreases-rules_at : goal.decreases-rules_at
decreases-rules_at l = 4 * l.levels + 1

abbrev pub invariant-rules_at-loop : goal.invariant-rules_at-loop
invariant-rules_at-loop l = record {
  read : with_front l.rules (many_at (rule_at l.levels) left_behind l.nodes (l.count - l.counter) l.rest) ≡ many_at (rule_at l.levels) left_behind l.left l.count l.bytes;
  nodes : l.nodes ≡ fold left_behind l.left l.rules;
  counted : length l.rules ≡ l.counter;
}
