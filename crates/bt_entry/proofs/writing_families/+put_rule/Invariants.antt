use Rattle.std.proofs.Common.{◌≡◌, ◌+◌, ◌*◌, true, ◌++◌, length, map, take}
use Rattle.std.specs.Int.{w8, to_be_bytes}
use Rattle.std.specs.List.{flat_map, sum}
use Rattle.bt_rules.specs.Rules.{all_of, count_of}
use Rattle.bt_entry.specs.Grammar.{rule_fits}
use Rattle.bt_entry.specs.Spelling.{rule}
use Rattle.bt_entry.proofs.writing_families.+put_rule.Given as goal

abbrev pub decreases-put_rule : goal.decreases-put_rule
decreases-put_rule l = 2 * count_of l.r.now

abbrev pub decreases-put_rules : goal.decreases-put_rules
decreases-put_rules l = 2 * sum (map count_of l.rules.now) + 1

abbrev pub invariant-put_rules-loop-rule : goal.invariant-put_rules-loop-rule
invariant-put_rules-loop-rule l = record {
  spelled : l.out.items ≡ l.fn.out.items ++ (to_be_bytes w8 (length l.rules) ++ flat_map rule (take l.rule-index l.rules));
  fits : all_of (map rule_fits (take l.rule-index l.rules)) ≡ true;
}
