use Rattle.std.proofs.Common.{◌≡◌, ◌++◌, length, take}
use Rattle.std.specs.Int.{w32, to_be_bytes}
use Rattle.std.specs.List.{flat_map, AllByRecursion}
use Rattle.bt_entry.specs.Grammar.{IsSpellableNumbered, RulesFitIn}
use Rattle.bt_entry.specs.Spelling.{numbered}
use Rattle.bt_entry.proofs.writing.put_batch.Given as goal

abbrev pub invariant-loop-numbered : goal.invariant-loop-numbered
invariant-loop-numbered l = record {
  spelled : l.out.items ≡ l.fn.out.items ++ (to_be_bytes w32 (length l.batch) ++ flat_map numbered (take l.numbered-index l.batch));
  spellable : AllByRecursion IsSpellableNumbered (take l.numbered-index l.batch);
  fits : AllByRecursion (λ n. RulesFitIn n.entry) (take l.numbered-index l.batch);
}
