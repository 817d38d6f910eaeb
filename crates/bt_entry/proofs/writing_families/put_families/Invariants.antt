use Rattle.std.proofs.Common.{◌≡◌, ◌++◌, length, take}
use Rattle.std.specs.Int.{w16, to_be_bytes}
use Rattle.std.specs.List.{flat_map, AllByRecursion}
use Rattle.bt_entry.specs.Grammar.{RulesFit}
use Rattle.bt_entry.specs.Spelling.{family}
use Rattle.bt_entry.proofs.Parts.{HasLawfulName}
use Rattle.bt_entry.proofs.writing_families.put_families.Given as goal

abbrev pub invariant-loop-family : goal.invariant-loop-family
invariant-loop-family l = record {
  spelled : l.out.items ≡ l.fn.out.items ++ (to_be_bytes w16 (length l.families) ++ flat_map family (take l.family-index l.families));
  lawful : AllByRecursion HasLawfulName (take l.family-index l.families);
  fits : RulesFit (take l.family-index l.families);
}
