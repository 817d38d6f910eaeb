use Rattle.std.proofs.Common.{[], arith}
use Rattle.bt_codec.proofs.Items.{at_item, each_of_all}
use Rattle.bt_entry.proofs.Parts.{HasLawfulName, HasLawfulRule, ascend_from, rules_of}
use Rattle.bt_entry.proofs.writing_families.put_families.Goals as goal

pub put_family-requires : goal.put_family-requires
put_family-requires c = rw c.family-item.is (at_item HasLawfulRule _ _ c.loop-family.family-index _ (rules_of [] _ c.requires.1) c.items-families.ensures c.loop-family-test.true)

pub returns-clause-spellable : goal.returns-clause-spellable
returns-clause-spellable c = (
  c.requires.0,
  ascend_from c.args.families.now c.requires.1
      (each_of_all HasLawfulName c.items-families.result.now c.args.families.now c.loop-family.family-index c.items-families.ensures (omega (arith, c.loop-family-test.false)) c.loop-family.invariant.lawful),
)
