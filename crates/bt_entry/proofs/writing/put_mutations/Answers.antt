use Rattle.bt_entry.specs.Grammar.{IsWritableMutation}
use Rattle.bt_codec.proofs.Items.{at_item}
use Rattle.bt_entry.proofs.writing.put_mutations.Goals as goal

pub put_mutation-requires : goal.put_mutation-requires
put_mutation-requires c = rw c.mutation-item.is (at_item IsWritableMutation _ _ c.loop-mutation.mutation-index _ c.requires.2 c.items-mutations.ensures c.loop-mutation-test.true)
