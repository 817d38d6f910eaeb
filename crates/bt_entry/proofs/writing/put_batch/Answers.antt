use Rattle.bt_entry.specs.Grammar.{IsWritableNumbered}
use Rattle.bt_codec.proofs.Items.{at_item}
use Rattle.bt_entry.proofs.writing.put_batch.Goals as goal

pub put_numbered-requires : goal.put_numbered-requires
put_numbered-requires c = rw c.numbered-item.is (at_item IsWritableNumbered _ _ c.loop-numbered.numbered-index _ c.requires.2 c.items-batch.ensures c.loop-numbered-test.true)
