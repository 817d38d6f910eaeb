use Rattle.std.proofs.Common.{◌≡◌}
use Rattle.std.specs.Prelude.{fold}
use Rattle.std.specs.Vec.Iter.{into_iter_items}
use Rattle.bt_contents.specs.Contents.{keys_with}
use Rattle.bt_table_replies.specs.Losses.{with_loss}
use Rattle.bt_table_replies.proofs.losses.add_losses.Given as goal

-- the rows that are left lead where all lead
abbrev pub invariant-loop-key : goal.invariant-loop-key
invariant-loop-key l = fold (with_loss l.family) l.all.entries (into_iter_items l.key-iterator) ≡ fold (with_loss l.family) l.initial.all.entries (keys_with l.family l.rows)
