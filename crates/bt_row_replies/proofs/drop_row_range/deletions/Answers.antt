use Rattle.std.proofs.Common.{◌≡◌, rules, arith, ◌∙◌}
use Rattle.std.proofs.lemmas.List.{length_push}
use Rattle.bt_row_replies.proofs.Cutting.{all_push, numbered_push}
use Rattle.bt_row_replies.specs.Drops.{IsKey, deletion_of, with_item}
use Rattle.bt_plans.specs.Replies.{event}
use Rattle.bt_state.specs.State.{numbered}
use Rattle.bt_row_replies.proofs.drop_row_range.deletions.Goals as goal

pub loop-key-preserved : goal.loop-key-preserved
loop-key-preserved c =
    let t = c.args.table.now in
    let key = c.in-Some.key in
    let put : c.put.new.records.items ≡ with_item 1000 c.loop-key.records.items (numbered c.loop-key.sequence (event c.args.moment (deletion_of t key))) = search rules in
    record {
      records = put ∙ numbered_push 1000 c.args.first c.args.moment c.loop-key.sequence (deletion_of t) c.loop-key.yielded key c.loop-key.records.items c.loop-key.invariant.records c.loop-key.invariant.sequence;
      sequence = omega (arith, length_push c.loop-key.yielded key, c.loop-key.invariant.sequence);
      keys = all_push IsKey c.loop-key.yielded key c.loop-key.invariant.keys c.in_ok-entry.ensures.key;
    }
