use Rattle.std.proofs.Common.{rules}
use Rattle.std.proofs.lemmas.List.{map-append}
use Rattle.std.proofs.lemmas.List.Sorted.{answers_always}
use Rattle.bt_messages.specs.Rows.{is_same_column, shown_column}
use Rattle.bt_messages.proofs.Runs.{goes_on}
use Rattle.bt_messages.proofs.row_value.column_values.Goals as goal

pub loop-column-preserved : goal.loop-column-preserved
loop-column-preserved c =
    let steps = c.in-Some.ensures.steps in
    let run = (steps.2 is_same_column (answers_always _ _ _ (λ f a r f' k. search rules))).1 in
    let more = goes_on is_same_column shown_column _ _ _ _ _ steps.0 steps.1 run c.loop-column.invariant in
    rw (c.in_ok-push.ensures.items, map-append, c.in_ok-item.ensures) more
