use Rattle.std.proofs.Common.{◌++◌, ap, ◌∙◌}
use Rattle.std.specs.Prelude.{codes}
use Rattle.bt_messages.specs.Statuses.{entries_text}
use Rattle.bt_messages.proofs.StatusTexts.{none_spelled, some_spelled}
use Rattle.bt_messages.proofs.statuses.statuses_line.Goals as goal

pub returns-then-is_empty : goal.returns-then-is_empty
returns-then-is_empty c = c.in_ok-from_slice.ensures.items ∙ none_spelled c.args.statuses.now c.if-is_empty.ensures

pub returns : goal.returns
returns c =
    let begun = ap (λ s. s ++ entries_text 0 c.args.statuses.now) (c.in_ok-extend_from_slice.ensures.items ∙ ap (λ s. s ++ codes "{\"response\":{\"entries\":[") c.in_ok-out.ensures.items) in
    let written = ap (λ s. s ++ codes "}}\n") (c.in_ok-push_entries.ensures ∙ begun) in
    c.in_ok-extend_from_slice-2.ensures.items ∙ written ∙ some_spelled c.args.statuses.now c.if-is_empty.ensures
