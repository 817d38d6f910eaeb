use Rattle.std.proofs.Common.{[], ◌∷◌, ◌++◌, ap, ◌∙◌, arith}
use Rattle.serde_json.specs.Written.{compact_text}
use Rattle.bt_messages.specs.Lines.{status_members}
use Rattle.bt_messages.proofs.StatusTexts.{entry_spelled}
use Rattle.bt_messages.proofs.statuses.push_entry.Goals as goal

pub returns : goal.returns
returns c =
    let status = c.args.status.now in
    let placed = ap (λ s. s ++ compact_text (status_members status.code status.text)) c.in_ok-push_place.ensures in
    let said = ap (λ s. s ++ 125 ∷ []) (c.in_ok-push_status.ensures ∙ placed) in
    c.in_ok-push.ensures.items ∙ said ∙ entry_spelled c.args.out.now.items c.args.index status (omega arith)
