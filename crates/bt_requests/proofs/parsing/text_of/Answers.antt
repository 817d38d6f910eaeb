use Rattle.std.proofs.Common.{Some, sym, ap, ◌∙◌}
use Rattle.bt_requests.proofs.Looks.{is_text, is_no_text}
use Rattle.bt_requests.proofs.parsing.text_of.Goals as goal

pub returns-in-Ok : goal.returns-in-Ok
returns-in-Ok c = ap Some c.in-Ok.ensures.cases.0 ∙ sym (is_text c.args.line.now c.in-Ok.ensures.cases.1)

pub returns-in-Err : goal.returns-in-Err
returns-in-Err c = sym (is_no_text c.args.line.now c.in-Err.ensures.cases.0)
