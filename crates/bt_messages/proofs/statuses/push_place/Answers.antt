use Rattle.std.proofs.Common.{◌++◌, ap, ◌∙◌, arith, decimal}
use Rattle.std.specs.Prelude.{codes}
use Rattle.bt_messages.proofs.StatusTexts.{first_place, later_place}
use Rattle.bt_messages.proofs.statuses.push_place.Goals as goal

pub returns-then-index-eq0 : goal.returns-then-index-eq0
returns-then-index-eq0 c = c.in_ok-extend_from_slice.ensures.items ∙ first_place c.args.out.now.items c.args.index (omega arith)

pub returns : goal.returns
returns c =
    let begun = ap (λ s. s ++ decimal c.args.index) c.in_ok-extend_from_slice-2.ensures.items in
    let numbered = ap (λ s. s ++ codes "\",\"status\":") (c.in_ok-push_number.ensures ∙ begun) in
    c.in_ok-extend_from_slice-3.ensures.items ∙ numbered ∙ later_place c.args.out.now.items c.args.index (λ e. omega arith)
