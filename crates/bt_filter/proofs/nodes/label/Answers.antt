use Rattle.std.proofs.Common.{rules, ◌≡◌, false, sym, ap, ◌∙◌}
use Rattle.bt_types.specs.Grammar.{is_label}
use Rattle.bt_filter.proofs.Labels.{is_no_label}
use Rattle.bt_filter.proofs.nodes.label.Goals as goal

pub returns-in_default-clause-checked : goal.returns-in_default-clause-checked
returns-in_default-clause-checked c =
    let none : is_label c.args.text.now ≡ false = ap is_label (sym c.bytes.ensures) ∙ is_no_label c.bytes.result.now c.in_default.ensures.cases.0 in
    rw none (search rules)
