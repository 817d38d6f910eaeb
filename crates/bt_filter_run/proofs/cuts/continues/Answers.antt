use Rattle.std.proofs.Common.{rules, ◌-◌, length, refl, sym, ◌∙◌}
use Rattle.bt_filter_run.proofs.Columns.{continues_last}
use Rattle.bt_filter_run.proofs.cuts.continues.Goals as goal

pub returns-in-Some : goal.returns-in-Some
returns-in-Some c =
    c.are_of_one_column.ensures ∙ sym (continues_last c.args.before.now (length c.args.before.now - 1) c.in-Some.last.now c.args.cell.now refl (search rules))
