use Rattle.std.proofs.Common.{refl}
use Rattle.bt_filter.proofs.Outcomes.{outcome_left, outcome_right}
use Rattle.bt_filter.proofs.nodes.pushed.Goals as goal

pub returns-in_err-list-clause-checked : goal.returns-in_err-list-clause-checked
returns-in_err-list-clause-checked c = λ node a b h k. outcome_left c.args.list c.from_residual.result _ node a b c.in_err-list.was c.from_residual.ensures.1 h

pub returns-in_err-filter-clause-checked : goal.returns-in_err-filter-clause-checked
returns-in_err-filter-clause-checked c = λ node a b h k.
    outcome_right c.args.list c.args.filter c.from_residual-in_err-filter.result _ _ node _ a b c.in_ok-list.was c.in_err-filter.was c.from_residual-in_err-filter.ensures.1 refl h k
