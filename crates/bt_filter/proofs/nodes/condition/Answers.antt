use Rattle.bt_filter.proofs.Outcomes.{first_refused, second_refused, third_refused}
use Rattle.bt_filter.proofs.nodes.condition.Goals as goal

pub returns-in_err-predicate-clause-checked : goal.returns-in_err-predicate-clause-checked
returns-in_err-predicate-clause-checked c = λ node x y z h k l.
    first_refused c.args.predicate c.from_residual.result _ node x y z c.in_err-predicate.was c.from_residual.ensures.1 h

pub returns-in_err-matched-clause-checked : goal.returns-in_err-matched-clause-checked
returns-in_err-matched-clause-checked c = λ node x y z h k l.
    second_refused c.args.predicate c.args.matched c.from_residual-in_err-matched.result _ _ node x y z c.in_ok-predicate.was c.in_err-matched.was c.from_residual-in_err-matched.ensures.1 h k

pub returns-in_err-unmatched-clause-checked : goal.returns-in_err-unmatched-clause-checked
returns-in_err-unmatched-clause-checked c = λ node x y z h k l.
    third_refused c.args.predicate c.args.matched c.args.unmatched c.from_residual-in_err-unmatched.result _ _ _ node x y z
    c.in_ok-predicate.was c.in_ok-matched.was c.in_err-unmatched.was c.from_residual-in_err-unmatched.ensures.1 h k l
