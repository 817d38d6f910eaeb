use Rattle.std.proofs.Common.{None, Some, length}
use Rattle.bt_rules.proofs.Columns.{splits_nowhere, splits_again}
use Rattle.bt_rules.proofs.condemned.keep_count.Goals as goal

pub returns-in-Some-clause-again : goal.returns-in-Some-clause-again
returns-in-Some-clause-again c = λ keeps.
    rw c.in-Some.is (splits_again (Some c.in-Some.rule.now) c.args.moment c.args.column.now c.kept_by.result c.requires c.kept_by.ensures keeps)

pub returns-in-None-clause-exact : goal.returns-in-None-clause-exact
returns-in-None-clause-exact c = rw c.in-None.is (splits_nowhere c.args.moment c.args.column.now)

pub returns-in-None-clause-again : goal.returns-in-None-clause-again
returns-in-None-clause-again c = λ keeps.
    rw c.in-None.is (splits_again None c.args.moment c.args.column.now (length c.args.column.now) c.requires (splits_nowhere c.args.moment c.args.column.now) keeps)
