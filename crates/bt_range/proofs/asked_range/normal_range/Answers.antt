use Rattle.bt_range.proofs.Orders.{made_rows}
use Rattle.bt_range.proofs.asked_range.normal_range.Goals as goal

pub returns-clause-rows : goal.returns-clause-rows
returns-clause-rows c = λ k lawful. made_rows c.args.asked.now c.in_ok-start.start c.in_ok-end.end c.in_ok-start.ensures c.in_ok-end.ensures k lawful
