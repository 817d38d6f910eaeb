use Rattle.bt_filter_run.specs.Steps.{filter_of}
use Rattle.bt_filter_run.proofs.Runs.{given_in_order}
use Rattle.bt_filter_run.proofs.node.Node.cells_of.Goals as goal

pub merged-requires-clause-first : goal.merged-requires-clause-first
merged-requires-clause-first c = (given_in_order c.in_ok-given.given (filter_of c.self.inside.step) c.args.key.now c.args.cells c.requires c.in_ok-given.ensures.given).0

pub merged-requires-clause-second : goal.merged-requires-clause-second
merged-requires-clause-second c = (given_in_order c.in_ok-given.given (filter_of c.self.inside.step) c.args.key.now c.args.cells c.requires c.in_ok-given.ensures.given).1
