use Rattle.bt_row.proofs.Covering.{column_named}
use Rattle.bt_row.proofs.extent.Extent.of_column.Goals as goal

pub returns : goal.returns
returns c = column_named c.args.family c.args.qualifier c.args.start c.args.end c.latest_before-at.result c.latest_before-at.ensures
