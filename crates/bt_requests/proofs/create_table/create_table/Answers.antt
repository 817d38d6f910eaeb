use Rattle.std.proofs.Common.{sym, subst}
use Rattle.bt_json.specs.View.{view}
use Rattle.bt_requests.specs.Readers.{Ascend}
use Rattle.bt_requests.proofs.InOrder.{families_ascend_in}
use Rattle.bt_requests.proofs.create_table.create_table.Goals as goal

pub returns-clause-order : goal.returns-clause-order
returns-clause-order c = subst Ascend (sym c.in_ok-families.ensures) (families_ascend_in (view c.args.value.now) c.requires.in_order)
