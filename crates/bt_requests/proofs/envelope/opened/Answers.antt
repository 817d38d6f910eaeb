use Rattle.std.proofs.Common.{sym, subst}
use Rattle.bt_json.specs.View.{view}
use Rattle.bt_requests.specs.Order.{InOrder}
use Rattle.bt_requests.proofs.InOrder.{request_in_order}
use Rattle.bt_requests.proofs.envelope.opened.Goals as goal

pub invariant_of-result : goal.invariant_of-result
invariant_of-result c =
    record { in_order = ∣ subst InOrder (sym c.request_in_envelope-request.ensures) (request_in_order (view c.args.value) c.requires.in_order) ∣₁ }
