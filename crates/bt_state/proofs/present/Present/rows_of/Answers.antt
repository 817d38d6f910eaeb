use Rattle.std.proofs.Common.{subst}
use Rattle.bt_state.specs.State.{AreRowKeys, Present, rows_of}
use Rattle.bt_state.proofs.Reached.{keyed_rows}
use Rattle.bt_state.proofs.present.Present.rows_of.Goals as goal

pub returns-clause-keyed : goal.returns-clause-keyed
returns-clause-keyed c =
    subst (λ (p : Present). AreRowKeys (rows_of c.args.incarnation p.contents)) c.self.view_is (keyed_rows c.args.incarnation c.self.inside.contents c.self.invariant.keyed)
