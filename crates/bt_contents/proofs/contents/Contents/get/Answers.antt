use Rattle.std.proofs.Common.{◌≡◌, [], subst}
use Rattle.std.specs.Prelude.{IfNone, IfSome}
use Rattle.bt_contents.specs.Contents.{Contents, keyed_at}
use Rattle.bt_row.specs.Sound.{IsHeld}
use Rattle.bt_contents.proofs.Rows.{got_none, got_row}
use Rattle.bt_contents.proofs.contents.Contents.get.Goals as goal

pub returns-clause-found : goal.returns-clause-found
returns-clause-found c =
    let rows = c.self.inside.rows.entries in
    let k = c.args.key.now in
    subst (λ (s : Contents). IfSome c.get.result (λ row. IsHeld row.now × (keyed_at k s ≡ row.now.cells.entries))) c.self.view_is (got_row k rows c.get.result c.self.invariant c.get.ensures.value c.get.ensures.member)

pub returns-clause-absent : goal.returns-clause-absent
returns-clause-absent c =
    let rows = c.self.inside.rows.entries in
    let k = c.args.key.now in
    subst (λ (s : Contents). IfNone c.get.result (keyed_at k s ≡ [])) c.self.view_is (got_none k rows c.get.result c.get.ensures.value)
