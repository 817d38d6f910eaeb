use Rattle.std.proofs.Common.{◌≡◌, Some, false, cond, rules}
use Rattle.std.specs.Prelude.{is_some}
use Rattle.std.specs.BTreeMap.{is_at}
use Rattle.bt_rmw.specs.declared.column.Column.{Column}
use Rattle.bt_rmw.specs.Columns.{column_order}
use Rattle.bt_rmw.specs.Held.{held_at, stamped}
use Rattle.bt_rmw.proofs.Keys.{column_in}
use Rattle.bt_rmw.proofs.Held.{added}
use Rattle.bt_rmw.proofs.outcome.add_later.Goals as goal

pub returns : goal.returns
returns c =
    let old = c.args.latest.now.entries in
    let new = c.insert.new.self.entries in
    let put : (k : Column) → held_at new k ≡ cond (is_at (column_order (column_in c.args.cell)) k) (Some (stamped c.args.cell)) (held_at old k) = λ k. search (rules, c.in_ok-insert.ensures.updates.0 k) in
    let none : is_some (held_at old (column_in c.args.cell)) ≡ false = search rules in
    added c.args.cell old new put none
