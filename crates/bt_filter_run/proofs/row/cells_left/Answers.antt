use Rattle.std.proofs.Common.{◌≤◌, ◌∙◌, length, rules, Some, subst}
use Rattle.std.proofs.lemmas.List.Elements.{All-push}
use Rattle.std.proofs.lemmas.Result.{err_from_is_err_and}
use Rattle.bt_types.specs.Sources.{GivesCell, GoesOnCell, Left}
use Rattle.bt_filter_run.proofs.Causes.{caused_since}
use Rattle.bt_filter_run.proofs.Rows.{cells_more, read_more, rows_stay}
use Rattle.bt_filter_run.proofs.row.cells_left.Goals as goal

pub loop-cells-preserved : goal.loop-cells-preserved
loop-cells-preserved g c =
    let so_far = c.loop-cells.invariant in
    let key = g.R.Rows.key_at_hand in
    let last = g.R.Rows.last_cell in
    let old : Left = g.R.Rows.left c.loop-cells.rows c.loop-cells.x in
    let new : Left = g.R.Rows.left c.next_cell.new.self c.next_cell.new.x in
    let order = subst (λ cell. GoesOnCell cell (key c.loop-cells.rows) (key c.next_cell.new.self) (last c.loop-cells.rows) (last c.next_cell.new.self)) c.in-Some.is c.in_ok-cell.ensures.order in
    let gives = λ (told : g.X.Reading.tells c.args.x.now).
    subst (λ cell. GivesCell cell old new) c.in-Some.is (c.in_ok-cell.ensures.gives (g.X.Reading.same_tells c.args.x.now c.loop-cells.x so_far.same told)) in
    record {
      same = g.X.Reading.same_steps c.args.x.now c.loop-cells.x c.next_cell.new.x so_far.same c.next_cell.ensures.same;
      most = search rules;
      read = rw (c.in_ok-push.ensures.ok, order.4) (read_more c.loop-cells.cells c.in-Some.cell (last c.loop-cells.rows) so_far.read order.0);
      short = rw c.in_ok-push.ensures.ok (All-push (λ cell. length cell.value ≤ 4194304) c.loop-cells.cells c.in-Some.cell so_far.short order.2);
      key = order.3 ∙ so_far.key;
      cells = λ told. cells_more c.loop-cells.cells c.push.new.self c.in-Some.cell old new (g.R.Rows.left c.args.rows.now c.args.x.now).cells c.in_ok-push.ensures.ok (gives told) (so_far.cells told);
      rows = λ told. rows_stay c.in-Some.cell old new (g.R.Rows.left c.args.rows.now c.args.x.now).rows (gives told) (so_far.rows told);
    }

pub returns-in_err-cell-clause-fault : goal.returns-in_err-cell-clause-fault
returns-in_err-cell-clause-fault g c =
    let so_far = c.loop-cells.invariant in
    let since = g.X.Reading.same_faults c.args.x.now c.loop-cells.x so_far.same in
    let p = err_from_is_err_and c.from_residual.result c.from_residual.ensures.1 in
    rw (p.1, p.2) (caused_since _ _ _ _ _ _ c.in_err-cell.field-0.0 since c.in_err-cell.ensures.fault)
