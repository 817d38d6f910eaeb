use Rattle.std.proofs.Common.{◌≡◌, ◌<◌, List, cond, take, length, ap, arith, rules}
use Rattle.bt_types.specs.declared.cell.Cell.{Cell}
use Rattle.bt_filter_run.specs.Columns.{continues}
use Rattle.bt_filter_run.proofs.Columns.{columns_push, columns_skip, counted_anew, counted_on}
use Rattle.bt_filter_run.proofs.cuts.first_of_columns.Goals as goal
use Rattle.bt_filter_run.proofs.cuts.first_of_columns.Goals.{then-not-continues, else-not-continues, then-count-most, else-count-most}

pub loop-place-preserved : goal.loop-place-preserved
loop-place-preserved c =
    let ys : List Cell = c.loop-place.cells.items in
    let x : Cell = c.index.result.now in
    let place : c.loop-place.place < length ys = omega (arith, c.loop-place.invariant.long, ap length c.into_vec-cells.ensures) in
    let now : c.if-not-continues.count ≡ cond (continues (take c.loop-place.kept ys) x) c.loop-place.count 0 = elim c.if-not-continues.branch [
      | then-not-continues w ↦ counted_anew (continues (take c.loop-place.kept ys) x) _ c.loop-place.count (search rules) w.count-is
      | else-not-continues w ↦ counted_on (continues (take c.loop-place.kept ys) x) _ c.loop-place.count (search rules) w.count-is
    ] in
    elim c.if-count-most.branch [
      | then-count-most w ↦ rw (w.cells-is, w.kept-is, w.count-is)
          (columns_push c.args.most c.args.cells ys _ c.loop-place.kept c.loop-place.count c.if-not-continues.count c.loop-place.place x c.requires c.loop-place.invariant place c.index.ensures now w.if-count-most.true w.swap.ensures.by_index)
      | else-count-most w ↦ rw (w.cells-is, w.kept-is, w.count-is)
          (columns_skip c.args.most c.args.cells ys c.loop-place.kept c.loop-place.count c.if-not-continues.count c.loop-place.place x c.requires c.loop-place.invariant place c.index.ensures now w.if-count-most.false)
    ]
