use Rattle.std.proofs.Common.{◌≡◌, ◌∙◌, [], map, Some, rules, subst}
use Rattle.std.specs.Prelude.{IfSome}
use Rattle.std.specs.Ordering.{nat_cmp}
use Rattle.std.specs.Cmp.Lexicographic.{slice_cmp}
use Rattle.std.specs.declared.cmp.Ordering.TheVariants.{Less}
use Rattle.bt_types.specs.Sources.{Left}
use Rattle.bt_read.specs.Answers.{GivesFound, found_row}
use Rattle.bt_read.proofs.Finding.{IsPast, passed_over, past_more}
use Rattle.bt_read.proofs.rows_read.next_filled.Goals as goal

pub loop-row-preserved : goal.loop-row-preserved
loop-row-preserved g c =
    let so_far = c.loop-row.invariant in
    let row = c.in-Some.row in
    let key = g.R.Rows.key_at_hand in
    let now = c.loop-row.node in
    let old : Left = g.R.Rows.left c.loop-row.rows c.loop-row.x in
    let new : Left = g.R.Rows.left c.next_filtered.new.rows c.next_filtered.new.x in
    let none : row.cells ≡ [] = search rules in
    let order : IsPast (key c.loop-row.rows) row.key × (key c.next_filtered.new.rows ≡ Some row.key) =
    subst (λ found. IfSome found (λ r. IfSome (key c.loop-row.rows) (λ before. slice_cmp nat_cmp before r.key ≡ Less) × (key c.next_filtered.new.rows ≡ Some r.key))) c.in-Some.is c.in_ok-row.ensures.order in
    record {
      same = g.X.Reading.same_steps c.args.x.now c.loop-row.x c.next_filtered.new.x so_far.same c.next_filtered.ensures.same;
      most = search rules;
      node = c.next_filtered.ensures.node ∙ so_far.node;
      order = λ further past. so_far.order further (past_more (key c.loop-row.rows) (key c.next_filtered.new.rows) row.key further order.0 order.1 past);
      found = λ told.
          let told_now = g.X.Reading.same_tells c.args.x.now c.loop-row.x so_far.same told in
          let gives = subst (λ found. GivesFound found (map (found_row now) old.rows) (map (found_row now) new.rows)) c.in-Some.is (c.in_ok-row.ensures.gives told_now) in
          so_far.found told ∙ passed_over c.args.node.now now row old new so_far.node gives none;
    }
