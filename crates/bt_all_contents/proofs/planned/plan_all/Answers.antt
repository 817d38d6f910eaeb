use Rattle.std.proofs.Common.{◌≡◌, [], ◌∷◌, ◌∙◌, rules, arith}
use Rattle.std.specs.Vec.Iter.{into_iter_items}
use Rattle.std.proofs.lemmas.List.{nil_from_length}
use Rattle.bt_all_contents.specs.AllContents.{RowAt, all_planned, mutations_at}
use Rattle.bt_all_contents.proofs.AllRows.{change_planned}
use Rattle.bt_all_contents.proofs.planned.plan_all.Goals as goal

-- the change at hand is planned
pub loop-change-preserved : goal.loop-change-preserved
loop-change-preserved c =
    let step : into_iter_items c.loop-change.change-iterator ≡ c.in-Some.change ∷ into_iter_items c.next.new.self = search rules in
    let all = c.args.tables.now.entries in
    let olds = c.loop-change.planned in
    let news = c.add_change.new.planned in (
      tt,
      tt,
      (rw step at c.loop-change.invariant.2).1,
      c.in_ok-add_change.ensures.plans,
      c.in_ok-add_change.ensures.rows,
      λ a k. change_planned c.in-Some.change (λ (a : RowAt). mutations_at (into_iter_items c.next.new.self) a) (all_planned olds.plans.entries olds.new_rows.entries all) (all_planned news.plans.entries news.new_rows.entries all) c.in_ok-add_change.ensures.ok a k ∙ (rw step at c.loop-change.invariant.5) a k,
    )

-- all changes are planned
pub returns-clause-ok : goal.returns-clause-ok
returns-clause-ok c = λ a k.
    let ok = c.loop-change.change-iterator.rest.ok in let at_end = c.in-None.ensures.steps.0 in let done : into_iter_items c.loop-change.change-iterator ≡ [] = nil_from_length _ (omega arith) in
    let begun : into_iter_items c.into_iter-change-iterator.result ≡ c.args.changes = search rules in
    (rw (done, begun, c.new.ensures.empty, c.new-2.ensures.empty) at c.loop-change.invariant.5) a k
