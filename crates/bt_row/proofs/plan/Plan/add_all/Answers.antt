use Rattle.std.proofs.Common.{◌≡◌, ◌∷◌, ◌∙◌, rules}
use Rattle.std.specs.Vec.Iter.{into_iter_items}
use Rattle.bt_row.specs.Plans.{planned, value_after}
use Rattle.bt_row.proofs.Plans.{same_values}
use Rattle.bt_row.proofs.plan.Plan.add_all.Goals as goal

-- the mutation at hand is planned
pub loop-mutation-preserved : goal.loop-mutation-preserved
loop-mutation-preserved c =
    let step : into_iter_items c.loop-mutation.mutation-iterator ≡ c.in-Some.mutation ∷ into_iter_items c.next.new.self = search rules in
    let es = c.args.cells.now.entries in (
      tt,
      tt,
      (rw step at c.loop-mutation.invariant.2).1,
      c.in_ok-add.ensures.plan,
      λ k. same_values (into_iter_items c.next.new.self) (planned c.add.new.self es) (value_after c.in-Some.mutation (planned c.loop-mutation.self es)) k (c.in_ok-add.ensures.ok k) ∙ (rw step at c.loop-mutation.invariant.4) k,
    )
