use Rattle.std.proofs.Common.{◌≡◌, ◌∷◌, ◌∙◌, rules}
use Rattle.std.specs.Vec.Iter.{into_iter_items}
use Rattle.std.proofs.lemmas.List.Elements.{All-tail}
use Rattle.bt_row.specs.Extents.{IsTimed}
use Rattle.bt_row.specs.Plans.{planned}
use Rattle.bt_row.proofs.Plans.{drop_one}
use Rattle.bt_row.proofs.plan.Plan.drop_all.Goals as goal

-- the key at hand is dropped
pub loop-key-preserved : goal.loop-key-preserved
loop-key-preserved c =
    let step : into_iter_items c.loop-key.key-iterator ≡ c.in-Some.key ∷ into_iter_items c.next.new.self = search rules in
    let es = c.args.cells.now.entries in (
      tt,
      tt,
      c.in_ok-put.ensures.plan,
      All-tail IsTimed c.in-Some.key _ (rw step at c.loop-key.invariant.3),
      λ k. drop_one c.in-Some.key (into_iter_items c.next.new.self) (planned c.loop-key.self es) (planned c.put.new.self es) c.in_ok-put.ensures.ok k ∙ (rw step at c.loop-key.invariant.4) k,
    )
