use Rattle.std.proofs.Common.{◌∙◌}
use Rattle.std.proofs.lemmas.Map.Keys.{sorted_tail}
use Rattle.bt_row.specs.declared.cell_key.CellKey.{CellKey}
use Rattle.bt_row.specs.declared.plan.Outcome.{Outcome}
use Rattle.bt_row.specs.Keys.{key_cmp}
use Rattle.bt_row.specs.Plans.{value_at}
use Rattle.bt_row.proofs.Plans.{first_value, places_left, settled}
use Rattle.bt_row.proofs.plan.settle_all.Goals as goal

-- a new value has a place
pub settle-requires : goal.settle-requires
settle-requires c =
    let places = rw c.in-Some.ensures.steps at c.loop-key.invariant.2 in
    rw (first_value (c.in-Some.key, c.in-Some.outcome) c.next.new.self) at (places c.in-Some.key)

pub loop-key-preserved : goal.loop-key-preserved
loop-key-preserved c =
    let step = c.in-Some.ensures.steps in
    let sorted = rw step at c.loop-key.invariant.1 in
    let e : CellKey × Outcome = (c.in-Some.key, c.in-Some.outcome) in
    let old = value_at c.loop-key.cells.entries in
    let new = value_at c.settle.new.cells.entries in (
      tt,
      sorted_tail key_cmp _ _ sorted,
      places_left e c.next.new.self sorted old new c.settle.ensures.value (rw step at c.loop-key.invariant.2),
      c.settle.ensures.sorted,
      λ k. settled e c.next.new.self sorted old new c.settle.ensures.value k ∙ (rw step at c.loop-key.invariant.4) k,
    )
