use Rattle.std.proofs.Common.{◌≡◌, ◌∷◌, ◌∙◌, [], rules, arith}
use Rattle.std.specs.Vec.Iter.{into_iter_items}
use Rattle.std.proofs.lemmas.List.{nil_from_length}
use Rattle.bt_row.specs.Plans.{value_after, value_at}
use Rattle.bt_row.proofs.Laws.{applied_values}
use Rattle.bt_row.proofs.Plans.{same_values}
use Rattle.bt_row.proofs.row.Row.apply.Goals as goal

-- the mutation at hand is made
pub loop-mutation-preserved : goal.loop-mutation-preserved
loop-mutation-preserved c =
    let step : into_iter_items c.loop-mutation.mutation-iterator ≡ c.in-Some.mutation ∷ into_iter_items c.next.new.self = search rules in
    let before = value_at c.loop-mutation.self.cells.entries in
    let after = value_at c.apply_one.new.self.cells.entries in (
      tt,
      tt,
      (rw step at c.loop-mutation.invariant.2).1,
      c.apply_one.ensures.sound,
      λ k. same_values (into_iter_items c.next.new.self) after (value_after c.in-Some.mutation before) k (c.in_ok-apply_one.ensures.values k) ∙ (rw step at c.loop-mutation.invariant.4) k,
    )

-- the cells have the values that the mutations leave
pub returns-clause-ok : goal.returns-clause-ok
returns-clause-ok c =
    let es = c.args.self.now.cells.entries in
    let fs = c.loop-mutation.self.cells.entries in
    let ok = c.loop-mutation.mutation-iterator.rest.ok in
    let at_end = c.in-None.ensures.steps.0 in
    let bare : into_iter_items c.loop-mutation.mutation-iterator ≡ [] = nil_from_length _ (omega arith) in
    let all : into_iter_items c.into_iter-mutation-iterator.result ≡ c.args.mutations = search rules in
    applied_values c.args.mutations es fs c.requires.sound.sorted c.loop-mutation.invariant.3.sorted (rw (bare, all) at c.loop-mutation.invariant.4)
