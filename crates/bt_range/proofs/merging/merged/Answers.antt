use Rattle.std.proofs.Common.{◌≡◌, ◌∷◌, ◌||◌, length, sym, ap, ◌∙◌, subst, arith}
use Rattle.std.specs.Vec.Iter.{into_iter_items}
use Rattle.bt_range.specs.RowSets.{AreApart, AreFilled, AreAscending, StartFirst, is_in_any}
use Rattle.bt_range.proofs.Merges.{merge_step, merge_end, none_first, step_starts, step_filled}
use Rattle.bt_range.proofs.merging.merged.Goals as goal

pub loop-range-init : goal.loop-range-init
loop-range-init c =
    let gives = c.into_iter-range-iterator.ensures.into_iter_gives in
    let all = into_iter_items c.into_iter-range-iterator.result in (
      subst AreApart (sym c.new-done.ensures.items) tt,
      subst AreFilled (sym gives.0) c.requires.filled,
      subst AreAscending (sym gives.0) c.requires.ascending,
      subst (λ done. StartFirst done all) (sym c.new-done.ensures.items) (none_first all),
      λ k. ap (λ done. is_in_any done k || is_in_any all k) c.new-done.ensures.items,
      gives.1 ∙ c.args.ranges.ok.0 ∙ ap length (sym gives.0),
    )

pub add-requires-clause-starts : goal.add-requires-clause-starts
add-requires-clause-starts c =
    let at = c.loop-range in
    let steps : into_iter_items at.range-iterator ≡ c.in-Some.range ∷ into_iter_items c.next.new.self = c.in-Some.ensures.steps.0 in
    step_starts at.done.items (into_iter_items at.range-iterator) (into_iter_items c.next.new.self) c.in-Some.range steps at.invariant.3

pub add-requires-clause-filled : goal.add-requires-clause-filled
add-requires-clause-filled c =
    let at = c.loop-range in
    let steps : into_iter_items at.range-iterator ≡ c.in-Some.range ∷ into_iter_items c.next.new.self = c.in-Some.ensures.steps.0 in
    step_filled (into_iter_items at.range-iterator) (into_iter_items c.next.new.self) c.in-Some.range steps at.invariant.1

pub loop-range-preserved : goal.loop-range-preserved
loop-range-preserved c =
    let at = c.loop-range in
    let steps : into_iter_items at.range-iterator ≡ c.in-Some.range ∷ into_iter_items c.next.new.self = c.in-Some.ensures.steps.0 in
    let added = c.in_ok-add.ensures in
    let next = merge_step at.done.items c.add.new.done.items (into_iter_items at.range-iterator) (into_iter_items c.next.new.self) c.in-Some.range (is_in_any (into_iter_items c.into_iter-range-iterator.result)) steps at.invariant.1 at.invariant.2 at.invariant.4 added.same added.starts in (
      added.apart,
      next.0,
      next.1,
      next.2,
      next.3,
      omega (arith, c.in-Some.ensures.steps.1, at.invariant.5, ap length steps),
    )

pub returns-clause-same : goal.returns-clause-same
returns-clause-same c =
    let at = c.loop-range in λ k.
    merge_end at.done.items (into_iter_items at.range-iterator) (is_in_any (into_iter_items c.into_iter-range-iterator.result)) (sym at.invariant.5 ∙ c.in-None.ensures.steps.0) at.invariant.4 k
    ∙ ap (λ rs. is_in_any rs k) c.into_iter-range-iterator.ensures.into_iter_gives.0
