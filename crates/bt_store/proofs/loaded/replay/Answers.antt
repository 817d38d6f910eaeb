use Rattle.std.proofs.Common.{◌≡◌, ◌∷◌, [], None, Some, length, ap, sym, subst, ◌∙◌, arith}
use Rattle.std.specs.List.{AllByRecursion}
use Rattle.std.specs.Vec.Iter.{into_iter_items}
use Rattle.std.proofs.lemmas.Result.{err_from_is_err_and}
use Rattle.bt_entry.specs.Grammar.{IsSpellableNumbered}
use Rattle.bt_state.specs.State.{Present}
use Rattle.bt_store.specs.Held.{base_state, follow}
use Rattle.bt_store.proofs.Loads.{Replays, begins, goes_on, refuses, ends, nothing_left, room, replay_turn}
use Rattle.bt_store.proofs.loaded.replay.Goals as goal

pub loop-numbered-init : goal.loop-numbered-init
loop-numbered-init c =
    let gives = c.into_iter-numbered-iterator.ensures.into_iter_gives in
    let items = gives.0 ∙ c.into_vec-numbered-items.ensures in (
      omega (arith, ap (λ (p : Present). p.floor) c.with_floor-present.ensures, c.requires.floor),
      begins c.args.snapshot.now _ c.with_floor-present.result c.requires.base (omega (arith, ap length items, c.requires.few)) (subst (AllByRecursion IsSpellableNumbered) (sym items) c.requires.spellable) c.with_floor-present.ensures,
      gives.1 ∙ c.into_vec-numbered-items.result.ok.0 ∙ ap length (sym gives.0),
    )

pub apply_next-requires-clause-room : goal.apply_next-requires-clause-room
apply_next-requires-clause-room c =
    let at = c.loop-numbered in
    let steps : into_iter_items at.numbered-iterator ≡ c.in-Some.numbered ∷ into_iter_items c.next.new.self = c.in-Some.ensures.steps.0 in
    room c.args.snapshot.now _ at.present c.in-Some.numbered _ (subst (Replays c.args.snapshot.now _ at.present) steps at.invariant.1)

pub apply_next-requires-clause-spellable : goal.apply_next-requires-clause-spellable
apply_next-requires-clause-spellable c =
    let at = c.loop-numbered in
    let steps : into_iter_items at.numbered-iterator ≡ c.in-Some.numbered ∷ into_iter_items c.next.new.self = c.in-Some.ensures.steps.0 in
    let here : Replays c.args.snapshot.now _ at.present (c.in-Some.numbered ∷ into_iter_items c.next.new.self) = subst (Replays c.args.snapshot.now _ at.present) steps at.invariant.1 in
    here.spellable.0

pub loop-numbered-preserved : goal.loop-numbered-preserved
loop-numbered-preserved c =
    let at = c.loop-numbered in
    let steps : into_iter_items at.numbered-iterator ≡ c.in-Some.numbered ∷ into_iter_items c.next.new.self = c.in-Some.ensures.steps.0 in
    let here : Replays c.args.snapshot.now _ at.present (c.in-Some.numbered ∷ into_iter_items c.next.new.self) = subst (Replays c.args.snapshot.now _ at.present) steps at.invariant.1 in
    let some = c.in_ok-apply_next.ensures.some in (
      omega (arith, ap (λ (p : Present). p.floor) some.1, here.spellable.0.0),
      goes_on c.args.snapshot.now _ at.present c.in-Some.numbered _ c.apply_next.new.present here some.0 some.1,
      let was = at.invariant.2 in
          let gone = c.in-Some.ensures.steps.1 in
          let short = ap length steps in
          omega arith,
    )

pub returns-in_err-apply_next-clause-fault : goal.returns-in_err-apply_next-clause-fault
returns-in_err-apply_next-clause-fault c =
    let p = err_from_is_err_and c.from_residual.result c.from_residual.ensures.1 in
    let at = c.loop-numbered in
    let steps : into_iter_items at.numbered-iterator ≡ c.in-Some.numbered ∷ into_iter_items c.next.new.self = c.in-Some.ensures.steps.0 in
    let items = c.into_iter-numbered-iterator.ensures.into_iter_gives.0 ∙ c.into_vec-numbered-items.ensures in
    rw (p.1, p.2) (replay_turn c.args.file _ _ c.in_err-apply_next.field-0.0
    (λ may. subst (λ l. follow (base_state c.args.snapshot.now) l ≡ None) items (refuses c.args.snapshot.now _ at.present c.in-Some.numbered _ (subst (Replays c.args.snapshot.now _ at.present) steps at.invariant.1) may))
    c.in_err-apply_next.ensures.fault)

pub returns-clause-some : goal.returns-clause-some
returns-clause-some c =
    let at = c.loop-numbered in
    let none = c.in-None.ensures.steps in
    let empty : into_iter_items at.numbered-iterator ≡ [] = nothing_left _ (sym at.invariant.2 ∙ none.0) in
    let items = c.into_iter-numbered-iterator.ensures.into_iter_gives.0 ∙ c.into_vec-numbered-items.ensures in
    let r = ends c.args.snapshot.now _ at.present (subst (Replays c.args.snapshot.now _ at.present) empty at.invariant.1) in
    (r.0, subst (λ l. follow (base_state c.args.snapshot.now) l ≡ Some r.0) items r.1, r.2)
