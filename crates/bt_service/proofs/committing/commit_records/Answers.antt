use Rattle.std.proofs.Common.{◌≡◌, List, [], ◌∷◌, Ok, Err, length, map, refl, sym, ap, subst, ◌∙◌, arith}
use Rattle.std.proofs.lemmas.Result.{err_from_is_err_and}
use Rattle.std.specs.Vec.Iter.{into_iter_items}
use Rattle.bt_entry.specs.declared.numbered.Numbered.{Numbered}
use Rattle.bt_plans.specs.Plans.{AreRecords}
use Rattle.bt_service.specs.Commits.{CommitsSo}
use Rattle.bt_service.proofs.Progress.{Progress, begins, ends, goes_on, state_here, stops}
use Rattle.bt_state.specs.State.{Present, events_of}
use Rattle.bt_store.proofs.Loads.{nothing_left}
use Rattle.bt_store.specs.declared.limits.Limits.{Limits}
use Rattle.bt_service.proofs.committing.commit_records.Goals as goal

pub loop-batch-init : goal.loop-batch-init
loop-batch-init g c =
    let gives = c.into_iter-batch-iterator.ensures.into_iter_gives in
    let items = gives.0 ∙ c.into_vec-batches.ensures in
    record {
      so_far = λ tells s stands. begins g.D.Disk c.args.store.now.limits s (map events_of (into_iter_items c.into_iter-batch-iterator.result)) c.args.disk.now c.args.store.now (g.met.D.Disk.only_now c.args.disk.now) stands;
      lawful = subst (AreRecords c.args.store.now.present) (sym items) c.requires.lawful;
      counted = (refl, refl);
      limits = refl;
      counts = gives.1 ∙ c.into_vec-batches.result.ok.0 ∙ ap length (sym gives.0);
    }

pub commit_record-requires-clause-stands : goal.commit_record-requires-clause-stands
commit_record-requires-clause-stands g c tells =
    let stood = c.requires.stands tells in
    let so_far = c.loop-batch.invariant.so_far tells stood.0 stood.1 in
    (_, so_far.there.stands)

pub loop-batch-preserved : goal.loop-batch-preserved
loop-batch-preserved g c =
    let disk = g.D.Disk in
    let limits = c.args.store.now.limits in
    let old = c.args.disk.now in
    let at = c.loop-batch in
    let all = map events_of (into_iter_items c.into_iter-batch-iterator.result) in
    let rest = into_iter_items c.next.new.self in
    let steps : into_iter_items at.batch-iterator ≡ c.in-Some.batch ∷ rest = c.in-Some.ensures.steps.0 in
    let lawful : AreRecords at.store.present (c.in-Some.batch ∷ rest) = subst (AreRecords at.store.present) steps at.invariant.lawful in
    let ok = c.in_ok-commit_record.ensures in
    record {
      so_far = λ tells s stands.
          let here : Progress disk limits s all (events_of c.in-Some.batch ∷ map events_of rest) old at.disk at.store =
          subst (λ (l : List (List Numbered)). Progress disk limits s all (map events_of l) old at.disk at.store) steps (at.invariant.so_far tells s stands)
          in
          let state = state_here disk limits s all old (events_of c.in-Some.batch) (map events_of rest) at.store at.disk here in
          let one = subst (λ (l : Limits). CommitsSo {T = Unit {0}} disk l state (events_of c.in-Some.batch ∷ []) at.disk c.commit_record.new.disk c.commit_record.new.store (Ok (tt {0}))) at.invariant.limits (ok.commits tells state here.there.stands) in
          goes_on disk limits s all old (events_of c.in-Some.batch) (map events_of rest) at.store at.disk here (tt {0}) c.commit_record.new.store c.commit_record.new.disk one;
      lawful = subst (λ (p : Present). AreRecords p rest) (sym ok.present) lawful.3;
      counted = (ok.counted.0 ∙ at.invariant.counted.0, ok.counted.1 ∙ at.invariant.counted.1);
      limits = c.commit_record.ensures.limits ∙ at.invariant.limits;
      counts = let was = at.invariant.counts in
          let gone = c.in-Some.ensures.steps.1 in
          let short = ap length steps in
          omega arith;
    }

pub returns-in_err-commit_record-clause-commits : goal.returns-in_err-commit_record-clause-commits
returns-in_err-commit_record-clause-commits g c tells s stands =
    let disk = g.D.Disk in
    let limits = c.args.store.now.limits in
    let old = c.args.disk.now in
    let at = c.loop-batch in
    let all = map events_of (into_iter_items c.into_iter-batch-iterator.result) in
    let items = c.into_iter-batch-iterator.ensures.into_iter_gives.0 ∙ c.into_vec-batches.ensures in
    let rest = into_iter_items c.next.new.self in
    let steps : into_iter_items at.batch-iterator ≡ c.in-Some.batch ∷ rest = c.in-Some.ensures.steps.0 in
    let here : Progress disk limits s all (events_of c.in-Some.batch ∷ map events_of rest) old at.disk at.store =
    subst (λ (l : List (List Numbered)). Progress disk limits s all (map events_of l) old at.disk at.store) steps (at.invariant.so_far tells s stands)
    in
    let state = state_here disk limits s all old (events_of c.in-Some.batch) (map events_of rest) at.store at.disk here in
    let one = subst (λ (l : Limits). CommitsSo {T = Unit {0}} disk l state (events_of c.in-Some.batch ∷ []) at.disk c.commit_record.new.disk c.commit_record.new.store (Err c.in_err-commit_record.field-0.0)) at.invariant.limits
    (c.in_err-commit_record.ensures.commits tells state here.there.stands)
    in
    let p = err_from_is_err_and c.from_residual.result c.from_residual.ensures.1 in
    rw (p.1, p.2) (subst (λ (l : List (List Numbered)). CommitsSo {T = Unit {0}} disk limits s (map events_of l) old c.commit_record.new.disk c.commit_record.new.store (Err c.in_err-commit_record.field-0.0)) items
    (stops disk limits s all old (events_of c.in-Some.batch) (map events_of rest) at.store at.disk here c.commit_record.new.store c.commit_record.new.disk (Unit {0}) c.in_err-commit_record.field-0.0 one))

pub returns-clause-commits : goal.returns-clause-commits
returns-clause-commits g c tells s stands =
    let disk = g.D.Disk in
    let limits = c.args.store.now.limits in
    let old = c.args.disk.now in
    let at = c.loop-batch in
    let all = map events_of (into_iter_items c.into_iter-batch-iterator.result) in
    let items = c.into_iter-batch-iterator.ensures.into_iter_gives.0 ∙ c.into_vec-batches.ensures in
    let none = c.in-None.ensures.steps in
    let empty : into_iter_items at.batch-iterator ≡ [] = nothing_left _ (sym at.invariant.counts ∙ none.0) in
    let here : Progress disk limits s all [] old at.disk at.store =
    subst (λ (l : List (List Numbered)). Progress disk limits s all (map events_of l) old at.disk at.store) empty (at.invariant.so_far tells s stands)
    in
    subst (λ (l : List (List Numbered)). CommitsSo {T = Unit {0}} disk limits s (map events_of l) old at.disk at.store (Ok (tt {0}))) items (ends disk limits s all old (tt {0}) at.store at.disk here)
