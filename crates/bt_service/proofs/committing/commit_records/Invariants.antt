use Rattle.std.proofs.Common.{◌≡◌, false, length, map}
use Rattle.std.specs.Vec.Iter.{into_iter_items, into_iter_len}
use Rattle.bt_plans.specs.Plans.{AreRecords}
use Rattle.bt_service.specs.Outcomes.{FailsIf}
use Rattle.bt_service.proofs.Progress.{Progress}
use Rattle.bt_state.specs.State.{State, events_of}
use Rattle.bt_store.specs.Stands.{Stands}
use Rattle.bt_service.proofs.committing.commit_records.Given as goal

abbrev pub invariant-loop-batch : goal.invariant-loop-batch
invariant-loop-batch g l = record {
  so_far : g.D.Disk.tells → (s : State) → Stands l.initial.store s (g.D.Disk.held l.initial.disk) (g.D.Disk.may_leave l.initial.disk)
      → Progress g.D.Disk l.initial.store.limits s (map events_of (into_iter_items l.initial.batch-iterator)) (map events_of (into_iter_items l.batch-iterator)) l.initial.disk l.disk l.store;
  lawful : AreRecords l.store.present (into_iter_items l.batch-iterator);
  counted : FailsIf g.D.Disk false l.initial.disk l.disk;
  limits : l.store.limits ≡ l.initial.store.limits;
  counts : into_iter_len l.batch-iterator ≡ length (into_iter_items l.batch-iterator);
}
