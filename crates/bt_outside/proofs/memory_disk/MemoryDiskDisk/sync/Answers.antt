use Rattle.std.proofs.Common.{subst}
use Rattle.std.specs.Prelude.{OnOk}
use Rattle.bt_outside.specs.Disk.{Settles}
use Rattle.bt_outside.specs.History.{states_of, Images}
use Rattle.bt_outside.specs.MemoryDisk.{DiskSeen}
use Rattle.bt_outside.proofs.Steps.{on_done}
use Rattle.bt_outside.proofs.memory_disk.MemoryDiskDisk.sync.Goals as goal

pub returns-clause-durable : goal.returns-clause-durable
returns-clause-durable c =
    subst (λ (d : DiskSeen). OnOk c.change.result (Settles c.args.file (states_of d.core c.args.file).bytes (Images (states_of c.sync-done.new.core)))) c.self.view_is
    (on_done c.change.result c.sync-done.result _ c.change.ensures.done c.sync-done.ensures.durable)
