use Rattle.std.proofs.Common.{subst, ◌<◌}
use Rattle.bt_base.specs.Counts.{most}
use Rattle.bt_outside.specs.Disk.{Elapses}
use Rattle.bt_outside.specs.History.{LeftSince, Images, states_of}
use Rattle.bt_outside.specs.MemoryDisk.{DiskSeen}
use Rattle.bt_outside.proofs.memory_disk.MemoryDiskDisk.read.Goals as goal

pub returns-clause-time : goal.returns-clause-time
returns-clause-time c =
    let new = c.look-done.new.core in
    subst (λ (d : DiskSeen). new.moment < most → Elapses d.core.moment new.moment (LeftSince d.core) (LeftSince new) (Images (states_of new))) c.self.view_is c.look-done.ensures.time
