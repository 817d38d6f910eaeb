use Rattle.std.proofs.Common.{subst, ◌<◌}
use Rattle.bt_base.specs.Counts.{most}
use Rattle.bt_outside.specs.Disk.{AtFile, TornCut, Follows, Elapses}
use Rattle.bt_outside.specs.History.{LeftSince, Images, states_of}
use Rattle.bt_outside.specs.MemoryDisk.{DiskSeen}
use Rattle.bt_outside.proofs.memory_disk.MemoryDiskDisk.cut.Goals as goal

pub returns-clause-crash : goal.returns-clause-crash
returns-clause-crash c =
    subst (λ (d : DiskSeen). Follows (AtFile c.args.file (TornCut c.args.length)) (Images (states_of d.core)) (Images (states_of c.cut-done.new.core))) c.self.view_is c.cut-done.ensures.crash

pub returns-clause-time : goal.returns-clause-time
returns-clause-time c =
    let new = c.cut-done.new.core in
    subst (λ (d : DiskSeen). new.moment < most → Elapses d.core.moment new.moment (LeftSince d.core) (LeftSince new) (Images (states_of new))) c.self.view_is c.cut-done.ensures.time
