use Rattle.std.proofs.Common.{subst, length}
use Rattle.bt_outside.specs.Disk.{AtFile, Torn, Follows}
use Rattle.bt_outside.specs.History.{Images, states_of}
use Rattle.bt_outside.specs.MemoryDisk.{DiskSeen}
use Rattle.bt_outside.proofs.memory_disk.MemoryDiskDisk.write.Goals as goal

pub returns-clause-crash : goal.returns-clause-crash
returns-clause-crash c =
    subst (λ (d : DiskSeen). Follows (AtFile c.args.file (Torn c.args.at (length c.args.bytes.now))) (Images (states_of d.core)) (Images (states_of c.write-done.new.core))) c.self.view_is c.write-done.ensures.crash
