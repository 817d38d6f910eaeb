use Rattle.std.proofs.Common.{refl}
use Rattle.bt_top.proofs.Endings.{at_once, ended_unserved}
use Rattle.bt_top.proofs.top.bigtable.Goals as goal

pub returns-in-Err-Usage-clause-run : goal.returns-in-Err-Usage-clause-run
returns-in-Err-Usage-clause-run g c d l k s holds = ended_unserved g.D.Disk _ _ _ _ _ _ _ _ _ _ refl holds refl (at_once g.D.Disk _ (g.met.D.Disk.only_now _))

pub returns-in-Err-OutOfMemory-clause-run : goal.returns-in-Err-OutOfMemory-clause-run
returns-in-Err-OutOfMemory-clause-run g c d l k s holds = ended_unserved g.D.Disk _ _ _ _ _ _ _ _ _ _ refl holds refl (at_once g.D.Disk _ (g.met.D.Disk.only_now _))

pub returns-in-Err-Usage-clause-unsound_images : goal.returns-in-Err-Usage-clause-unsound_images
returns-in-Err-Usage-clause-unsound_images g c d unsound = at_once g.D.Disk _ (g.met.D.Disk.only_now _)

pub returns-in-Err-OutOfMemory-clause-unsound_images : goal.returns-in-Err-OutOfMemory-clause-unsound_images
returns-in-Err-OutOfMemory-clause-unsound_images g c d unsound = at_once g.D.Disk _ (g.met.D.Disk.only_now _)
