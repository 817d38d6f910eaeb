use Rattle.bt_crash.specs.Steps.{Reaches}
use Rattle.bt_crash.proofs.Chains.{looks}
use Rattle.bt_manifest.specs.Publishing.{SameOrClosed}
use Rattle.bt_manifest.proofs.Publishes.{closing}
use Rattle.bt_manifest.proofs.closing.shut.Goals as goal

pub returns-in_err-write-clause-any_moment : goal.returns-in_err-write-clause-any_moment
returns-in_err-write-clause-any_moment g c =
    let first = c.args.disk.now in
    closing g.D.Disk first c.write.new.self c.args.file (g.met.D.Disk.only_now first) c.write.ensures.moment c.write.ensures.time c.requires.settled c.requires.lawful c.write.ensures.crash

pub returns-clause-any_moment : goal.returns-clause-any_moment
returns-clause-any_moment g c =
    let disk = g.D.Disk in
    let first = c.args.disk.now in
    let file = c.args.file in
    let written = closing disk first c.write.new.self file (g.met.D.Disk.only_now first) c.write.ensures.moment c.write.ensures.time c.requires.settled c.requires.lawful c.write.ensures.crash in
    looks disk first c.write.new.self c.sync.new.self (Reaches file (SameOrClosed file) (disk.may_leave first)) written c.sync.ensures.moment c.sync.ensures.time c.sync.ensures.crash
