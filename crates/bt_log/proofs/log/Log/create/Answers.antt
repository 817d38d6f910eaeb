use Rattle.bt_outside.specs.Disk.{Torn, TornCut}
use Rattle.bt_crash.specs.Steps.{Anyhow, Reaches}
use Rattle.bt_crash.proofs.Chains.{begun_anyhow, goes_anyhow, looks}
use Rattle.bt_log.proofs.log.Log.create.Goals as goal

pub returns-in_err-write-clause-any_moment : goal.returns-in_err-write-clause-any_moment
returns-in_err-write-clause-any_moment g c =
    let disk = g.D.Disk in
    let first = c.args.disk.now in
    let file = c.args.file in
    let k1 = goes_anyhow disk file (TornCut 0) first first c.cut.new.self (begun_anyhow disk file first (g.met.D.Disk.only_now first)) c.cut.ensures.moment c.cut.ensures.time c.cut.ensures.crash in
    goes_anyhow disk file (Torn 0 1) first c.cut.new.self c.write.new.self k1 c.write.ensures.moment c.write.ensures.time c.write.ensures.crash

pub returns-in_err-sync-clause-any_moment : goal.returns-in_err-sync-clause-any_moment
returns-in_err-sync-clause-any_moment g c =
    let disk = g.D.Disk in
    let first = c.args.disk.now in
    let file = c.args.file in
    let k1 = goes_anyhow disk file (TornCut 0) first first c.cut.new.self (begun_anyhow disk file first (g.met.D.Disk.only_now first)) c.cut.ensures.moment c.cut.ensures.time c.cut.ensures.crash in
    let k2 = goes_anyhow disk file (Torn 0 1) first c.cut.new.self c.write.new.self k1 c.write.ensures.moment c.write.ensures.time c.write.ensures.crash in
    looks disk first c.write.new.self c.sync.new.self (Reaches file Anyhow (disk.may_leave first)) k2 c.sync.ensures.moment c.sync.ensures.time c.sync.ensures.crash

pub returns-clause-any_moment : goal.returns-clause-any_moment
returns-clause-any_moment g c =
    let disk = g.D.Disk in
    let first = c.args.disk.now in
    let file = c.args.file in
    let k1 = goes_anyhow disk file (TornCut 0) first first c.cut.new.self (begun_anyhow disk file first (g.met.D.Disk.only_now first)) c.cut.ensures.moment c.cut.ensures.time c.cut.ensures.crash in
    let k2 = goes_anyhow disk file (Torn 0 1) first c.cut.new.self c.write.new.self k1 c.write.ensures.moment c.write.ensures.time c.write.ensures.crash in
    looks disk first c.write.new.self c.sync.new.self (Reaches file Anyhow (disk.may_leave first)) k2 c.sync.ensures.moment c.sync.ensures.time c.sync.ensures.crash
