use Rattle.std.proofs.Common.{◌∙◌, sym}
use Rattle.bt_crash.proofs.Chains.{looks}
use Rattle.bt_gate.proofs.Appends.{Fine, written, opening, opened, staged_long}
use Rattle.bt_gate.proofs.gate.append.Goals as goal

pub returns-in_err-write-clause-any_moment : goal.returns-in_err-write-clause-any_moment
returns-in_err-write-clause-any_moment g c =
    let disk = g.D.Disk in
    let first = c.args.disk.now in
    let file = c.args.file in
    let at = c.args.at in
    let body = c.args.body.now in
    let law = g.met.D.Disk.only_now first in
    written disk first file at body c.requires.ready c.requires.at law c.write.new.self c.write.ensures.moment c.write.ensures.time c.write.ensures.crash

pub returns-in_err-sync-clause-any_moment : goal.returns-in_err-sync-clause-any_moment
returns-in_err-sync-clause-any_moment g c =
    let disk = g.D.Disk in
    let first = c.args.disk.now in
    let file = c.args.file in
    let at = c.args.at in
    let body = c.args.body.now in
    let law = g.met.D.Disk.only_now first in
    let P = Fine disk first file at body in
    let k1 = written disk first file at body c.requires.ready c.requires.at law c.write.new.self c.write.ensures.moment c.write.ensures.time c.write.ensures.crash in
    looks disk first c.write.new.self c.sync.new.self P k1 c.sync.ensures.moment c.sync.ensures.time c.sync.ensures.crash

pub returns-in_err-write-2-clause-any_moment : goal.returns-in_err-write-2-clause-any_moment
returns-in_err-write-2-clause-any_moment g c =
    let disk = g.D.Disk in
    let first = c.args.disk.now in
    let file = c.args.file in
    let at = c.args.at in
    let body = c.args.body.now in
    let law = g.met.D.Disk.only_now first in
    let P = Fine disk first file at body in
    let k1 = written disk first file at body c.requires.ready c.requires.at law c.write.new.self c.write.ensures.moment c.write.ensures.time c.write.ensures.crash in
    let k2 = looks disk first c.write.new.self c.sync.new.self P k1 c.sync.ensures.moment c.sync.ensures.time c.sync.ensures.crash in
    opening disk first file at body c.requires.ready c.requires.at law c.write.new.self c.sync.new.self c.write-2.new.self k2 c.in_ok-write.ensures.written c.in_ok-sync.ensures.durable c.write-2.ensures.moment c.write-2.ensures.time c.write-2.ensures.crash

pub returns-in_err-sync-2-clause-any_moment : goal.returns-in_err-sync-2-clause-any_moment
returns-in_err-sync-2-clause-any_moment g c =
    let disk = g.D.Disk in
    let first = c.args.disk.now in
    let file = c.args.file in
    let at = c.args.at in
    let body = c.args.body.now in
    let law = g.met.D.Disk.only_now first in
    let P = Fine disk first file at body in
    let k1 = written disk first file at body c.requires.ready c.requires.at law c.write.new.self c.write.ensures.moment c.write.ensures.time c.write.ensures.crash in
    let k2 = looks disk first c.write.new.self c.sync.new.self P k1 c.sync.ensures.moment c.sync.ensures.time c.sync.ensures.crash in
    let k3 = opening disk first file at body c.requires.ready c.requires.at law c.write.new.self c.sync.new.self c.write-2.new.self k2 c.in_ok-write.ensures.written c.in_ok-sync.ensures.durable c.write-2.ensures.moment c.write-2.ensures.time c.write-2.ensures.crash in
    looks disk first c.write-2.new.self c.sync-2.new.self P k3 c.sync-2.ensures.moment c.sync-2.ensures.time c.sync-2.ensures.crash

pub returns-clause-any_moment : goal.returns-clause-any_moment
returns-clause-any_moment g c =
    let disk = g.D.Disk in
    let first = c.args.disk.now in
    let file = c.args.file in
    let at = c.args.at in
    let body = c.args.body.now in
    let law = g.met.D.Disk.only_now first in
    let P = Fine disk first file at body in
    let k1 = written disk first file at body c.requires.ready c.requires.at law c.write.new.self c.write.ensures.moment c.write.ensures.time c.write.ensures.crash in
    let k2 = looks disk first c.write.new.self c.sync.new.self P k1 c.sync.ensures.moment c.sync.ensures.time c.sync.ensures.crash in
    let k3 = opening disk first file at body c.requires.ready c.requires.at law c.write.new.self c.sync.new.self c.write-2.new.self k2 c.in_ok-write.ensures.written c.in_ok-sync.ensures.durable c.write-2.ensures.moment c.write-2.ensures.time c.write-2.ensures.crash in
    looks disk first c.write-2.new.self c.sync-2.new.self P k3 c.sync-2.ensures.moment c.sync-2.ensures.time c.sync-2.ensures.crash

pub write-requires-2 : goal.write-requires-2
write-requires-2 g c =
    let disk = g.D.Disk in
    let first = c.args.disk.now in
    let file = c.args.file in
    let at = c.args.at in
    let body = c.args.body.now in
    let law = g.met.D.Disk.only_now first in
    λ tells. staged_long disk first file at body c.requires.ready c.requires.at law (disk.held c.write.new.self) (disk.held c.sync.new.self) tells (c.in_ok-write.ensures.written tells) (c.sync.ensures.held tells)

pub returns-clause-opened : goal.returns-clause-opened
returns-clause-opened g c tells =
    let disk = g.D.Disk in
    let first = c.args.disk.now in
    let file = c.args.file in
    let at = c.args.at in
    let body = c.args.body.now in
    let law = g.met.D.Disk.only_now first in
    let step = opened disk first file at body c.requires.ready c.requires.at law (disk.held c.write.new.self) (disk.held c.sync.new.self) (disk.held c.write-2.new.self) (disk.held c.sync-2.new.self) tells (c.in_ok-write.ensures.written tells) (c.sync.ensures.held tells) (c.in_ok-write-2.ensures.written tells) (c.sync-2.ensures.held tells) in
    record { here = step.here; others = step.others }

pub returns-clause-settled : goal.returns-clause-settled
returns-clause-settled g c tells image now = c.in_ok-sync-2.ensures.durable tells image now ∙ sym (c.sync-2.ensures.held tells c.args.file)
