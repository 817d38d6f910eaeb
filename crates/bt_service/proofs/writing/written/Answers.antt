use Rattle.std.proofs.Common.{ℕ, List, sym, subst}
use Rattle.bt_send.specs.Reads.{ReadGoes}
use Rattle.bt_send.specs.Writes.{Sends, has_failed}
use Rattle.bt_service.specs.Outcomes.{SaysSo}
use Rattle.bt_service.specs.declared.outcome.Outcome.{Outcome}
use Rattle.bt_service.proofs.writing.written.Goals as goal

pub returns-in-Reads-clause-sends : goal.returns-in-Reads-clause-sends
returns-in-Reads-clause-sends g c tells =
    let failed = has_failed c.send_read.result in
    let m = g.D.Disk.moment c.args.disk.now in
    let old = g.L.Links.sent c.args.links.now in
    let new = g.L.Links.sent c.send_read.new.links in
    subst (λ (o : Outcome). Sends (SaysSo c.args.present.now o) failed m old new) (sym c.in-Reads.is)
    (subst (λ (lines : List (List ℕ)). Sends (ReadGoes lines) failed m old new) c.scan_of-scan.ensures (c.send_read.ensures.sends tells))
