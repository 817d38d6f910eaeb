use Rattle.std.proofs.Common.{◌≡◌, ℕ, true, List, subst}
use Rattle.std.specs.Prelude.{Err}
use Rattle.bt_messages.specs.Lines.{ok_line}
use Rattle.bt_messages.specs.Refusals.{refusal_line}
use Rattle.bt_messages.specs.declared.refusal.Refusal.TheVariants.{OutOfMemory}
use Rattle.bt_send.specs.Reads.{WroteSo, read_lines}
use Rattle.bt_send.specs.Writes.{Sends, has_failed}
use Rattle.bt_send.specs.declared.send_fault.SendFault.{SendFault}
use Rattle.bt_send.specs.declared.send_fault.SendFault.TheVariants as fault
use Rattle.bt_send.proofs.Reading.{read_lost, read_refused, read_whole}
use Rattle.bt_send.proofs.read.send_read.Goals as goal

pub returns-in-Ok-clause-sends : goal.returns-in-Ok-clause-sends
returns-in-Ok-clause-sends g c tells =
    let lines = read_lines c.args.scan.now in
    let m = g.D.Disk.moment c.args.disk.now in
    let old = g.L.Links.sent c.args.links.now in
    let mid = g.L.Links.sent c.send_responses.new.links in
    let new = g.L.Links.sent c.send.new.links in
    let failed = has_failed c.send.result in
    let sends : Sends (λ out. out ≡ ok_line) failed m mid new = subst (λ (t : List ℕ). Sends (λ out. out ≡ t) failed m mid new) c.ok_line.ensures (c.send.ensures.sends tells) in
    read_whole lines m old mid new failed (c.in-Ok.ensures.wrote tells) sends

pub returns-in-Err-OutOfMemory-clause-sends : goal.returns-in-Err-OutOfMemory-clause-sends
returns-in-Err-OutOfMemory-clause-sends g c tells =
    let lines = read_lines c.args.scan.now in
    let m = g.D.Disk.moment c.args.disk.now in
    let old = g.L.Links.sent c.args.links.now in
    let mid = g.L.Links.sent c.send_responses.new.links in
    let new = g.L.Links.sent c.send-in-Err-OutOfMemory.new.links in
    let failed = has_failed c.send-in-Err-OutOfMemory.result in
    let wrote : WroteSo {T = Unit {0}} lines (Err fault.OutOfMemory) m old mid =
    subst (λ (f : SendFault). WroteSo {T = Unit {0}} lines (Err f) m old mid) c.in-Err-OutOfMemory.field-0-is (c.in-Err-OutOfMemory.ensures.wrote tells)
    in
    let sends : Sends (λ out. out ≡ refusal_line OutOfMemory) failed m mid new = subst (λ (t : List ℕ). Sends (λ out. out ≡ t) failed m mid new) c.line.ensures (c.send-in-Err-OutOfMemory.ensures.sends tells) in
    read_refused lines m old mid new failed wrote sends

pub returns-in-Err-LinkFailed-clause-sends : goal.returns-in-Err-LinkFailed-clause-sends
returns-in-Err-LinkFailed-clause-sends g c tells =
    let lines = read_lines c.args.scan.now in
    let m = g.D.Disk.moment c.args.disk.now in
    let old = g.L.Links.sent c.args.links.now in
    let mid = g.L.Links.sent c.send_responses.new.links in
    let wrote : WroteSo {T = Unit {0}} lines (Err fault.LinkFailed) m old mid =
    subst (λ (f : SendFault). WroteSo {T = Unit {0}} lines (Err f) m old mid) c.in-Err-LinkFailed.field-0-is (c.in-Err-LinkFailed.ensures.wrote tells)
    in
    read_lost lines m old mid wrote
