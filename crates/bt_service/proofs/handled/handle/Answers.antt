use Rattle.std.proofs.Common.{Bool, sym, ap, ◌∙◌, subst}
use Rattle.bt_send.specs.Writes.{Sends, has_failed}
use Rattle.bt_service.specs.Outcomes.{SaysSo, handled_by}
use Rattle.bt_service.specs.Steps.{MadeBy, Turned}
use Rattle.bt_service.specs.declared.handled.Handled.{Handled}
use Rattle.bt_service.proofs.Handles.{turned}
use Rattle.bt_state.specs.State.{Present}
use Rattle.bt_service.proofs.handled.handle.Goals as goal

pub returns-clause-turn : goal.returns-clause-turn
returns-clause-turn g c disk_tells links_tells s stands =
    let disk = g.D.Disk in
    let limits = c.args.store.now.limits in
    let old = c.args.disk.now in
    let new = c.made-outcome.new.disk in
    let store = c.made-outcome.new.store in
    let outcome = c.made-outcome.result in
    let made : MadeBy disk limits s s.present c.args.moment c.args.line.now old new store outcome =
    subst (λ (p : Present). MadeBy disk limits s p c.args.moment c.args.line.now old new store outcome) stands.present (c.made-outcome.ensures.made disk_tells s stands)
    in
    let sends : Sends (SaysSo store.present outcome) (has_failed c.written-written.result) (disk.moment new) (g.L.Links.sent c.args.links.now) (g.L.Links.sent c.written-written.new.links) =
    subst (λ (p : Present). Sends (SaysSo p outcome) (has_failed c.written-written.result) (disk.moment new) (g.L.Links.sent c.args.links.now) (g.L.Links.sent c.written-written.new.links)) c.present.ensures (c.written-written.ensures.sends links_tells)
    in
    let w = c.written-written.result in
    let sent = g.L.Links.sent c.args.links.now in
    let new_sent = g.L.Links.sent c.written-written.new.links in
    let faults = g.L.Links.faults c.args.links.now in
    let new_faults = g.L.Links.faults c.written-written.new.links in
    subst (λ (h : Handled). Turned disk h limits s c.args.line.now c.args.moment old new store sent new_sent faults new_faults) (sym (c.came_of.ensures ∙ ap (λ (b : Bool). handled_by b w) c.has_ended-has_ended.ensures))
    (turned disk limits s c.args.line.now c.args.moment old new store outcome made w sent new_sent faults new_faults sends c.written-written.ensures.faults)
