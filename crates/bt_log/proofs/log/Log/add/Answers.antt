use Rattle.std.proofs.Common.{◌<◌, ◌+◌, length, take, ap, subst, sym, ◌∙◌}
use Rattle.bt_outside.specs.Disk.{size, Settles}
use Rattle.bt_crash.specs.Steps.{StepsAt}
use Rattle.bt_gate.specs.Gate.{Gated, IsReady, IsOpened}
use Rattle.bt_log.specs.Place.{Place}
use Rattle.bt_log.proofs.Opens.{ready, within, steps, opens_next, end_is}
use Rattle.bt_log.proofs.log.Log.add.Goals as goal

pub append-requires-clause-at : goal.append-requires-clause-at
append-requires-clause-at g c tells =
    let held = g.D.Disk.held c.args.disk.now in
    let r = c.requires tells in
    subst (λ (log : Place). log.end < size held log.file) (sym c.self.view_is) (within c.args.self.now r.0 r.1 held (g.D.Disk.may_leave c.args.disk.now) r.2)

pub append-requires-clause-ready : goal.append-requires-clause-ready
append-requires-clause-ready g c tells =
    let held = g.D.Disk.held c.args.disk.now in
    let images = g.D.Disk.may_leave c.args.disk.now in
    let r = c.requires tells in
    subst (λ (log : Place). IsReady log.file (take log.end (held log.file)) held images) (sym c.self.view_is) (ready c.args.self.now r.0 r.1 held images r.2)

pub returns-in_err-append-clause-any_moment : goal.returns-in_err-append-clause-any_moment
returns-in_err-append-clause-any_moment g c first entries batch fits own spells open_now =
    let disk = g.D.Disk in
    let old = c.args.disk.now in
    let new = c.append.new.disk in
    let bytes = c.bytes-bytes.result.now in
    let body = c.args.staged.now in
    let short = c.bytes-bytes.ensures.short in
    let is = c.bytes-bytes.ensures.bytes in
    let gated = subst (λ (log : Place). StepsAt disk log.file (Gated (take log.end (disk.held old log.file)) bytes) old new) c.self.view_is c.append.ensures.any_moment in
    steps disk c.args.self.now body bytes old new short is first entries batch fits own spells open_now gated

pub returns-clause-any_moment : goal.returns-clause-any_moment
returns-clause-any_moment g c first entries batch fits own spells open_now =
    let disk = g.D.Disk in
    let old = c.args.disk.now in
    let new = c.append.new.disk in
    let bytes = c.bytes-bytes.result.now in
    let body = c.args.staged.now in
    let short = c.bytes-bytes.ensures.short in
    let is = c.bytes-bytes.ensures.bytes in
    let gated = subst (λ (log : Place). StepsAt disk log.file (Gated (take log.end (disk.held old log.file)) bytes) old new) c.self.view_is c.append.ensures.any_moment in
    steps disk c.args.self.now body bytes old new short is first entries batch fits own spells open_now gated

pub returns-clause-open : goal.returns-clause-open
returns-clause-open g c first entries batch fits own spells tells open_now =
    let disk = g.D.Disk in
    let old = c.args.disk.now in
    let new = c.append.new.disk in
    let bytes = c.bytes-bytes.result.now in
    let body = c.args.staged.now in
    let short = c.bytes-bytes.ensures.short in
    let is = c.bytes-bytes.ensures.bytes in
    let opened = subst (λ (log : Place). IsOpened (take log.end (disk.held old log.file)) bytes (disk.held new log.file)) c.self.view_is (c.in_ok-append.ensures.opened tells).here in
    let settled = subst (λ (log : Place). Settles log.file (disk.held new log.file) (disk.may_leave new)) c.self.view_is (c.in_ok-append.ensures.settled tells) in
    let next : Place = record { file = c.self.inside.file; end = c.self.inside.end + length bytes } in
    opens_next disk c.args.self.now body bytes old new short is first entries batch fits own spells next
    (ap (λ (log : Place). log.file) c.self.view_is) (end_is bytes body c.self.inside.end is ∙ ap (λ (log : Place). log.end + (5 + length body)) c.self.view_is) open_now opened settled
