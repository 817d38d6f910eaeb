use Rattle.std.proofs.Common.{◌≡◌, true, false, ap, ◌∙◌, arith}
use Rattle.bt_state.specs.State.{Present, moment_used}
use Rattle.bt_top.specs.Lines.{is_blank}
use Rattle.bt_top.proofs.Trails.{heard_blank, heard_one}
use Rattle.bt_top.proofs.lines.hear.Goals as goal

pub returns-clause-lines : goal.returns-clause-lines
returns-clause-lines g c tells links clock s stands =
    let some : is_blank c.args.piece.now ≡ false = grind arith in
    let disk = g.D.Disk in
    let new = c.handle.new.disk in
    let used = c.moment_used-moment.ensures.moment ∙ ap (λ (p : Present). moment_used p.floor c.now.result) stands.present in
    heard_one disk c.args.store.now.limits s c.handle.new.store c.args.piece.now c.now.result c.moment_used-moment.result c.args.disk.now new _ _ _ _ _ _ some used (g.met.D.Disk.sooner new) (g.met.D.Disk.only_now new) (c.now.ensures.told clock) c.handle.result
    (c.handle.ensures.turn tells links s stands)

pub returns-then-is_blank-clause-lines : goal.returns-then-is_blank-clause-lines
returns-then-is_blank-clause-lines g c tells links clock s stands =
    let blank : is_blank c.args.piece.now ≡ true = grind arith in
    heard_blank g.D.Disk c.args.store.now.limits s c.args.store.now c.args.disk.now c.args.piece.now _ _ _ blank (g.met.D.Disk.only_now c.args.disk.now) stands
