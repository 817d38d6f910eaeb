use Rattle.std.proofs.Common.{◌≡◌, ◌≤◌, ◌++◌, ◌+◌, length, ℕ, List, [], Some, refl, sym, ap, subst, ◌∙◌, drop, take}
use Rattle.std.specs.List.{position}
use Rattle.bt_top.specs.Lines.{is_lf}
use Rattle.bt_service.specs.declared.handled.Handled.{Handled}
use Rattle.bt_service.specs.Outcomes.{DiskCounted, IsUsableAfter, LinksCounted}
use Rattle.bt_service.specs.Turns.{records_of}
use Rattle.bt_service.specs.declared.handled.Handled.TheVariants.{Answered}
use Rattle.bt_state.specs.State.{after_records}
use Rattle.bt_store.specs.declared.limits.Limits.{Limits}
use Rattle.bt_top.specs.Steps.{Buffered, Goes, Divides, heard}
use Rattle.bt_top.proofs.Counted.{disk_then, links_then}
use Rattle.bt_top.proofs.Trails.{goes_further, went_none, went_then}
use Rattle.bt_top.proofs.Divisions.{divides_none, divides_then, divided_then, line_step, stopped_as}
use Rattle.bt_top.proofs.lines.whole_lines.Goals as goal

pub loop-at-init : goal.loop-at-init
loop-at-init g c = (
  λ t. record { same_left = refl; same_at_hand = refl },
  λ k. k,
  λ d t k s stands. ([], went_none g.D.Disk c.args.store.now.limits s c.args.store.now c.args.disk.now _ _ _ (g.met.D.Disk.only_now c.args.disk.now) stands, divides_none _ _),
  refl,
  refl,
  refl,
  c.requires.stands,
  refl,
  (refl, refl),
)

pub loop-at-preserved : goal.loop-at-preserved
loop-at-preserved g c =
    let inv = c.loop-at.invariant in
    let found : Some c.in-Some.at ≡ position is_lf c.loop-at.buffer.text = rw c.in-Some.is at c.line_end.ensures.place in
    let piece = take c.in-Some.at c.text.result.now in
    let divides : Divides c.args.buffer.now.most c.loop-at.buffer.text c.skip.new.self.text (heard piece) =
    line_step c.args.buffer.now.most c.loop-at.buffer.most c.loop-at.buffer.text c.loop-at.buffer.text c.skip.new.self.text piece c.in-Some.at found refl (subst (λ (b : Buffered). length b.text ≤ b.most + 1) c.line_end.ensures.same c.text.ensures.within) inv.5 (c.skip.ensures.text ∙ ap (λ (b : Buffered). drop (c.in-Some.at + 1) b.text) c.line_end.ensures.same) (ap (λ (x : List ℕ). take c.in-Some.at x) (c.text.ensures.text ∙ ap (λ (b : Buffered). b.text) c.line_end.ensures.same)) in
    let disk = g.D.Disk in
    let fine = subst (λ (h : Handled). DiskCounted disk h c.loop-at.disk c.hear.new.disk) c.in-Answered.is c.hear.ensures.disk in (
      λ t. record { same_left = (c.hear.ensures.keeps t).same_left ∙ (inv.0 t).same_left; same_at_hand = (c.hear.ensures.keeps t).same_at_hand ∙ (inv.0 t).same_at_hand },
      λ k. inv.1 (c.hear.ensures.tells k),
      λ d t k s stands.
          let before = inv.2 d t (c.hear.ensures.tells k) s stands in
          let state = after_records s (records_of before.1.turns) in
          let went = subst (λ (h : Handled). Goes disk h c.loop-at.store.limits state c.hear.new.store c.loop-at.disk c.hear.new.disk (g.L.Links.sent c.loop-at.links) (g.L.Links.sent c.hear.new.links) (g.C.Clock.told c.loop-at.clock) (g.C.Clock.told c.hear.new.clock) (g.L.Links.faults c.loop-at.links) (g.L.Links.faults c.hear.new.links) (heard piece)) c.in-Answered.is (c.hear.ensures.lines d t k state before.1.stands) in
          let as_first = subst (λ (m : Limits). Goes disk Answered m state c.hear.new.store c.loop-at.disk c.hear.new.disk (g.L.Links.sent c.loop-at.links) (g.L.Links.sent c.hear.new.links) (g.C.Clock.told c.loop-at.clock) (g.C.Clock.told c.hear.new.clock) (g.L.Links.faults c.loop-at.links) (g.L.Links.faults c.hear.new.links) (heard piece)) inv.7 went in
          (before.0 ++ heard piece, went_then disk c.args.store.now.limits s c.loop-at.store c.hear.new.store c.args.disk.now c.loop-at.disk c.hear.new.disk _ _ _ _ _ _ _ _ _ before.0 (heard piece) before.1 (g.met.D.Disk.sooner c.hear.new.disk) as_first, divides_then _ _ _ _ _ _ before.2 divides),
      subst (λ (h : Handled). LinksCounted h (g.L.Links.faults c.loop-at.links) (g.L.Links.faults c.hear.new.links)) c.in-Answered.is c.hear.ensures.faults ∙ inv.3,
      c.hear.ensures.next_faults ∙ inv.4,
      c.skip.ensures.most ∙ ap (λ (b : Buffered). b.most) c.line_end.ensures.same ∙ inv.5,
      λ d. subst (λ (h : Handled). IsUsableAfter disk h c.hear.new.store c.hear.new.disk) c.in-Answered.is (c.hear.ensures.usable d),
      c.hear.ensures.limits ∙ inv.7,
      (fine.0 ∙ inv.8.0, fine.1 ∙ inv.8.1),
    )

pub returns-in_default-hear-clause-lines : goal.returns-in_default-hear-clause-lines
returns-in_default-hear-clause-lines g c d t k s stands =
    let inv = c.loop-at.invariant in
    let disk = g.D.Disk in
    let found : Some c.in-Some.at ≡ position is_lf c.loop-at.buffer.text = rw c.in-Some.is at c.line_end.ensures.place in
    let piece = take c.in-Some.at c.text.result.now in
    let divides : Divides c.args.buffer.now.most c.loop-at.buffer.text (drop (c.in-Some.at + 1) c.loop-at.buffer.text) (heard piece) =
    line_step c.args.buffer.now.most c.loop-at.buffer.most c.loop-at.buffer.text c.loop-at.buffer.text _ piece c.in-Some.at found refl (subst (λ (b : Buffered). length b.text ≤ b.most + 1) c.line_end.ensures.same c.text.ensures.within) inv.5 refl (ap (λ (x : List ℕ). take c.in-Some.at x) (c.text.ensures.text ∙ ap (λ (b : Buffered). b.text) c.line_end.ensures.same)) in
    let before = inv.2 d t (c.hear.ensures.tells k) s stands in
    let state = after_records s (records_of before.1.turns) in
    let went = subst (λ (m : Limits). Goes disk c.hear.result m state c.hear.new.store c.loop-at.disk c.hear.new.disk (g.L.Links.sent c.loop-at.links) (g.L.Links.sent c.hear.new.links) (g.C.Clock.told c.loop-at.clock) (g.C.Clock.told c.hear.new.clock) (g.L.Links.faults c.loop-at.links) (g.L.Links.faults c.hear.new.links) (heard piece)) inv.7 (c.hear.ensures.lines d t k state before.1.stands) in
    (before.0 ++ heard piece, goes_further disk c.args.store.now.limits s c.loop-at.store c.hear.new.store c.args.disk.now c.loop-at.disk c.hear.new.disk _ _ _ _ _ _ _ _ _ before.0 (heard piece) before.1 (g.met.D.Disk.sooner c.hear.new.disk) c.hear.result went, divided_then _ _ _ _ _ _ c.hear.result _ (stopped_as c.hear.result c.in_default-hear.not-Answered) before.2 divides)

pub returns-in_default-hear-clause-disk : goal.returns-in_default-hear-clause-disk
returns-in_default-hear-clause-disk g c =
    let inv = c.loop-at.invariant in
    disk_then g.D.Disk c.args.disk.now c.loop-at.disk c.hear.new.disk inv.8 c.hear.result c.hear.ensures.disk

pub returns-in_default-hear-clause-faults : goal.returns-in_default-hear-clause-faults
returns-in_default-hear-clause-faults g c =
    let inv = c.loop-at.invariant in
    links_then c.hear.result _ _ _ inv.3 c.hear.ensures.faults

pub returns-clause-lines : goal.returns-clause-lines
returns-clause-lines g c d t k s stands =
    let r = c.loop-at.invariant.2 d t k s stands in
    (r.0, r.1, subst (λ (b : Buffered). Divides c.args.buffer.now.most c.args.buffer.now.text b.text r.0) (sym c.line_end.ensures.same) r.2)
