use Rattle.std.proofs.Common.{◌≡◌, ◌≤◌, ◌<◌, ◌+◌, ℕ, List, [], length, refl, sym, ap, subst, ◌∙◌, arith, true, false}
use Rattle.std.specs.List.{position}
use Rattle.bt_service.proofs.Handles.{counted_risen}
use Rattle.bt_service.specs.Turns.{records_of}
use Rattle.bt_state.specs.State.{after_records}
use Rattle.bt_store.specs.declared.limits.Limits.{Limits}
use Rattle.bt_top.specs.Lines.{is_lf, is_blank}
use Rattle.bt_top.proofs.Counted.{fails_then}
use Rattle.bt_top.proofs.Readers.{Reached, reached_start, reached_read, reached_lines, left_unread, ended_blank, ended_rest, stopped_in, all_read, line_full, or_right, is_some_of}
use Rattle.bt_top.proofs.connection.serve.Goals as goal

pub loop-count-init : goal.loop-count-init
loop-count-init g c =
    let text : c.clear.new.self.text ≡ [] = c.clear.ensures.text in
    let size : length c.clear.new.self.text ≡ 0 = ap length text in
    let disk = g.D.Disk in
    let store = c.args.store.now in
    let now = c.args.disk.now in (
      c.clear.ensures.most,
      omega arith,
      ap (position is_lf) text,
      omega (arith, size),
      λ k. k,
      refl,
      λ t. refl,
      c.requires.at_hand,
      λ d t k s stands bytes is. subst (λ (x : List ℕ). Reached disk store.limits s bytes (g.L.Links.at_hand c.args.links.now) x 0 store now now (g.L.Links.sent c.args.links.now) (g.L.Links.sent c.args.links.now) (g.C.Clock.told c.args.clock.now) (g.C.Clock.told c.args.clock.now) (g.L.Links.faults c.args.links.now) (g.L.Links.faults c.args.links.now))
          (sym text) (reached_start disk store.limits s bytes now _ _ _ (g.L.Links.at_hand c.args.links.now) store (g.met.D.Disk.only_now now) stands is),
      ap (λ (l : Limits). l.connection) c.limits.ensures,
      refl,
      c.requires.stands,
      (refl, refl),
    )

pub returns-in_default-clause-talk : goal.returns-in_default-clause-talk
returns-in_default-clause-talk g c d t k s stands bytes is =
    let inv = c.loop-count.invariant in
    left_unread g.D.Disk c.args.store.now.limits s bytes _ _ _ _ _ _ _ _ _ _ _ _ (inv.8 d t k s stands bytes is) _ _ (c.in_default.ensures.mark t) (counted_risen _ _ (c.in_default.ensures.faults.failed refl))

pub returns-then-is_blank-clause-talk : goal.returns-then-is_blank-clause-talk
returns-then-is_blank-clause-talk g c d t k s stands bytes is =
    let inv = c.loop-count.invariant in
    let got = c.in-Ok.ensures.bytes t in
    let none : c.in-Ok.n ≡ 0 = grind arith in
    let blank : is_blank c.fill.new.self.text ≡ true = grind arith in
    let fits : length c.loop-count.buffer.text ≤ c.args.store.now.limits.line = omega (arith, inv.3, inv.0, c.requires.line) in
    ended_blank g.D.Disk c.args.store.now.limits s bytes _ _ _ _ _ _ _ _ _ _ _ _ (inv.8 d t k s stands bytes is) c.fill.new.self.text got.0 inv.2 fits (omega (arith, c.loop-count-test.true, inv.9)) ((c.in-Ok.ensures.end t).0 none) got.5 (got.4 ∙ none) _ _ blank (c.in-Ok.ensures.sent t)
    (c.in-Ok.ensures.faults.fine refl)

pub returns-then-n-eq0-clause-talk : goal.returns-then-n-eq0-clause-talk
returns-then-n-eq0-clause-talk g c d t k s stands bytes is =
    let inv = c.loop-count.invariant in
    let got = c.in-Ok.ensures.bytes t in
    let none : c.in-Ok.n ≡ 0 = grind arith in
    let blank : is_blank c.fill.new.self.text ≡ false = grind arith in
    let fits : length c.loop-count.buffer.text ≤ c.args.store.now.limits.line = omega (arith, inv.3, inv.0, c.requires.line) in
    ended_rest g.D.Disk c.args.store.now.limits s bytes _ _ _ _ _ _ _ _ _ _ _ _ (inv.8 d t k s stands bytes is) c.fill.new.self.text got.0 inv.2 fits (omega (arith, c.loop-count-test.true, inv.9)) ((c.in-Ok.ensures.end t).0 none) got.5 (got.4 ∙ none)
    c.line.result.now _ c.write-sent.result _ _ _ _ c.line.ensures blank (c.in-Ok.ensures.sent t) (c.in-Ok.ensures.faults.fine refl) (c.write-sent.ensures.ok t) (c.write-sent.ensures.err t) c.write-sent.ensures.faults

pub returns-in-LinkLost-clause-talk : goal.returns-in-LinkLost-clause-talk
returns-in-LinkLost-clause-talk g c d t k s stands bytes is =
    let inv = c.loop-count.invariant in
    let got = c.in-Ok.ensures.bytes t in
    let r = inv.8 d t (c.whole_lines.ensures.tells k) s stands bytes is in
    let r1 = reached_read g.D.Disk c.args.store.now.limits s bytes _ _ _ _ _ _ _ _ _ _ _ _ r _ c.fill.new.self.text (c.loop-count.count + c.in-Ok.n) c.in-Ok.n _ _ got.0 got.1 (c.in-Ok.ensures.sent t) (c.in-Ok.ensures.faults.fine refl) (omega (arith, inv.1, inv.9)) (omega (arith, c.in-Ok.ensures.count, inv.9)) got.2 got.3 got.4 got.5 refl in
    let lines = c.in-LinkLost.ensures.lines d t k (after_records s (records_of r1.went.turns)) r1.went.stands in
    stopped_in g.D.Disk c.args.store.now.limits s bytes _ _ _ _ _ _ _ _ _ _ _ _ r1 false c.loop-count.store.limits c.fill.new.self.most c.whole_lines.new.store c.whole_lines.new.disk _ _ _ lines.0 inv.10 (c.in-Ok.ensures.most ∙ inv.0 ∙ c.requires.line) (g.met.D.Disk.sooner c.whole_lines.new.disk) lines.1 lines.2

pub returns-in-DiskEnded-clause-talk : goal.returns-in-DiskEnded-clause-talk
returns-in-DiskEnded-clause-talk g c d t k s stands bytes is =
    let inv = c.loop-count.invariant in
    let got = c.in-Ok.ensures.bytes t in
    let r = inv.8 d t (c.whole_lines.ensures.tells k) s stands bytes is in
    let r1 = reached_read g.D.Disk c.args.store.now.limits s bytes _ _ _ _ _ _ _ _ _ _ _ _ r _ c.fill.new.self.text (c.loop-count.count + c.in-Ok.n) c.in-Ok.n _ _ got.0 got.1 (c.in-Ok.ensures.sent t) (c.in-Ok.ensures.faults.fine refl) (omega (arith, inv.1, inv.9)) (omega (arith, c.in-Ok.ensures.count, inv.9)) got.2 got.3 got.4 got.5 refl in
    let lines = c.in-DiskEnded.ensures.lines d t k (after_records s (records_of r1.went.turns)) r1.went.stands in
    stopped_in g.D.Disk c.args.store.now.limits s bytes _ _ _ _ _ _ _ _ _ _ _ _ r1 true c.loop-count.store.limits c.fill.new.self.most c.whole_lines.new.store c.whole_lines.new.disk _ _ _ lines.0 inv.10 (c.in-Ok.ensures.most ∙ inv.0 ∙ c.requires.line) (g.met.D.Disk.sooner c.whole_lines.new.disk) lines.1 lines.2

pub returns-then-is_full-clause-talk : goal.returns-then-is_full-clause-talk
returns-then-is_full-clause-talk g c d t k s stands bytes is =
    let inv = c.loop-count.invariant in
    let got = c.in-Ok.ensures.bytes t in
    let r = inv.8 d t (c.whole_lines.ensures.tells k) s stands bytes is in
    let r1 = reached_read g.D.Disk c.args.store.now.limits s bytes _ _ _ _ _ _ _ _ _ _ _ _ r _ c.fill.new.self.text (c.loop-count.count + c.in-Ok.n) c.in-Ok.n _ _ got.0 got.1 (c.in-Ok.ensures.sent t) (c.in-Ok.ensures.faults.fine refl) (omega (arith, inv.1, inv.9)) (omega (arith, c.in-Ok.ensures.count, inv.9)) got.2 got.3 got.4 got.5 refl in
    let lines = c.in-Answered.ensures.lines d t k (after_records s (records_of r1.went.turns)) r1.went.stands in
    let its : c.fill.new.self.most ≡ c.args.store.now.limits.line = c.in-Ok.ensures.most ∙ inv.0 ∙ c.requires.line in
    let r2 = reached_lines g.D.Disk c.args.store.now.limits s bytes _ _ _ _ _ _ _ _ _ _ _ _ r1 c.loop-count.store.limits c.fill.new.self.most _ c.whole_lines.new.buffer.text c.whole_lines.new.store c.whole_lines.new.disk _ _ _ lines.0 inv.10 its (g.met.D.Disk.sooner c.whole_lines.new.disk) (c.in-Answered.ensures.keeps t).same_at_hand lines.1 lines.2 in
    let over : c.whole_lines.new.buffer.most < length c.whole_lines.new.buffer.text = c.is_full.ensures.0 c.if-is_full.true in
    line_full g.D.Disk c.args.store.now.limits s bytes _ _ _ _ _ _ _ _ _ _ _ _ r2 c.line-then-is_full.result.now _ c.write-sent-then-is_full.result _ _ c.line-then-is_full.ensures (or_right c.in-Answered.ensures.rest) (omega (arith, over, c.in-Answered.ensures.most, its))
    (c.write-sent-then-is_full.ensures.ok t) (c.write-sent-then-is_full.ensures.err t) c.write-sent-then-is_full.ensures.faults

pub loop-count-preserved : goal.loop-count-preserved
loop-count-preserved g c =
    let inv = c.loop-count.invariant in
    let its : c.fill.new.self.most ≡ c.args.store.now.limits.line = c.in-Ok.ensures.most ∙ inv.0 ∙ c.requires.line in (
      c.in-Answered.ensures.most ∙ c.in-Ok.ensures.most ∙ inv.0,
      omega (arith, c.in-Ok.ensures.count, inv.1, c.loop-count-test.true),
      or_right c.in-Answered.ensures.rest,
      grind arith,
      λ k. inv.4 (c.whole_lines.ensures.tells k),
      c.in-Answered.ensures.next_faults ∙ c.in-Ok.ensures.next_faults ∙ inv.5,
      λ t. (c.in-Answered.ensures.keeps t).same_left ∙ c.in-Ok.ensures.left t ∙ inv.6 t,
      λ t. is_some_of _ _ ((c.in-Answered.ensures.keeps t).same_at_hand ∙ (c.in-Ok.ensures.bytes t).3),
      λ d t k s stands bytes is.
          let got = c.in-Ok.ensures.bytes t in
          let r = inv.8 d t (c.whole_lines.ensures.tells k) s stands bytes is in
          let r1 = reached_read g.D.Disk c.args.store.now.limits s bytes _ _ _ _ _ _ _ _ _ _ _ _ r _ c.fill.new.self.text (c.loop-count.count + c.in-Ok.n) c.in-Ok.n _ _ got.0 got.1 (c.in-Ok.ensures.sent t) (c.in-Ok.ensures.faults.fine refl) (omega (arith, inv.1, inv.9)) (omega (arith, c.in-Ok.ensures.count, inv.9)) got.2 got.3 got.4 got.5 refl in
          let lines = c.in-Answered.ensures.lines d t k (after_records s (records_of r1.went.turns)) r1.went.stands in
          reached_lines g.D.Disk c.args.store.now.limits s bytes _ _ _ _ _ _ _ _ _ _ _ _ r1 c.loop-count.store.limits c.fill.new.self.most _ c.whole_lines.new.buffer.text c.whole_lines.new.store c.whole_lines.new.disk _ _ _ lines.0 inv.10 its (g.met.D.Disk.sooner c.whole_lines.new.disk) (c.in-Answered.ensures.keeps t).same_at_hand lines.1 lines.2,
      inv.9,
      c.in-Answered.ensures.limits ∙ inv.10,
      λ d. c.in-Answered.ensures.usable d,
      fails_then g.D.Disk c.args.disk.now c.loop-count.disk c.whole_lines.new.disk inv.12 false c.in-Answered.ensures.disk,
    )

pub returns-clause-talk : goal.returns-clause-talk
returns-clause-talk g c d t k s stands bytes is =
    let inv = c.loop-count.invariant in
    let fits : length c.loop-count.buffer.text ≤ c.args.store.now.limits.line = omega (arith, inv.3, inv.0, c.requires.line) in
    let done : c.loop-count.count ≡ c.args.store.now.limits.connection = omega (arith, c.loop-count-test.false, inv.1, inv.9) in
    all_read g.D.Disk c.args.store.now.limits s bytes _ _ _ _ _ _ _ _ _ _ _ _ (inv.8 d t k s stands bytes is) c.line-2.result.now _ c.write-sent-2.result _ _ c.line-2.ensures inv.2 fits done (c.write-sent-2.ensures.ok t) (c.write-sent-2.ensures.err t) c.write-sent-2.ensures.faults
