use Rattle.std.proofs.Common.{ℕ, List, arith, ap, ◌∙◌}
use Rattle.std.specs.Prelude.{slice_range}
use Rattle.bt_manifest.proofs.SlotReads.{first_byte}
use Rattle.bt_manifest.proofs.closing.gate_of.Goals as goal

pub returns-clause-gate : goal.returns-clause-gate
returns-clause-gate g c = λ tells.
    let same = c.length.ensures.held tells c.args.file in
    let long = c.in_ok-length.ensures.length tells in
    let is = c.in_ok-read.ensures.bytes tells ∙ ap (λ (l : List ℕ). slice_range l 0 1) same in
    first_byte (g.D.Disk.held c.args.disk.now c.args.file) c.read.new.into (omega (arith, c.if-branch-eq0.false, long)) is
