use Rattle.std.proofs.Common.{inl, []}
use Rattle.bt_gate.specs.Gate.{Gated}
use Rattle.bt_crash.proofs.Chains.{both_at}
use Rattle.bt_manifest.specs.Publishing.{SameOrClosed, SlotStep}
use Rattle.bt_manifest.proofs.SlotReads.{gated_slot}
use Rattle.bt_manifest.proofs.publishing.write_slot.Goals as goal

pub returns-clause-any_moment : goal.returns-clause-any_moment
returns-clause-any_moment g c =
    let file = c.args.file in
    let bytes = c.args.bytes.now in
    both_at g.D.Disk file (SameOrClosed file) (Gated [] bytes) (SlotStep file bytes) c.args.disk.now c.close.new.disk c.append.new.disk c.close.ensures.any_moment c.append.ensures.any_moment
    (λ tells b x same. inl same)
    (λ tells b x e same gated. gated_slot file bytes b e gated)
