use Rattle.std.proofs.Common.{ℕ, arith, ap, sym, ◌∙◌, ◌≡◌, Result, Ok}
use Rattle.bt_manifest.specs.declared.snapshot.Snapshot.{Snapshot}
use Rattle.bt_codec.specs.declared.fault.Fault.{Fault}
use Rattle.bt_codec.specs.declared.fault.Fault.TheVariants as fault
use Rattle.bt_manifest.specs.Reading.{snapshot_in}
use Rattle.bt_codec.proofs.Many.{Fails}
use Rattle.bt_manifest.proofs.Snapshots.{snapshot_takes, snapshot_again}
use Rattle.bt_manifest.proofs.reading.read_snapshot.Goals as goal

pub returns-in-Ok-clause-found : goal.returns-in-Ok-clause-found
returns-in-Ok-clause-found c = snapshot_takes c.args.bytes.now c.in-Ok.snapshot (λ i. omega (arith, c.type_inv.bytes i)) c.in-Ok.ensures

pub returns-in-Ok-clause-only : goal.returns-in-Ok-clause-only
returns-in-Ok-clause-only c = λ s fits e. sym (ap snapshot_in e ∙ snapshot_again s fits) ∙ c.in-Ok.ensures

fails_not : (f : Fault) (read : Result Snapshot ℕ) (s : Snapshot) → read ≡ Ok s → Fails f read → Fails f (Ok s)
fails_not (fault.Bad left) read s is none = sym is ∙ none
fails_not fault.OutOfMemory read s is none = tt

pub returns-in-Err-clause-only : goal.returns-in-Err-clause-only
returns-in-Err-clause-only c = λ s fits e. fails_not c.in-Err.fault (snapshot_in c.args.bytes.now) s (ap snapshot_in e ∙ snapshot_again s fits) c.in-Err.ensures
