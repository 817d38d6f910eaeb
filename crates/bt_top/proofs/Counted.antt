-- Faults that are counted, call after call.
use Rattle.std.proofs.Common.{◌≡◌, ℕ, Bool, true, false, subst, ◌∙◌}
use Rattle.bt_base.specs.Counts.{Risen}
use Rattle.bt_outside.specs.declared.disk.Disk.{Ghosts}
use Rattle.bt_service.specs.Outcomes.{DiskCounted, FailsIf, LinksCounted}
use Rattle.bt_service.specs.declared.handled.Handled.{Handled}
use Rattle.bt_service.specs.declared.handled.Handled.TheVariants.{Answered, DiskEnded, LinkLost}

pub links_then : (handled : Handled) (old mid new : ℕ) → mid ≡ old → LinksCounted handled mid new → LinksCounted handled old new
links_then handled old mid new same c = subst (λ (n : ℕ). LinksCounted handled n new) same c

module _ {D : Type 0} (disk : Ghosts D) (old mid new : D) (first : FailsIf disk false old mid) where
  pub fails_then : (has_failed : Bool) → FailsIf disk has_failed mid new → FailsIf disk has_failed old new
  fails_then true h = (subst (λ (n : ℕ). Risen n (disk.faults new)) first.0 h.0, subst (λ (n : ℕ). Risen n (disk.write_faults new)) first.1 h.1, h.2)
  fails_then false h = (h.0 ∙ first.0, h.1 ∙ first.1)

  pub disk_then : (handled : Handled) → DiskCounted disk handled mid new → DiskCounted disk handled old new
  disk_then Answered h = fails_then false h
  disk_then LinkLost h = fails_then false h
  disk_then DiskEnded h = fails_then true h
