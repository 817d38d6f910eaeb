-- Causes of faults over more than one call.
use Rattle.std.proofs.Common.{◌≡◌, ℕ, ◌<◌, ◌≤◌, ◌⊎◌, Bool, true, inl, inr, arith}
use Rattle.bt_base.specs.Counts.{Risen, most}
use Rattle.bt_types.specs.declared.source_fault.SourceFault.{SourceFault}
use Rattle.bt_types.specs.declared.source_fault.SourceFault.TheVariants.{DiskFailed, Damaged, OutOfMemory}
use Rattle.bt_types.specs.Sources.{IsCaused}

-- a count that rose since later rose since earlier
pub risen_since : (first old new : ℕ) → first ≤ old → Risen old new → Risen first new
risen_since first old new h (inl rose) =
    let above : old < new = rose.0 in
    inl (omega arith, rose.1)
risen_since first old new h (inr full) = inr full

-- what caused a fault since later caused it since earlier
pub caused_since : (tells : Type 0) (first old new : ℕ) (failing : Bool) (broken : ℕ → ℕ → Type 0) (fault : SourceFault) → first ≤ old → IsCaused tells old new failing broken fault → IsCaused tells first new failing broken fault
caused_since tells first old new failing broken DiskFailed h is = (risen_since first old new h is.0, is.1)
caused_since tells first old new failing broken (Damaged file at) h is = is
caused_since tells first old new failing broken OutOfMemory h is = tt
