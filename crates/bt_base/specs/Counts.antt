-- Counters that stop at the greatest value of a u64.
use Rattle.std.specs.Prelude.{◌≡◌, ◌⊎◌, ◌<◌, ◌≤◌, ℕ, ◌+◌, min, Result, IsErr, IsOk}

-- the greatest count
abbrev pub most : ℕ
most = 18446744073709551615

-- one more, or the greatest
abbrev pub counted : ℕ → ℕ
counted n = min (n + 1) most

-- the count rose, or stands at its greatest
abbrev pub Risen : ℕ → ℕ → Type 0
Risen old new = ((old < new) × (new ≤ most)) ⊎ (new ≡ most)

-- a call's failure is counted, and nothing else is
pub record Counts {T E : Type 0} (old new : ℕ) (result : Result T E) : Type 0 where
  pub failed : IsErr result → new ≡ counted old
  pub fine : IsOk result → new ≡ old
