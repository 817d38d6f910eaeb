-- A log, as its callers see it.
use Rattle.std.specs.Prelude.{ℕ}

-- the number of its file, and the place of the closed gate at which the next record is added
pub record Place : Type 0 where
  pub file : ℕ
  pub end : ℕ
