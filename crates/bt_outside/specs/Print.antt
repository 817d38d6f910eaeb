-- What a printer in memory has printed.
use Rattle.std.specs.Prelude.{ℕ, List}

-- a printer in memory, as its callers see it: what was printed, and how often a call failed
pub record Printed : Type 0 where
  pub text : List ℕ
  pub faults : ℕ
