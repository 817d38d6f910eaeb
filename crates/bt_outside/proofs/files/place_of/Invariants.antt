use Rattle.std.proofs.Common.{◌≡◌, ℕ, ◌+◌, ◌-◌, ◌≤◌, drop}
use Rattle.bt_outside.specs.Model.{State}
use Rattle.bt_outside.specs.FileStates.{lookup, IsPlace}
use Rattle.bt_outside.proofs.files.place_of.Given as goal

abbrev pub invariant-loop-i : goal.invariant-loop-i
invariant-loop-i l = record {
  none : (start : ℕ → State) → lookup start l.files l.number ≡ lookup start (drop l.i l.files) l.number;
  found : (k : ℕ) → IsPlace (drop l.i l.files) l.number k → IsPlace l.files l.number (l.i + k);
  apart : (k : ℕ) → IsPlace l.files l.number k → IsPlace (drop l.i l.files) l.number (k - l.i) × (l.i ≤ k);
}
