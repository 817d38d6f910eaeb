use Rattle.std.proofs.Common.{◌≡◌, ◌<◌, ℕ, length, get_or}
use Rattle.bt_outside.specs.Model.{Touched}
use Rattle.bt_outside.proofs.files.filled_image.Given as goal

abbrev pub invariant-loop-i : goal.invariant-loop-i
invariant-loop-i l = record {
  size : length l.bytes.items ≡ l.i;
  filled : (k : ℕ) → k < length l.bytes.items → Touched l.touched k → get_or l.bytes.items k 0 ≡ l.fill;
  same : (k : ℕ) → k < length l.bytes.items → k < length l.stable → (Touched l.touched k → ⊥) → get_or l.bytes.items k 0 ≡ get_or l.stable k 0;
}
