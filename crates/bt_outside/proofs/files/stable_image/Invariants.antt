use Rattle.std.proofs.Common.{◌≡◌, ◌<◌, ◌≤◌, ◌-◌, ℕ, length, get_or, min, max}
use Rattle.bt_outside.proofs.files.stable_image.Given as goal

abbrev pub invariant-loop-bytes : goal.invariant-loop-bytes
invariant-loop-bytes l = record {
  size : length l.bytes.items ≤ max (min l.least l.greatest) (min (length l.stable) l.greatest);
  long : min (length l.stable) l.greatest ≤ length l.bytes.items;
  same : (i : ℕ) → i < length l.bytes.items → i < length l.stable → get_or l.bytes.items i 0 ≡ get_or l.stable i 0;
}

abbrev pub decreases-loop-bytes : goal.decreases-loop-bytes
decreases-loop-bytes l = l.least - length l.bytes.items
