use Rattle.bt_contents.proofs.Within.{first_bounds}
use Rattle.bt_contents.proofs.ranges.bound.Goals as goal

-- the first key at or past the bytes
pub returns-in-None : goal.returns-in-None
returns-in-None c = rw c.first_from.ensures.first (first_bounds c.args.bytes.now _ c.first_from.ensures.sorted)
