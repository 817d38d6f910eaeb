use Rattle.std.proofs.Common.{subst, sym}
use Rattle.bt_contents.specs.Contents.{AreHeld}
use Rattle.bt_contents.proofs.Rows.{none_held}
use Rattle.bt_contents.proofs.contents.Contents.new.Goals as goal

pub invariant_of-result : goal.invariant_of-result
invariant_of-result c = subst AreHeld (sym c.new.ensures.empty) none_held
