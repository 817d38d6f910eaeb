use Rattle.std.proofs.Common.{refl}
use Rattle.bt_members.proofs.Others.{no_filter}
use Rattle.bt_members.proofs.table.filter_members.Goals as goal

pub returns-in-26 : goal.returns-in-26
returns-in-26 c = rw c.in-26.is refl

pub returns-in_default : goal.returns-in_default
returns-in_default c = search (no_filter)
