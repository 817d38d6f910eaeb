use Rattle.std.proofs.Common.{rules}
use Rattle.bt_range.proofs.Selecting.{sorted_filled}
use Rattle.bt_range.proofs.sorting.sorted.Goals as goal

pub returns-clause-filled : goal.returns-clause-filled
returns-clause-filled c = search (rules, sorted_filled)
