use Rattle.std.proofs.Common.{◌≡◌, ◌++◌, drop}
use Rattle.bt_messages.specs.Statuses.{entries_text}
use Rattle.bt_messages.proofs.statuses.push_entries.Given as goal

-- the bytes so far, and those of the entries that are left
abbrev pub invariant-loop-index : goal.invariant-loop-index
invariant-loop-index l = l.out.items ++ entries_text l.index (drop l.index l.statuses) ≡ l.fn.out.items ++ entries_text 0 l.statuses
