use Rattle.std.proofs.Common.{◌≡◌, ◌++◌, drop}
use Rattle.bt_state.specs.Batches.{deleted_of}
use Rattle.bt_state.proofs.batches.deleted_tables.Given as goal

-- those so far, and those of the entries that are left
abbrev pub invariant-loop-numbered : goal.invariant-loop-numbered
invariant-loop-numbered l = l.deleted.items ++ deleted_of (drop l.numbered-index l.batch) ≡ deleted_of l.batch
