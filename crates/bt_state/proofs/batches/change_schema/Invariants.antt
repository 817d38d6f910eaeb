use Rattle.std.proofs.Common.{◌≡◌, drop}
use Rattle.bt_state.specs.Batches.{AreChanges, schema_by_all}
use Rattle.bt_state.proofs.batches.change_schema.Given as goal

-- the entries that are left lead on to the tables after all, and may be made
abbrev pub invariant-loop-change : goal.invariant-loop-change
invariant-loop-change l =
    (schema_by_all l.schema (drop l.change-index l.batch) ≡ schema_by_all l.initial.schema l.batch)
    × AreChanges l.schema (drop l.change-index l.batch)
