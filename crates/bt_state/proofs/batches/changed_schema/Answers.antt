use Rattle.std.proofs.Common.{sym, ◌∙◌}
use Rattle.bt_state.proofs.InTurn.{schema_kept}
use Rattle.bt_state.proofs.batches.changed_schema.Goals as goal

-- the tables stay as they are
pub returns-then-keep_schema : goal.returns-then-keep_schema
returns-then-keep_schema c = sym (schema_kept c.args.batch.now c.args.schema.now (sym c.keep_schema.ensures ∙ c.if-keep_schema.true))
