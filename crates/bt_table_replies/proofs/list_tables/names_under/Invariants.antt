use Rattle.std.proofs.Common.{◌≡◌, ◌++◌}
use Rattle.std.specs.Prelude.{filter}
use Rattle.bt_plans.specs.Beginnings.{begins_with}
use Rattle.bt_table_replies.specs.Tables.{names_under}
use Rattle.bt_table_replies.proofs.list_tables.names_under.Given as goal

-- the names so far, and those that are left
abbrev pub invariant-loop-name : goal.invariant-loop-name
invariant-loop-name l = l.names ++ filter (begins_with l.front.items) l.name-iterator ≡ names_under l.fn.parent l.fn.schema
