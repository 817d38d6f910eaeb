use Rattle.std.proofs.Common.{◌≡◌, ◌++◌, drop, map}
use Rattle.serde_json.specs.View.{view}
use Rattle.bt_messages.specs.Responses.{shown_table_name}
use Rattle.bt_messages.proofs.table_value.table_name_values.Given as goal

-- the values so far, and those of the names that are left
abbrev pub invariant-loop-name : goal.invariant-loop-name
invariant-loop-name l = map view l.items.items ++ map shown_table_name (drop l.name-index l.names) ≡ map shown_table_name l.names
