-- What a read that writes asks for, where no member is bad (google.bigtable.v2.ReadModifyWriteRowRequest).
use Rattle.std.specs.Prelude.{ℕ, List, [], ◌∷◌, codes, Option, Some, None, option_map}
use Rattle.serde_json.specs.Data.{Data, Items, no_items, item}
use Rattle.bt_rmw.specs.declared.asked.AskedRule.{AskedRule}
use Rattle.bt_rmw.specs.declared.rule.Action.{Action}
use Rattle.bt_rmw.specs.declared.rule.Action.TheVariants.{Append, Increment}
use Rattle.bt_members.specs.Values.{choose, value_at, text_at, bytes_or_empty, bytes_at, int64_at, items_at}
use Rattle.bt_requests.specs.Readers.{table_name}
use Rattle.bt_requests.specs.declared.request.Request.{Request}
use Rattle.bt_requests.specs.declared.request.Request.TheVariants.{ReadModifyWriteRow}

-- by the kind that is set, with its value
abbrev pub action_in : Data → Option Action
action_in d =
    choose (value_at (codes "appendValue") d) (λ v. Some (Append (bytes_or_empty v)))
    (choose (value_at (codes "incrementAmount") d) (λ v. Some (Increment (int64_at (codes "incrementAmount") d)))
    None)

-- google.bigtable.v2.ReadModifyWriteRule
abbrev pub rule_in : Data → AskedRule
rule_in d = record { family = text_at (codes "familyName") d; qualifier = bytes_at (codes "columnQualifier") d; action = action_in d }

abbrev pub rules_in : Items → List AskedRule
rules_in no_items = []
rules_in (item d ds) = rule_in d ∷ rules_in ds

abbrev pub read_modify_write_row : Data → Option Request
read_modify_write_row d = option_map (λ name. ReadModifyWriteRow name (bytes_at (codes "rowKey") d) (rules_in (items_at (codes "rules") d))) (table_name d)
