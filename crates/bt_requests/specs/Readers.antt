-- What requests ask for, where no member is bad; none where a name is not lawful.
use Rattle.std.specs.Prelude.{ℕ, ℤ, pos, List, [], ◌∷◌, map, codes, Option, Some, None, IfSome, option_map, option_and_then, if◌then◌else◌}
use Rattle.std.specs.Cmp.Lexicographic.{slice_cmp}
use Rattle.std.specs.List.Sorted.{IsStrictlySortedBy}
use Rattle.std.specs.Ordering.{nat_cmp}
use Rattle.serde_json.specs.Data.{Data, Items, no_items, item, Members, no_members, member}
use Rattle.bt_mutation.specs.declared.asked.AskedMutation.{AskedMutation}
use Rattle.bt_mutation.specs.declared.asked.AskedMutation.TheVariants.{SetCell, DeleteColumn, DeleteFamily, DeleteRow, Missing}
use Rattle.bt_types.specs.Grammar.{lawful, is_parent, is_table_name, table_in}
use Rattle.bt_text.specs.Names.{original_name}
use Rattle.bt_walk.specs.Values.{is_null}
use Rattle.bt_requests.specs.Filters.{filter_at}
use Rattle.bt_requests.specs.RowSets.{keys_at, ranges_at}
use Rattle.bt_requests.specs.Rules.{rule_of_family}
use Rattle.bt_members.specs.Values.{choose, is_yes, bytes_or_empty, value_at, text_at, bytes_at, int64_of, int64_at, micros_at, items_at, members_at}
use Rattle.bt_requests.specs.declared.families.AskedFamily.{AskedFamily}
use Rattle.bt_requests.specs.declared.families.FamilyChange.{FamilyChange}
use Rattle.bt_requests.specs.declared.families.FamilyChange.TheVariants as change
use Rattle.bt_requests.specs.declared.families.Modification.{Modification}
use Rattle.bt_requests.specs.declared.request.DropTarget.{DropTarget}
use Rattle.bt_requests.specs.declared.request.DropTarget.TheVariants.{Prefix, All}
use Rattle.bt_requests.specs.declared.request.Request.{Request}
use Rattle.bt_requests.specs.declared.request.Request.TheVariants.{CreateTable, GetTable, ListTables, DeleteTable, UpdateTable, ModifyColumnFamilies, DropRowRange, ReadRows, MutateRow, MutateRows}
use Rattle.bt_requests.specs.declared.rows.AskedEntry.{AskedEntry}

-- ---- tables

abbrev pub family : List ℕ → Data → AskedFamily
family name d = record { name = name; rule = rule_of_family d }

-- the families of a map, where null is absent
abbrev pub families_of : Members → List AskedFamily
families_of no_members = []
families_of (member k d ms) = if is_null d then families_of ms else family k d ∷ families_of ms

abbrev pub families_or_none : Option Members → List AskedFamily
families_or_none None = []
families_or_none (Some ms) = families_of ms

-- each name is below those after it, in byte order
abbrev pub Ascend : List AskedFamily → Type 0
Ascend fs = IsStrictlySortedBy (slice_cmp nat_cmp) (map (λ f. f.name) fs)

-- the families of the table
abbrev pub families_in : Data → List AskedFamily
families_in d = families_or_none (option_and_then (members_at (codes "columnFamilies")) (value_at (codes "table") d))

-- the retention of the table's change stream: none without a stream, and 0 where the stream tells none
abbrev pub retention_in : Data → Option ℤ
retention_in d = option_map (micros_at (codes "retentionPeriod")) (option_and_then (value_at (codes "changeStreamConfig")) (value_at (codes "table") d))

abbrev pub create_table : Data → Option Request
create_table d = option_map (λ name. CreateTable name (families_in d) (retention_in d)) (table_in (text_at (codes "parent") d) (text_at (codes "tableId") d))

-- the table that a request names
abbrev pub named_table : Data → Option (List ℕ)
named_table d = lawful is_table_name (text_at (codes "name") d)

abbrev pub get_table : Data → Option Request
get_table d = option_map (λ name. GetTable name) (named_table d)

abbrev pub list_tables : Data → Option Request
list_tables d = option_map (λ parent. ListTables parent (text_at (codes "pageToken") d)) (lawful is_parent (text_at (codes "parent") d))

abbrev pub delete_table : Data → Option Request
delete_table d = option_map (λ name. DeleteTable name) (named_table d)

abbrev pub table_to_update : Data → Option (List ℕ)
table_to_update d = option_and_then named_table (value_at (codes "table") d)

abbrev pub update_table : Data → Option Request
update_table d = option_map (λ name. UpdateTable name (text_at (codes "updateMask") d) (retention_in d)) (table_to_update d)

-- the table that a request for rows names
abbrev pub table_name : Data → Option (List ℕ)
table_name d = lawful is_table_name (text_at (codes "tableName") d)

-- ---- families

-- by the kind that is set
abbrev pub change_in : Data → FamilyChange
change_in d =
    choose (value_at (codes "create") d) (λ v. change.Create (rule_of_family v))
    (choose (value_at (codes "update") d) (λ v. change.Update (rule_of_family v))
    (choose (value_at (codes "drop") d) (λ v. change.Drop (is_yes v))
    change.Missing))

abbrev pub modification : Data → Modification
modification d = record { id = text_at (codes "id") d; change = change_in d }

abbrev pub modifications_in : Items → List Modification
modifications_in no_items = []
modifications_in (item d ds) = modification d ∷ modifications_in ds

abbrev pub modify_column_families : Data → Option Request
modify_column_families d = option_map (λ name. ModifyColumnFamilies name (modifications_in (items_at (codes "modifications") d))) (named_table d)

-- ---- rows

abbrev pub read_rows : Data → Option Request
read_rows d = option_map (λ name. ReadRows name (keys_at d) (ranges_at d) (filter_at d) (int64_at (codes "rowsLimit") d)) (table_name d)

-- by the kind that is set
abbrev pub target_in : Data → Option DropTarget
target_in d =
    choose (value_at (codes "rowKeyPrefix") d) (λ v. Some (Prefix (bytes_or_empty v)))
    (choose (value_at (codes "deleteAllDataFromTable") d) (λ v. Some (All (is_yes v)))
    None)

abbrev pub drop_row_range : Data → Option Request
drop_row_range d = option_map (λ name. DropRowRange name (target_in d)) (named_table d)

-- ---- mutations

abbrev pub set_cell : Data → AskedMutation
set_cell d = SetCell (text_at (codes "familyName") d) (bytes_at (codes "columnQualifier") d) (int64_at (codes "timestampMicros") d) (bytes_at (codes "value") d)

-- a bound of the time range, by its two names; without a range it is 0
abbrev pub bound_of : List ℕ → List ℕ → Data → ℤ
bound_of n o d = choose (value_at (codes "timeRange") d) (int64_of n o) (pos 0)

abbrev pub bound_at : List ℕ → Data → ℤ
bound_at n d = bound_of n (original_name n) d

abbrev pub delete_from_column : Data → AskedMutation
delete_from_column d =
    DeleteColumn (text_at (codes "familyName") d) (bytes_at (codes "columnQualifier") d) (bound_at (codes "startTimestampMicros") d) (bound_at (codes "endTimestampMicros") d)

-- by the kind that is set
abbrev pub mutation_in : Data → AskedMutation
mutation_in d =
    choose (value_at (codes "setCell") d) set_cell
    (choose (value_at (codes "deleteFromColumn") d) delete_from_column
    (choose (value_at (codes "deleteFromFamily") d) (λ v. DeleteFamily (text_at (codes "familyName") v))
    (choose (value_at (codes "deleteFromRow") d) (λ v. DeleteRow)
    Missing)))

abbrev pub mutations_in : Items → List AskedMutation
mutations_in no_items = []
mutations_in (item d ds) = mutation_in d ∷ mutations_in ds

abbrev pub mutate_row : Data → Option Request
mutate_row d = option_map (λ name. MutateRow name (bytes_at (codes "rowKey") d) (mutations_in (items_at (codes "mutations") d))) (table_name d)

abbrev pub entry : Data → AskedEntry
entry d = record { key = bytes_at (codes "rowKey") d; mutations = mutations_in (items_at (codes "mutations") d) }

abbrev pub entries_in : Items → List AskedEntry
entries_in no_items = []
entries_in (item d ds) = entry d ∷ entries_in ds

abbrev pub mutate_rows : Data → Option Request
mutate_rows d = option_map (λ name. MutateRows name (entries_in (items_at (codes "entries") d))) (table_name d)

-- ---- order

-- families of a new table ascend by their names
abbrev pub HasOrder : Request → Type 0
HasOrder (CreateTable name families retention) = Ascend families
HasOrder _ = Unit {0}

abbrev pub IsInOrder : Option Request → Type 0
IsInOrder r = IfSome r HasOrder
