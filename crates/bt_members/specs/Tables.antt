-- The members of each message, in byte order of their JSON names, and the names of each enum.
use Rattle.std.specs.Prelude.{ℕ, ◌==◌, List, [], ◌∷◌, codes, if◌then◌else◌}
use Rattle.bt_walk.specs.Shapes.{Table, Field, one, list, mapped, choice_of, enum_of, unsupported}
use Rattle.bt_walk.specs.declared.shape.Shape.TheVariants.{AnyEnum, Bool, Bytes, Duration, Enum, Int32, Int64, Of, Text}
use Rattle.bt_walk.specs.declared.shape.Support.TheVariants.{UnlessZero, UnlessNull}
use Rattle.bt_members.specs.declared.kinds.TheConstants as kinds

-- a member that is not supported
abbrev denied : List ℕ → Field
denied n = unsupported UnlessZero 0 n

-- google.bigtable.admin.v2.CreateTableRequest
abbrev pub create_table_members : List Field
create_table_members =
    list (codes "initialSplits") (Of kinds.SPLIT)
    ∷ one (codes "parent") Text
    ∷ one (codes "table") (Of kinds.TABLE)
    ∷ one (codes "tableId") Text
    ∷ []

-- google.bigtable.admin.v2.Table
abbrev pub table_members : List Field
table_members =
    denied (codes "automatedBackupPolicy")
    ∷ one (codes "changeStreamConfig") (Of kinds.CHANGE_STREAM_CONFIG)
    ∷ denied (codes "clusterStates")
    ∷ mapped (codes "columnFamilies") (Of kinds.COLUMN_FAMILY)
    ∷ denied (codes "deletionProtection")
    ∷ one (codes "granularity") (Enum kinds.GRANULARITIES)
    ∷ one (codes "name") Text
    ∷ denied (codes "restoreInfo")
    ∷ denied (codes "rowKeySchema")
    ∷ []

-- google.bigtable.admin.v2.ColumnFamily
abbrev pub column_family_members : List Field
column_family_members =
    one (codes "gcRule") (Of kinds.GC_RULE)
    ∷ denied (codes "stats")
    ∷ denied (codes "valueType")
    ∷ []

-- google.bigtable.admin.v2.CreateTableRequest.Split
abbrev pub split_members : List Field
split_members =
    one (codes "key") Bytes
    ∷ []

-- google.bigtable.v2.ReadRowsRequest
abbrev pub read_rows_members : List Field
read_rows_members =
    one (codes "appProfileId") Text
    ∷ denied (codes "authorizedViewName")
    ∷ one (codes "filter") (Of kinds.ROW_FILTER)
    ∷ denied (codes "materializedViewName")
    ∷ enum_of kinds.STATS_VIEWS kinds.SUPPORTED_STATS_VIEWS (codes "requestStatsView")
    ∷ denied (codes "reversed")
    ∷ one (codes "rows") (Of kinds.ROW_SET)
    ∷ one (codes "rowsLimit") Int64
    ∷ one (codes "tableName") Text
    ∷ []

-- google.bigtable.v2.RowSet
abbrev pub row_set_members : List Field
row_set_members =
    list (codes "rowKeys") Bytes
    ∷ list (codes "rowRanges") (Of kinds.ROW_RANGE)
    ∷ []

-- google.bigtable.v2.RowRange: its starts are one oneof, and its ends another
abbrev pub row_range_members : List Field
row_range_members =
    choice_of 2 (codes "endKeyClosed") Bytes
    ∷ choice_of 2 (codes "endKeyOpen") Bytes
    ∷ choice_of 1 (codes "startKeyClosed") Bytes
    ∷ choice_of 1 (codes "startKeyOpen") Bytes
    ∷ []

-- google.bigtable.v2.CheckAndMutateRowRequest
abbrev pub check_and_mutate_row_members : List Field
check_and_mutate_row_members =
    one (codes "appProfileId") Text
    ∷ denied (codes "authorizedViewName")
    ∷ list (codes "falseMutations") (Of kinds.MUTATION)
    ∷ one (codes "predicateFilter") (Of kinds.ROW_FILTER)
    ∷ one (codes "rowKey") Bytes
    ∷ one (codes "tableName") Text
    ∷ list (codes "trueMutations") (Of kinds.MUTATION)
    ∷ []

-- google.bigtable.v2.ReadModifyWriteRowRequest
abbrev pub read_modify_write_row_members : List Field
read_modify_write_row_members =
    one (codes "appProfileId") Text
    ∷ denied (codes "authorizedViewName")
    ∷ one (codes "rowKey") Bytes
    ∷ list (codes "rules") (Of kinds.READ_MODIFY_WRITE_RULE)
    ∷ one (codes "tableName") Text
    ∷ []

-- google.bigtable.v2.ReadModifyWriteRule: what it does is one oneof
abbrev pub read_modify_write_rule_members : List Field
read_modify_write_rule_members =
    choice_of 1 (codes "appendValue") Bytes
    ∷ one (codes "columnQualifier") Bytes
    ∷ one (codes "familyName") Text
    ∷ choice_of 1 (codes "incrementAmount") Int64
    ∷ []

-- google.bigtable.v2.MutateRowRequest
abbrev pub mutate_row_members : List Field
mutate_row_members =
    one (codes "appProfileId") Text
    ∷ denied (codes "authorizedViewName")
    ∷ denied (codes "idempotency")
    ∷ list (codes "mutations") (Of kinds.MUTATION)
    ∷ one (codes "rowKey") Bytes
    ∷ one (codes "tableName") Text
    ∷ []

-- google.bigtable.v2.Mutation: one oneof
abbrev pub mutation_members : List Field
mutation_members =
    unsupported UnlessZero 1 (codes "addToCell")
    ∷ choice_of 1 (codes "deleteFromColumn") (Of kinds.DELETE_FROM_COLUMN)
    ∷ choice_of 1 (codes "deleteFromFamily") (Of kinds.DELETE_FROM_FAMILY)
    ∷ choice_of 1 (codes "deleteFromRow") (Of kinds.DELETE_FROM_ROW)
    ∷ unsupported UnlessZero 1 (codes "mergeToCell")
    ∷ choice_of 1 (codes "setCell") (Of kinds.SET_CELL)
    ∷ []

-- google.bigtable.v2.Mutation.SetCell
abbrev pub set_cell_members : List Field
set_cell_members =
    one (codes "columnQualifier") Bytes
    ∷ one (codes "familyName") Text
    ∷ one (codes "timestampMicros") Int64
    ∷ one (codes "value") Bytes
    ∷ []

-- google.bigtable.admin.v2.GcRule: one oneof
abbrev pub gc_rule_members : List Field
gc_rule_members =
    choice_of 1 (codes "intersection") (Of kinds.RULES)
    ∷ choice_of 1 (codes "maxAge") Duration
    ∷ choice_of 1 (codes "maxNumVersions") Int32
    ∷ choice_of 1 (codes "union") (Of kinds.RULES)
    ∷ []

-- google.bigtable.admin.v2.GcRule.Intersection and google.bigtable.admin.v2.GcRule.Union
abbrev pub rules_members : List Field
rules_members =
    list (codes "rules") (Of kinds.GC_RULE)
    ∷ []

-- google.bigtable.admin.v2.ChangeStreamConfig
abbrev pub change_stream_config_members : List Field
change_stream_config_members =
    one (codes "retentionPeriod") Duration
    ∷ []

-- google.bigtable.admin.v2.GetTableRequest
abbrev pub get_table_members : List Field
get_table_members =
    one (codes "name") Text
    ∷ one (codes "view") AnyEnum
    ∷ []

-- google.bigtable.admin.v2.ListTablesRequest
abbrev pub list_tables_members : List Field
list_tables_members =
    one (codes "pageSize") Int32
    ∷ one (codes "pageToken") Text
    ∷ one (codes "parent") Text
    ∷ one (codes "view") AnyEnum
    ∷ []

-- google.bigtable.admin.v2.DeleteTableRequest
abbrev pub delete_table_members : List Field
delete_table_members =
    one (codes "name") Text
    ∷ []

-- google.bigtable.admin.v2.UpdateTableRequest
abbrev pub update_table_members : List Field
update_table_members =
    one (codes "ignoreWarnings") Bool
    ∷ one (codes "table") (Of kinds.TABLE)
    ∷ one (codes "updateMask") Text
    ∷ []

-- google.bigtable.admin.v2.ModifyColumnFamiliesRequest
abbrev pub modify_column_families_members : List Field
modify_column_families_members =
    one (codes "ignoreWarnings") Bool
    ∷ list (codes "modifications") (Of kinds.MODIFICATION)
    ∷ one (codes "name") Text
    ∷ []

-- google.bigtable.admin.v2.ModifyColumnFamiliesRequest.Modification: all but its id and its mask are one oneof
abbrev pub modification_members : List Field
modification_members =
    choice_of 1 (codes "create") (Of kinds.COLUMN_FAMILY)
    ∷ choice_of 1 (codes "drop") Bool
    ∷ one (codes "id") Text
    ∷ choice_of 1 (codes "update") (Of kinds.COLUMN_FAMILY)
    ∷ denied (codes "updateMask")
    ∷ []

-- google.bigtable.admin.v2.DropRowRangeRequest: all but its name are one oneof
abbrev pub drop_row_range_members : List Field
drop_row_range_members =
    choice_of 1 (codes "deleteAllDataFromTable") Bool
    ∷ one (codes "name") Text
    ∷ choice_of 1 (codes "rowKeyPrefix") Bytes
    ∷ []

-- google.bigtable.v2.MutateRowsRequest
abbrev pub mutate_rows_members : List Field
mutate_rows_members =
    one (codes "appProfileId") Text
    ∷ denied (codes "authorizedViewName")
    ∷ list (codes "entries") (Of kinds.ENTRY)
    ∷ one (codes "tableName") Text
    ∷ []

-- google.bigtable.v2.MutateRowsRequest.Entry
abbrev pub entry_members : List Field
entry_members =
    denied (codes "idempotency")
    ∷ list (codes "mutations") (Of kinds.MUTATION)
    ∷ one (codes "rowKey") Bytes
    ∷ []

-- google.bigtable.v2.Mutation.DeleteFromColumn
abbrev pub delete_from_column_members : List Field
delete_from_column_members =
    one (codes "columnQualifier") Bytes
    ∷ one (codes "familyName") Text
    ∷ one (codes "timeRange") (Of kinds.TIMESTAMP_RANGE)
    ∷ []

-- google.bigtable.v2.TimestampRange
abbrev pub timestamp_range_members : List Field
timestamp_range_members =
    one (codes "endTimestampMicros") Int64
    ∷ one (codes "startTimestampMicros") Int64
    ∷ []

-- google.bigtable.v2.Mutation.DeleteFromFamily
abbrev pub delete_from_family_members : List Field
delete_from_family_members =
    one (codes "familyName") Text
    ∷ []

-- google.bigtable.v2.RowFilter: one oneof. A row sample of 0 is not left out: it would give no rows.
abbrev pub row_filter_members : List Field
row_filter_members =
    choice_of 1 (codes "applyLabelTransformer") Text
    ∷ choice_of 1 (codes "blockAllFilter") Bool
    ∷ choice_of 1 (codes "cellsPerColumnLimitFilter") Int32
    ∷ choice_of 1 (codes "cellsPerRowLimitFilter") Int32
    ∷ choice_of 1 (codes "cellsPerRowOffsetFilter") Int32
    ∷ choice_of 1 (codes "chain") (Of kinds.FILTERS)
    ∷ choice_of 1 (codes "columnQualifierRegexFilter") Bytes
    ∷ choice_of 1 (codes "columnRangeFilter") (Of kinds.COLUMN_RANGE)
    ∷ choice_of 1 (codes "condition") (Of kinds.CONDITION)
    ∷ choice_of 1 (codes "familyNameRegexFilter") Text
    ∷ choice_of 1 (codes "interleave") (Of kinds.FILTERS)
    ∷ choice_of 1 (codes "passAllFilter") Bool
    ∷ choice_of 1 (codes "rowKeyRegexFilter") Bytes
    ∷ unsupported UnlessNull 1 (codes "rowSampleFilter")
    ∷ choice_of 1 (codes "sink") Bool
    ∷ choice_of 1 (codes "stripValueTransformer") Bool
    ∷ choice_of 1 (codes "timestampRangeFilter") (Of kinds.TIMESTAMP_RANGE)
    ∷ choice_of 1 (codes "valueRangeFilter") (Of kinds.VALUE_RANGE)
    ∷ choice_of 1 (codes "valueRegexFilter") Bytes
    ∷ []

-- google.bigtable.v2.RowFilter.Chain and google.bigtable.v2.RowFilter.Interleave
abbrev pub filters_members : List Field
filters_members =
    list (codes "filters") (Of kinds.ROW_FILTER)
    ∷ []

-- google.bigtable.v2.RowFilter.Condition
abbrev pub condition_members : List Field
condition_members =
    one (codes "falseFilter") (Of kinds.ROW_FILTER)
    ∷ one (codes "predicateFilter") (Of kinds.ROW_FILTER)
    ∷ one (codes "trueFilter") (Of kinds.ROW_FILTER)
    ∷ []

-- google.bigtable.v2.ColumnRange: its starts are one oneof, and its ends another
abbrev pub column_range_members : List Field
column_range_members =
    choice_of 2 (codes "endQualifierClosed") Bytes
    ∷ choice_of 2 (codes "endQualifierOpen") Bytes
    ∷ one (codes "familyName") Text
    ∷ choice_of 1 (codes "startQualifierClosed") Bytes
    ∷ choice_of 1 (codes "startQualifierOpen") Bytes
    ∷ []

-- google.bigtable.v2.ValueRange: its starts are one oneof, and its ends another
abbrev pub value_range_members : List Field
value_range_members =
    choice_of 2 (codes "endValueClosed") Bytes
    ∷ choice_of 2 (codes "endValueOpen") Bytes
    ∷ choice_of 1 (codes "startValueClosed") Bytes
    ∷ choice_of 1 (codes "startValueOpen") Bytes
    ∷ []

-- google.bigtable.v2.Mutation.DeleteFromRow has no members
abbrev pub delete_from_row_members : List Field
delete_from_row_members = []

-- of filters
abbrev pub filter_members_of : ℕ → List Field
filter_members_of m =
    if m == kinds.ROW_FILTER then row_filter_members
    else if m == kinds.FILTERS then filters_members
    else if m == kinds.CONDITION then condition_members
    else if m == kinds.COLUMN_RANGE then column_range_members
    else if m == kinds.VALUE_RANGE then value_range_members
    else []

-- of sets of rows, and of the calls that read a row before they change it
abbrev pub call_members_of : ℕ → List Field
call_members_of m =
    if m == kinds.ROW_SET then row_set_members
    else if m == kinds.ROW_RANGE then row_range_members
    else if m == kinds.CHECK_AND_MUTATE_ROW then check_and_mutate_row_members
    else if m == kinds.READ_MODIFY_WRITE_ROW then read_modify_write_row_members
    else if m == kinds.READ_MODIFY_WRITE_RULE then read_modify_write_rule_members
    else filter_members_of m

-- of google.bigtable.v2
abbrev pub data_members_of : ℕ → List Field
data_members_of m =
    if m == kinds.READ_ROWS then read_rows_members
    else if m == kinds.MUTATE_ROW then mutate_row_members
    else if m == kinds.MUTATION then mutation_members
    else if m == kinds.SET_CELL then set_cell_members
    else if m == kinds.MUTATE_ROWS then mutate_rows_members
    else if m == kinds.ENTRY then entry_members
    else if m == kinds.DELETE_FROM_COLUMN then delete_from_column_members
    else if m == kinds.TIMESTAMP_RANGE then timestamp_range_members
    else if m == kinds.DELETE_FROM_FAMILY then delete_from_family_members
    else if m == kinds.DELETE_FROM_ROW then delete_from_row_members
    else call_members_of m

-- of google.bigtable.admin.v2, or else of google.bigtable.v2
abbrev pub members_of : ℕ → List Field
members_of m =
    if m == kinds.CREATE_TABLE then create_table_members
    else if m == kinds.TABLE then table_members
    else if m == kinds.COLUMN_FAMILY then column_family_members
    else if m == kinds.SPLIT then split_members
    else if m == kinds.GC_RULE then gc_rule_members
    else if m == kinds.RULES then rules_members
    else if m == kinds.CHANGE_STREAM_CONFIG then change_stream_config_members
    else if m == kinds.GET_TABLE then get_table_members
    else if m == kinds.LIST_TABLES then list_tables_members
    else if m == kinds.DELETE_TABLE then delete_table_members
    else if m == kinds.UPDATE_TABLE then update_table_members
    else if m == kinds.MODIFY_COLUMN_FAMILIES then modify_column_families_members
    else if m == kinds.MODIFICATION then modification_members
    else if m == kinds.DROP_ROW_RANGE then drop_row_range_members
    else data_members_of m

abbrev pub names_of : ℕ → List ℕ
names_of e =
    if e == kinds.GRANULARITIES then codes "TIMESTAMP_GRANULARITY_UNSPECIFIED,MILLIS"
    else if e == kinds.STATS_VIEWS then codes "REQUEST_STATS_VIEW_UNSPECIFIED,REQUEST_STATS_NONE,REQUEST_STATS_FULL"
    else if e == kinds.SUPPORTED_STATS_VIEWS then codes "REQUEST_STATS_VIEW_UNSPECIFIED,REQUEST_STATS_NONE"
    else []

-- the messages that requests are made of
abbrev pub messages : Table
messages = record { fields = members_of; names = names_of }
