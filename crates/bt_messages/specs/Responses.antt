-- What a response shows, by the proto3 JSON mapping: members that are 0, empty or false are left out.
use Rattle.std.specs.Prelude.{ℕ, ◌+◌, ◌==◌, Bool, true, not, List, [], ◌∷◌, map, codes, pos}
use Rattle.bt_chunks.specs.declared.chunk.Chunk.{Chunk}
use Rattle.bt_rules.specs.declared.family.Family.{Family}
use Rattle.bt_rules.specs.declared.rule.Rule.{Rule}
use Rattle.bt_rules.specs.declared.rule.Rule.TheOpen.{Rule-F}
use Rattle.bt_rules.specs.declared.rule.Rule.TheFolds.{fold-Rule}
use Rattle.bt_text.specs.Printed.{duration_printed}
use Rattle.bt_entry.specs.declared.table_info.TableInfo.{TableInfo}
use Rattle.serde_json.specs.Data.{Data, boolean, number, unsigned, string, array, object, item, no_items, Members, no_members, put}
use Rattle.serde_json.specs.View.{items_of}
use Rattle.bt_messages.specs.Values.{shown_bytes, shown_label, shown_name}
use Rattle.bt_messages.specs.Lines.{is_nonempty, object_with, status_members, with_bytes, with_if, with_int64, with_number, with_some}
use Rattle.bt_messages.specs.Rows.{shown_row}
use Rattle.bt_messages.specs.declared.response.EntryStatus.{EntryStatus}
use Rattle.bt_messages.specs.declared.response.Response.{Response}
use Rattle.bt_messages.specs.declared.response.Response.TheVariants.{CreateTable, GetTable, ListTables, DeleteTable, UpdateTable, ModifyColumnFamilies, DropRowRange, MutateRow, MutateRows, ReadRows, CheckAndMutateRow, ReadModifyWriteRow}

-- a span of time in microseconds (google.protobuf.Duration)
abbrev pub shown_duration : ℕ → Data
shown_duration micros = string (duration_printed micros)

-- a list of rules (google.bigtable.admin.v2.GcRule.Union)
abbrev pub shown_rules : List Data → Data
shown_rules rules = object_with (codes "rules") (array (items_of rules))

-- a node of a rule, whose parts are shown
abbrev pub shown_node : Rule-F Data → Data
shown_node (Rule-F.Versions count) = object_with (codes "maxNumVersions") (number (unsigned count))
shown_node (Rule-F.Age age) = object_with (codes "maxAge") (shown_duration age)
shown_node (Rule-F.Intersection parts) = object_with (codes "intersection") (shown_rules parts)
shown_node (Rule-F.Union parts) = object_with (codes "union") (shown_rules parts)

-- a rule of collection (google.bigtable.admin.v2.GcRule)
abbrev pub shown_rule : Rule → Data
shown_rule = fold-Rule Data shown_node

-- a family, without its name (google.bigtable.admin.v2.ColumnFamily)
abbrev pub shown_family : Family → Data
shown_family f = object (with_some (codes "gcRule") shown_rule f.rule no_members)

-- the members, with each family at its name
abbrev pub families_onto : Members → List Family → Members
families_onto ms [] = ms
families_onto ms (f ∷ fs) = families_onto (put f.name (shown_family f) ms) fs

abbrev pub shown_families : List Family → Data
shown_families families = object (families_onto no_members families)

-- how long changes are kept for streams (google.bigtable.admin.v2.ChangeStreamConfig)
abbrev pub shown_stream : ℕ → Data
shown_stream retention = object_with (codes "retentionPeriod") (shown_duration retention)

-- a table (google.bigtable.admin.v2.Table)
abbrev pub shown_table : TableInfo → Data
shown_table t =
    object (with_if (not (t.retention == 0)) (codes "changeStreamConfig") (shown_stream t.retention)
    (with_if (is_nonempty t.families) (codes "columnFamilies") (shown_families t.families)
    (put (codes "granularity") (string (codes "MILLIS"))
    (put (codes "name") (string t.name) no_members))))

-- a table by its name alone
abbrev pub shown_table_name : List ℕ → Data
shown_table_name name = object_with (codes "name") (string name)

-- tables by their names (google.bigtable.admin.v2.ListTablesResponse)
abbrev pub shown_table_names : List (List ℕ) → Data
shown_table_names names = object (with_if (is_nonempty names) (codes "tables") (array (items_of (map shown_table_name names))) no_members)

-- a chunk (google.bigtable.v2.ReadRowsResponse.CellChunk)
abbrev pub shown_chunk : Chunk → Data
shown_chunk c =
    object (with_if c.commit (codes "commitRow") (boolean true)
    (with_some (codes "familyName") shown_name c.family
    (with_some (codes "labels") shown_label c.label
    (with_some (codes "qualifier") shown_bytes c.qualifier
    (with_bytes (codes "rowKey") c.key
    (with_int64 (codes "timestampMicros") c.at
    (with_bytes (codes "value") c.value
    (with_number (codes "valueSize") c.size no_members))))))))

-- chunks (google.bigtable.v2.ReadRowsResponse)
abbrev pub shown_chunks : List Chunk → Data
shown_chunks cs = object (with_if (is_nonempty cs) (codes "chunks") (array (items_of (map shown_chunk cs))) no_members)

-- the status of an entry, at its place from 0 on (google.bigtable.v2.MutateRowsResponse.Entry)
abbrev pub shown_status : ℕ → EntryStatus → Data
shown_status index status = object (with_int64 (codes "index") (pos index) (put (codes "status") (status_members status.code status.text) no_members))

-- statuses, the first of which has that place
abbrev pub shown_statuses_from : ℕ → List EntryStatus → List Data
shown_statuses_from index [] = []
shown_statuses_from index (s ∷ ss) = shown_status index s ∷ shown_statuses_from (index + 1) ss

-- the statuses of entries (google.bigtable.v2.MutateRowsResponse)
abbrev pub shown_statuses : List EntryStatus → Data
shown_statuses ss = object (with_if (is_nonempty ss) (codes "entries") (array (items_of (shown_statuses_from 0 ss))) no_members)

-- whether a condition held (google.bigtable.v2.CheckAndMutateRowResponse)
abbrev pub shown_match : Bool → Data
shown_match matched = object (with_if matched (codes "predicateMatched") (boolean true) no_members)

-- what a response shows
abbrev pub shown : Response → Data
shown (CreateTable t) = shown_table t
shown (GetTable t) = shown_table t
shown (ListTables names) = shown_table_names names
shown DeleteTable = object no_members
shown (UpdateTable t) = shown_table t
shown (ModifyColumnFamilies t) = shown_table t
shown DropRowRange = object no_members
shown MutateRow = object no_members
shown (MutateRows ss) = shown_statuses ss
shown (ReadRows cs) = shown_chunks cs
shown (CheckAndMutateRow matched) = shown_match matched
shown (ReadModifyWriteRow key cells) = object_with (codes "row") (shown_row key cells)
