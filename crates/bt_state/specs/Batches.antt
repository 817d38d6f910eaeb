-- What the entries of a batch change, taken apart: the tables without their rows, rows, and tables that go.
use Rattle.std.specs.Prelude.{◌≡◌, ℕ, Bool, true, false, List, fold, Option, None, Some}
use Rattle.std.specs.List.{filter_map}
use Rattle.bt_entry.specs.declared.entry.Entry.{Entry}
use Rattle.bt_entry.specs.declared.entry.Entry.TheVariants.{Row, Create, Delete, Alter, Stream, Floor}
use Rattle.bt_entry.specs.declared.numbered.Numbered.{Numbered}
use Rattle.bt_codec.specs.Lists.{AllFrom}
use Rattle.bt_schema.specs.Schema.{Schema, IsNew, change_refusal, schema_after}
use Rattle.bt_all_contents.specs.declared.row_change.RowChange.{RowChange}
use Rattle.bt_all_contents.specs.AllContents.{AllContents, without_rows}

-- the tables after an entry that has its number
abbrev pub schema_by : Schema → Numbered → Schema
schema_by schema n = schema_after n.sequence n.moment n.entry schema

-- the tables after entries, in order
abbrev pub schema_by_all : Schema → List Numbered → Schema
schema_by_all schema batch = fold schema_by schema batch

-- The tables let the entry come next.
pub record IsChange (schema : Schema) (n : Numbered) : Type 0 where
  pub allowed : change_refusal n.entry schema ≡ None
  pub new : IsNew n.sequence n.entry schema

-- each entry in turn
abbrev pub AreChanges : Schema → List Numbered → Type 0
AreChanges schema batch = AllFrom schema_by IsChange schema batch

-- the entry leaves the tables as they are, but for their rows
abbrev pub keeps_schema : Entry → Bool
keeps_schema (Row incarnation key by_rule mutations) = true
keeps_schema (Create name families retention) = false
keeps_schema (Delete incarnation) = false
keeps_schema (Alter incarnation families) = false
keeps_schema (Stream incarnation retention) = false
keeps_schema Floor = true

-- the change of a row that an entry is
abbrev pub row_change_of : Entry → Option RowChange
row_change_of (Row incarnation key by_rule mutations) = Some (record { incarnation = incarnation; key = key; mutations = mutations })
row_change_of (Create name families retention) = None
row_change_of (Delete incarnation) = None
row_change_of (Alter incarnation families) = None
row_change_of (Stream incarnation retention) = None
row_change_of Floor = None

-- the changes of rows in a batch
abbrev pub row_changes_of : List Numbered → List RowChange
row_changes_of batch = filter_map (λ n. row_change_of n.entry) batch

-- the table that an entry deletes
abbrev pub deleted_by : Entry → Option ℕ
deleted_by (Row incarnation key by_rule mutations) = None
deleted_by (Create name families retention) = None
deleted_by (Delete incarnation) = Some incarnation
deleted_by (Alter incarnation families) = None
deleted_by (Stream incarnation retention) = None
deleted_by Floor = None

-- the tables that a batch deletes
abbrev pub deleted_of : List Numbered → List ℕ
deleted_of batch = filter_map (λ n. deleted_by n.entry) batch

-- without the rows of those tables
abbrev pub without_all : List ℕ → AllContents → AllContents
without_all incarnations contents = fold (λ c incarnation. without_rows incarnation c) contents incarnations

-- the moment of the last entry; without one, this floor
abbrev pub floor_after : ℕ → List Numbered → ℕ
floor_after floor batch = fold (λ _ n. n.moment) floor batch
