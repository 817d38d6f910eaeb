-- The tables without their rows, and what an entry changes in them.
use Rattle.std.specs.Prelude.{◌≡◌, ℕ, ◌==◌, Bool, true, not, nat_le, nat_lt, List, [], ◌∷◌, length, filter, map, bytes_eq, is_some, Option, None, Some, if◌then◌else◌}
use Rattle.std.specs.List.{list_any, list_all}
use Rattle.std.specs.Option.{option_or}
use Rattle.std.specs.Ordering.{nat_cmp}
use Rattle.std.specs.Cmp.Lexicographic.{slice_cmp}
use Rattle.std.specs.Map.{lookup}
use Rattle.std.specs.BTreeMap.{insert_entry, is_at}
use Rattle.bt_types.specs.declared.mutation.Mutation.{Mutation}
use Rattle.bt_types.specs.declared.mutation.Mutation.TheVariants.{SetCell, DeleteColumn, DeleteFamily, DeleteRow}
use Rattle.bt_rules.specs.declared.family.Family.{Family}
use Rattle.bt_rules.specs.Rules.{is_lawful_or_none}
use Rattle.bt_entry.specs.declared.entry.Entry.{Entry}
use Rattle.bt_entry.specs.declared.entry.Entry.TheVariants.{Row, Create, Delete, Alter, Stream, Floor}
use Rattle.bt_entry.specs.declared.table_info.TableInfo.{TableInfo}
use Rattle.bt_entry.specs.Grammar.{most_families}
use Rattle.bt_schema.specs.declared.refusal.SchemaRefusal.{SchemaRefusal}
use Rattle.bt_schema.specs.declared.refusal.SchemaRefusal.TheVariants.{AlreadyExists, NotFound, BadRule, TooManyTables, TooManyFamilies}

-- what is known of the tables, by their names
abbrev pub Schema : Type 0
Schema = List (List ℕ × TableInfo)

-- a name is this one, by its bytes
abbrev pub name_is : List ℕ → List ℕ → Bool
name_is name = is_at (slice_cmp nat_cmp name)

-- the table of that name
abbrev pub table_of : List ℕ → Schema → Option TableInfo
table_of name schema = lookup (name_is name) schema

-- the first table of that incarnation
abbrev pub table_at : ℕ → Schema → Option TableInfo
table_at incarnation [] = None
table_at incarnation (t ∷ ts) = if t.1.incarnation == incarnation then Some t.1 else table_at incarnation ts

-- no more tables than this
abbrev pub most_tables : ℕ
most_tables = 1000

-- ---- what an entry changes

-- A new table; where changes are kept for streams, its stream begins with the table.
abbrev pub new_table : ℕ → ℕ → List ℕ → List Family → ℕ → TableInfo
new_table incarnation moment name families retention = record {
  name = name;
  incarnation = incarnation;
  families = families;
  since = if retention == 0 then 0 else incarnation;
  since_moment = if retention == 0 then 0 else moment;
  retention = retention;
}

abbrev pub with_families : List Family → TableInfo → TableInfo
with_families families t = record t { families = families }

-- Without a retention the stream ends. With one it begins at this sequence and moment, or goes on.
abbrev pub with_retention : ℕ → ℕ → ℕ → TableInfo → TableInfo
with_retention sequence moment retention t = record t {
  since = if retention == 0 then 0 else if t.since == 0 then sequence else t.since;
  since_moment = if retention == 0 then 0 else if t.since == 0 then moment else t.since_moment;
  retention = retention;
}

-- the table of that incarnation is changed so
abbrev pub changed_at : ℕ → (TableInfo → TableInfo) → Schema → Schema
changed_at incarnation change schema = map (λ t. if t.1.incarnation == incarnation then (t.0, change t.1) else t) schema

-- the tables but for that one
abbrev pub without : ℕ → Schema → Schema
without incarnation schema = filter (λ t. not (t.1.incarnation == incarnation)) schema

-- the tables after an entry of this sequence and moment; a new table takes the sequence as its incarnation
abbrev pub schema_after : ℕ → ℕ → Entry → Schema → Schema
schema_after sequence moment (Row incarnation key by_rule mutations) schema = schema
schema_after sequence moment (Create name families retention) schema = insert_entry (slice_cmp nat_cmp) schema name (new_table sequence moment name families retention)
schema_after sequence moment (Delete incarnation) schema = without incarnation schema
schema_after sequence moment (Alter incarnation families) schema = changed_at incarnation (with_families families) schema
schema_after sequence moment (Stream incarnation retention) schema = changed_at incarnation (with_retention sequence moment retention) schema
schema_after sequence moment Floor schema = schema

-- ---- which entries may come

-- a family of that name is among them
abbrev pub is_family_of : List Family → List ℕ → Bool
is_family_of families name = list_any (λ f. bytes_eq f.name name) families

abbrev pub has_family : TableInfo → List ℕ → Bool
has_family t name = is_family_of t.families name

-- a mutation names a family of the table, or none
abbrev pub is_of_family : TableInfo → Mutation → Bool
is_of_family t (SetCell family qualifier at value) = has_family t family
is_of_family t (DeleteColumn family qualifier start end) = has_family t family
is_of_family t (DeleteFamily family) = has_family t family
is_of_family t DeleteRow = true

-- what is wrong with the families that a table is to have
abbrev pub families_refusal : List Family → Option SchemaRefusal
families_refusal families =
    if not (list_all (λ f. is_lawful_or_none f.rule) families) then Some BadRule
    else if nat_lt most_families (length families) then Some TooManyFamilies
    else None

-- what is wrong with mutations of a row of that table
abbrev pub mutations_refusal : List Mutation → Option TableInfo → Option SchemaRefusal
mutations_refusal mutations None = Some NotFound
mutations_refusal mutations (Some t) = if list_all (is_of_family t) mutations then None else Some NotFound

-- what is wrong with one more table
abbrev pub room_refusal : Schema → Option SchemaRefusal
room_refusal schema = if nat_le most_tables (length schema) then Some TooManyTables else None

-- what is wrong with a new table
abbrev pub create_refusal : List ℕ → List Family → Schema → Option SchemaRefusal
create_refusal name families schema =
    if is_some (table_of name schema) then Some AlreadyExists
    else option_or (families_refusal families) (room_refusal schema)

-- the refusal, where the table is there
abbrev pub of_table : Option TableInfo → Option SchemaRefusal → Option SchemaRefusal
of_table None refusal = Some NotFound
of_table (Some t) refusal = refusal

-- Why an entry may not come next. A new table has a name of its own, families that are in order, and room; another entry's table is there.
abbrev pub change_refusal : Entry → Schema → Option SchemaRefusal
change_refusal (Row incarnation key by_rule mutations) schema = mutations_refusal mutations (table_at incarnation schema)
change_refusal (Create name families retention) schema = create_refusal name families schema
change_refusal (Delete incarnation) schema = of_table (table_at incarnation schema) None
change_refusal (Alter incarnation families) schema = of_table (table_at incarnation schema) (families_refusal families)
change_refusal (Stream incarnation retention) schema = of_table (table_at incarnation schema) None
change_refusal Floor schema = None

-- a table that the entry makes takes an incarnation that no table has
abbrev pub IsNew : ℕ → Entry → Schema → Type 0
IsNew sequence (Create name families retention) schema = table_at sequence schema ≡ None
IsNew sequence _ schema = Unit {0}
