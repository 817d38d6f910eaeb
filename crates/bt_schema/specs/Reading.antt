-- Reading the tables from left to right. A fault is the number of bytes that are left where the first bad field begins.
use Rattle.std.specs.Prelude.{◌≡◌, ℕ, Bool, List, [], length, Result, Ok, Err, ◌==◌, if◌then◌else◌, is_none, nat_le}
use Rattle.std.specs.Int.{w16, w32, w64}
use Rattle.bt_codec.specs.Reading.{◌>>=◌, Reads, many_at, number_at, number_with, placed, text_with}
use Rattle.bt_entry.specs.declared.fault.BatchRefusal.{BatchRefusal}
use Rattle.bt_entry.specs.declared.fault.BatchRefusal.TheVariants as refusal
use Rattle.bt_entry.specs.declared.table_info.TableInfo.{TableInfo}
use Rattle.bt_entry.specs.Grammar.{is_retention, is_table_behind, last_moment}
use Rattle.bt_entry.specs.Reading.{family_list_at}
use Rattle.bt_schema.specs.Schema.{Schema, table_at}
use Rattle.bt_schema.specs.Grammar.{behind, last_name}

-- no table has the incarnation
abbrev pub is_free : Schema → ℕ → Bool
is_free before incarnation = is_none (table_at incarnation before)

-- a table under its name, behind those before it
unfoldable pub table_behind_at : Schema → List ℕ → Reads (List ℕ × TableInfo)
table_behind_at before bytes = do
  name ← text_with w16 31 278 (is_table_behind (last_name before)) bytes
  incarnation ← number_with w64 (is_free before) name.1
  since ← number_at w64 incarnation.1
  moment ← number_with w64 (λ n. nat_le n last_moment) since.1
  retention ← number_with w64 is_retention moment.1
  families ← family_list_at retention.1
  Ok ((name.0, record { name = name.0; incarnation = incarnation.0; families = families.0; since = since.0; since_moment = moment.0; retention = retention.0 }), families.1)

-- so many tables, each behind those before it
abbrev pub tables_at : ℕ → List ℕ → Reads Schema
tables_at count bytes = many_at table_behind_at behind [] count bytes

-- all of the bytes
unfoldable pub schema_at : List ℕ → Result Schema ℕ
schema_at bytes = do
  count ← number_at w32 bytes
  tables ← tables_at count.0 count.1
  if length tables.1 == 0 then Ok tables.0 else Err (length tables.1)

-- the tables that the bytes spell, or the place of the first bad field
abbrev pub schema_in : List ℕ → Result Schema ℕ
schema_in bytes = placed bytes (schema_at bytes)

-- a call answers so, unless memory ran out
abbrev pub Answers : Result Schema BatchRefusal → Result Schema ℕ → Type 0
Answers (Ok schema) read = read ≡ Ok schema
Answers (Err (refusal.BadEntry at)) read = read ≡ Err at
Answers (Err refusal.OutOfMemory) read = Unit {0}
