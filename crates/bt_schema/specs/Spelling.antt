-- The one spelling of the tables without their rows. Numbers are big-endian.
use Rattle.std.specs.Prelude.{ℕ, List, ◌++◌}
use Rattle.std.specs.Int.{w16, w32, w64, to_be_bytes}
use Rattle.bt_codec.specs.Spelling.{list, text}
use Rattle.bt_entry.specs.declared.table_info.TableInfo.{TableInfo}
use Rattle.bt_entry.specs.Spelling.{family}
use Rattle.bt_schema.specs.Schema.{Schema}

-- a name, an incarnation, the begin of the stream and its moment, a retention, and the families
abbrev pub table : TableInfo → List ℕ
table t = text w16 t.name ++ (to_be_bytes w64 t.incarnation ++ (to_be_bytes w64 t.since ++ (to_be_bytes w64 t.since_moment ++ (to_be_bytes w64 t.retention ++ list w16 family t.families))))

-- a table under its name, which is not written twice
abbrev pub named : List ℕ × TableInfo → List ℕ
named t = table t.1

-- a count, and the tables in the order of their names
abbrev pub spelling : Schema → List ℕ
spelling schema = list w32 named schema
