-- Which tables can be written, in the order of their names.
use Rattle.std.specs.Prelude.{◌≡◌, ℕ, ◌<◌, ◌≤◌, ◌^◌, List, [], ◌∷◌, ◌++◌, length, None, IsTrue}
use Rattle.std.specs.List.{AllByRecursion, fold}
use Rattle.bt_types.specs.Grammar.{is_table_name}
use Rattle.bt_codec.specs.Lists.{AllFrom}
use Rattle.bt_entry.specs.declared.table_info.TableInfo.{TableInfo}
use Rattle.bt_entry.specs.Grammar.{AreSpellableFamilies, AreWritableFamilies, RulesFit, is_below, is_retention, last_moment}
use Rattle.bt_schema.specs.Schema.{Schema, table_at}

-- the tables with one more behind them
abbrev pub behind : Schema → List ℕ × TableInfo → Schema
behind before t = before ++ t ∷ []

-- the name of a table, where the next one has to be above it
abbrev pub key_of : List ℕ → List ℕ × TableInfo → List ℕ
key_of before t = t.0

-- the name of the last table, or no bytes
abbrev pub last_name : Schema → List ℕ
last_name schema = fold key_of [] schema

-- A table stands under its own name, which is above that of the last one before it. No table before it has its incarnation.
abbrev pub StandsBehind : Schema → List ℕ × TableInfo → Type 0
StandsBehind before t = (t.0 ≡ t.1.name) × IsTrue (is_below (last_name before) t.1.name) × (table_at t.1.incarnation before ≡ None)

-- the name is lawful, and each number and the families are within their limits
abbrev pub IsSpellableTable : TableInfo → Type 0
IsSpellableTable t = IsTrue (is_table_name t.name) × (t.incarnation < 2 ^ 64) × (t.since < 2 ^ 64) × (t.since_moment ≤ last_moment) × IsTrue (is_retention t.retention) × AreSpellableFamilies t.families × RulesFit t.families

-- each table of the schema is such a one
abbrev pub AreSpellableTables : Schema → Type 0
AreSpellableTables schema = AllByRecursion (λ t. IsSpellableTable t.1) schema

-- fewer than 2^32 tables, whose names ascend strictly and whose incarnations differ, and each can be written
abbrev pub IsSpellable : Schema → Type 0
IsSpellable schema = (length schema < 2 ^ 32) × AllFrom behind StandsBehind [] schema × AreSpellableTables schema

-- What is asked of a writer: names are lawful by their type, and stand in order by that of the schema.
abbrev pub IsWritableTable : TableInfo → Type 0
IsWritableTable t = (t.since_moment ≤ last_moment) × IsTrue (is_retention t.retention) × AreWritableFamilies t.families

-- each table of the schema is such a one
abbrev pub AreWritableTables : Schema → Type 0
AreWritableTables schema = AllByRecursion (λ t. IsWritableTable t.1) schema

-- fewer than 2^32 tables, and each within its limits
abbrev pub IsWritable : Schema → Type 0
IsWritable schema = (length schema < 2 ^ 32) × AreWritableTables schema
