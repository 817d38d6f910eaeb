-- Tables found by their incarnations.
use Rattle.std.specs.Prelude.{◌≡◌, ℕ, List, Some}
use Rattle.std.specs.List.{AllByRecursion}
use Rattle.std.specs.List.Sorted.{IsStrictlySortedBy}
use Rattle.std.specs.Ordering.{nat_cmp}
use Rattle.std.specs.Cmp.Lexicographic.{slice_cmp}
use Rattle.std.specs.Map.{lookup, keys_of}
use Rattle.std.specs.BTreeMap.{is_at}
use Rattle.bt_entry.specs.declared.table_info.TableInfo.{TableInfo}
use Rattle.bt_schema.specs.Schema.{Schema}

-- the table's name stands at its incarnation
abbrev pub IsIndexed : List (ℕ × List ℕ) → List ℕ × TableInfo → Type 0
IsIndexed names t = lookup (is_at (nat_cmp t.1.incarnation)) names ≡ Some t.0

-- the tables stand in the order of their names, and each name at its incarnation
abbrev pub AreIndexed : List (ℕ × List ℕ) → Schema → Type 0
AreIndexed names schema = IsStrictlySortedBy (slice_cmp nat_cmp) (keys_of schema) × AllByRecursion (IsIndexed names) schema

-- a table stands under its own name
abbrev pub HasItsName : List ℕ × TableInfo → Type 0
HasItsName t = t.0 ≡ t.1.name

-- each table does
abbrev pub AreNamed : Schema → Type 0
AreNamed schema = AllByRecursion HasItsName schema
