-- What is known of presents and of rows follows from what holds of a valid state.
use Rattle.std.proofs.Common.{◌<◌, ◌≤◌, ℕ, List, [], ◌∷◌, length, Option, Some, None}
use Rattle.std.specs.Prelude.{IfSome, IsTrue, unwrap_or}
use Rattle.std.specs.List.{AllByRecursion}
use Rattle.std.specs.Ordering.{nat_cmp}
use Rattle.std.specs.Map.{keys_of, lookup, values_of}
use Rattle.std.specs.BTreeMap.{is_at}
use Rattle.std.proofs.lemmas.Cmp.{eq_by_cmp_equiv, nat_cmp_total}
use Rattle.std.proofs.lemmas.List.Elements.{All-cons, All-from_recursion, All-nil}
use Rattle.std.proofs.lemmas.Map.Keys.{IsDistinct-from_sorted}
use Rattle.std.proofs.lemmas.Map.Views.{All-values_from_lookup, IfSome-lookup_from_All}
use Rattle.bt_types.specs.declared.cell.Cell.{Cell}
use Rattle.bt_types.specs.Cells.{IsRow}
use Rattle.bt_types.specs.Grammar.{is_row_key}
use Rattle.bt_rules.specs.declared.family.Family.{Family}
use Rattle.bt_entry.specs.declared.table_info.TableInfo.{TableInfo}
use Rattle.bt_entry.specs.Grammar.{AreSpellableFamilies, is_retention, most_of_value}
use Rattle.bt_schema.specs.Schema.{Schema, table_at}
use Rattle.bt_row.specs.Sound.{AreShort}
use Rattle.bt_contents.specs.Contents.{Contents, HaveRows, HaveShortValues, IsTable}
use Rattle.bt_state.specs.State.{AreLawfulTables, AreRowKeys, families_of}
use Rattle.bt_laws.specs.States.{AreRowsOf, IsCellOf, IsTableAt, ValidReached, ValidTables}
use Rattle.bt_laws.specs.Tables.{IsLawfulRow}
use Rattle.bt_laws.proofs.StatesHistory.{weaker}
use Rattle.bt_laws.proofs.StatesSchema.{made_of}

lawful_tables : (last floor : ℕ) (ts : Schema) → AllByRecursion (IsTableAt last floor) ts → AreLawfulTables ts
lawful_tables last floor [] all = All-nil (λ (t : TableInfo). AreSpellableFamilies t.families × IsTrue (is_retention t.retention))
lawful_tables last floor (t ∷ ts) all =
    All-cons (λ (t : TableInfo). AreSpellableFamilies t.families × IsTrue (is_retention t.retention)) t.1 (values_of ts) (all.0.families, all.0.retention) (lawful_tables last floor ts all.1)

row_keys : (rs : Contents) → AllByRecursion IsLawfulRow rs → AreRowKeys rs
row_keys [] all = All-nil (λ k. IsTrue (is_row_key k))
row_keys (r ∷ rs) all = All-cons (λ k. IsTrue (is_row_key k)) r.0 (keys_of rs) all.0.key (row_keys rs all.1)

ordered_rows : (rs : Contents) → AllByRecursion IsLawfulRow rs → HaveRows rs
ordered_rows [] all = All-nil IsRow
ordered_rows (r ∷ rs) all = All-cons IsRow r.1 (values_of rs) all.0.cells (ordered_rows rs all.1)

module _ (families : List Family) where
  short_cells : (cs : List Cell) → AllByRecursion (IsCellOf families) cs → AreShort cs
  short_cells cs all =
      All-from_recursion (λ (c : Cell). length c.value ≤ most_of_value) cs (weaker (IsCellOf families) (λ (c : Cell). length c.value ≤ most_of_value) (λ c is. is.short) cs all)

  short_rows : (rs : Contents) → AllByRecursion (λ r. AllByRecursion (IsCellOf families) r.1) rs → HaveShortValues rs
  short_rows [] all = All-nil AreShort
  short_rows (r ∷ rs) all = All-cons AreShort r.1 (values_of rs) (short_cells r.1 all.0) (short_rows rs all.1)

  keys_by : (o : Option Contents) → AreRowsOf families (unwrap_or o []) → IfSome o AreRowKeys
  keys_by None is = tt
  keys_by (Some rows) is = row_keys rows is.lawful.each

  tables_by : (o : Option Contents) → AreRowsOf families (unwrap_or o []) → IfSome o (λ rows. 0 < length rows) → IfSome o (λ rows. IsTable rows × (0 < length rows))
  tables_by None is some = tt
  tables_by (Some rows) is some =
      (record { sorted = is.lawful.sorted; filled = is.filled; ordered = ordered_rows rows is.lawful.each; short = short_rows rows is.cells }, some)

pub valid_reached : ValidReached
valid_reached s valid =
    let p = s.present in
    record {
      made = made_of p.last p.floor p.schema valid.tables;
      within = valid.within;
      ordered = valid.ordered;
      lawful = lawful_tables p.last p.floor p.schema valid.tables;
      keyed = All-values_from_lookup (eq_by_cmp_equiv nat_cmp_total) AreRowKeys p.contents (IsDistinct-from_sorted nat_cmp (keys_of p.contents) valid.ordered)
          (λ n. keys_by (families_of (table_at n p.schema)) (lookup (is_at (nat_cmp n)) p.contents) (valid.rows n));
    }

pub valid_tables : ValidTables
valid_tables s valid =
    let p = s.present in
    record {
      sorted = valid.ordered;
      each = All-values_from_lookup (eq_by_cmp_equiv nat_cmp_total) (λ rows. IsTable rows × (0 < length rows)) p.contents (IsDistinct-from_sorted nat_cmp (keys_of p.contents) valid.ordered)
          (λ n. tables_by (families_of (table_at n p.schema)) (lookup (is_at (nat_cmp n)) p.contents) (valid.rows n) (IfSome-lookup_from_All (λ (rows : Contents). 0 < length rows) (is_at (nat_cmp n)) p.contents valid.filled));
    }
