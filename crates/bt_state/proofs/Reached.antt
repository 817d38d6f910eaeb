-- What holds of every present holds after each entry that may come.
use Rattle.std.proofs.Common.{◌≡◌, ◌<◌, ◌≤◌, ◌+◌, ℕ, Bool, true, false, ◌==◌, List, [], ◌∷◌, Option, Some, None, cond, not, length, arith, if◌then◌else◌}
use Rattle.std.specs.Prelude.{IfSome, IsTrue, option_map, unwrap_or, All}
use Rattle.std.specs.Ordering.{nat_cmp}
use Rattle.std.specs.Cmp.Lexicographic.{slice_cmp}
use Rattle.std.specs.Map.{lookup, values_of}
use Rattle.std.specs.BTreeMap.{is_at}
use Rattle.std.proofs.lemmas.List.Elements.{All-nil, All-head, All-tail, All-cons}
use Rattle.std.proofs.lemmas.Map.Views.{All-keys-insert_entry, All-map-remove_entry, All-values-insert_entry, IfSome-lookup_from_All}
use Rattle.bt_types.specs.declared.cell.Cell.{Cell}
use Rattle.bt_types.specs.Grammar.{is_row_key}
use Rattle.bt_types.specs.Mutations.{applied}
use Rattle.bt_entry.specs.declared.entry.Entry.{Entry}
use Rattle.bt_entry.specs.declared.entry.Entry.TheVariants.{Row, Create, Delete, Alter, Stream, Floor}
use Rattle.bt_entry.specs.declared.numbered.Numbered.{Numbered}
use Rattle.bt_entry.specs.declared.table_info.TableInfo.{TableInfo}
use Rattle.bt_entry.specs.Grammar.{AreSpellableFamilies, IsSpellableEntry, is_retention}
use Rattle.bt_schema.specs.Schema.{Schema, changed_at, name_is, new_table, schema_after, table_of, with_families, with_retention, without}
use Rattle.bt_contents.specs.Contents.{Contents, put_row, row_at, with_row}
use Rattle.bt_all_contents.specs.AllContents.{AllContents, rows_of, with_rows}
use Rattle.bt_state.specs.State.{AreLawful, AreLawfulTables, AreRowKeys, Event, IsLawful, IsReached, Present, contents_after, event_of, events_of, greatest_sequence, present_after, presents_after}
use Rattle.bt_state.proofs.InTurn.{ordered_after}
use Rattle.bt_state.proofs.Made.{made_after}

abbrev IsLawfulTable : TableInfo → Type 0
IsLawfulTable t = AreSpellableFamilies t.families × IsTrue (is_retention t.retention)

without_by : (incarnation : ℕ) (t : List ℕ × TableInfo) (ts : Schema) (b : Bool) → IsLawfulTable t.1 → AreLawfulTables (without incarnation ts) → AreLawfulTables (cond b (t ∷ without incarnation ts) (without incarnation ts))
without_by incarnation t ts true here rest = All-cons IsLawfulTable t.1 (values_of (without incarnation ts)) here rest
without_by incarnation t ts false here rest = rest

lawful_without : (incarnation : ℕ) (ts : Schema) → AreLawfulTables ts → AreLawfulTables (without incarnation ts)
lawful_without incarnation [] all = all
lawful_without incarnation (t ∷ ts) all =
    without_by incarnation t ts (not (t.1.incarnation == incarnation)) (All-head IsLawfulTable t.1 (values_of ts) all) (lawful_without incarnation ts (All-tail IsLawfulTable t.1 (values_of ts) all))

module _ (incarnation : ℕ) (change : TableInfo → TableInfo) (keeps : (t : TableInfo) → IsLawfulTable t → IsLawfulTable (change t)) where
  changed_by : (t : List ℕ × TableInfo) (b : Bool) → IsLawfulTable t.1 → IsLawfulTable (if b then (t.0, change t.1) else t).1
  changed_by t true here = keeps t.1 here
  changed_by t false here = here

  lawful_changed : (ts : Schema) → AreLawfulTables ts → AreLawfulTables (changed_at incarnation change ts)
  lawful_changed [] all = all
  lawful_changed (t ∷ ts) all =
      All-cons IsLawfulTable (if t.1.incarnation == incarnation then (t.0, change t.1) else t).1 (values_of (changed_at incarnation change ts))
      (changed_by t (t.1.incarnation == incarnation) (All-head IsLawfulTable t.1 (values_of ts) all)) (lawful_changed ts (All-tail IsLawfulTable t.1 (values_of ts) all))

lawful_after : (sequence moment : ℕ) (entry : Entry) (ts : Schema) → IsSpellableEntry entry → AreLawfulTables ts → AreLawfulTables (schema_after sequence moment entry ts)
lawful_after sequence moment (Row incarnation key by_rule mutations) ts is all = all
lawful_after sequence moment (Create name families retention) ts is all =
    All-values-insert_entry (slice_cmp nat_cmp) name (new_table sequence moment name families retention) IsLawfulTable ts all (is.1, is.2)
lawful_after sequence moment (Delete incarnation) ts is all = lawful_without incarnation ts all
lawful_after sequence moment (Alter incarnation families) ts is all = lawful_changed incarnation (with_families families) (λ t here. (is.1, here.1)) ts all
lawful_after sequence moment (Stream incarnation retention) ts is all = lawful_changed incarnation (with_retention sequence moment retention) (λ t here. (here.0, is.1)) ts all
lawful_after sequence moment Floor ts is all = all

-- ---- keys of rows

keyed_with : (k : List ℕ) (cs : List Cell) (rows : Contents) → IsTrue (is_row_key k) → AreRowKeys rows → AreRowKeys (with_row k cs rows)
keyed_with k [] rows is all = All-map-remove_entry (is_at (slice_cmp nat_cmp k)) (λ e. e.0) (λ q. IsTrue (is_row_key q)) rows all
keyed_with k (c ∷ cs) rows is all = All-keys-insert_entry (slice_cmp nat_cmp) k (c ∷ cs) (λ q. IsTrue (is_row_key q)) rows all is

all_keyed_with : (incarnation : ℕ) (rows : Contents) (contents : AllContents) → AreRowKeys rows → All AreRowKeys (values_of contents) → All AreRowKeys (values_of (with_rows incarnation rows contents))
all_keyed_with incarnation [] contents is all = All-map-remove_entry (is_at (nat_cmp incarnation)) (λ e. e.1) AreRowKeys contents all
all_keyed_with incarnation (r ∷ rows) contents is all = All-values-insert_entry nat_cmp incarnation (r ∷ rows) AreRowKeys contents all is

keyed_found : (o : Option Contents) → IfSome o AreRowKeys → AreRowKeys (unwrap_or o [])
keyed_found None is = All-nil (λ k. IsTrue (is_row_key k))
keyed_found (Some rows) is = is

-- the rows of each table have keys that rows may have
pub keyed_rows : (incarnation : ℕ) (contents : AllContents) → All AreRowKeys (values_of contents) → AreRowKeys (rows_of incarnation contents)
keyed_rows incarnation contents all =
    keyed_found (lookup (is_at (nat_cmp incarnation)) contents) (IfSome-lookup_from_All AreRowKeys (is_at (nat_cmp incarnation)) contents all)

keyed_after : (e : Entry) (contents : AllContents) → IsSpellableEntry e → All AreRowKeys (values_of contents) → All AreRowKeys (values_of (contents_after e contents))
keyed_after (Row incarnation key by_rule mutations) contents is all =
    let rows : Contents = rows_of incarnation contents in
    all_keyed_with incarnation (put_row key mutations rows) contents (keyed_with key (applied mutations (row_at key rows)) rows is.1 (keyed_rows incarnation contents all)) all
keyed_after (Create name families retention) contents is all = all
keyed_after (Delete incarnation) contents is all = All-map-remove_entry (is_at (nat_cmp incarnation)) (λ e. e.1) AreRowKeys contents all
keyed_after (Alter incarnation families) contents is all = all
keyed_after (Stream incarnation retention) contents is all = all
keyed_after Floor contents is all = all

pub reached_after : (p : Present) (e : Event) → IsReached p → IsLawful p e → p.last < greatest_sequence → IsReached (present_after p e)
reached_after p e r may room = record {
  made = made_after p.last e.moment e.entry p.schema r.made;
  within = omega (arith, room);
  ordered = ordered_after e.entry p.contents r.ordered;
  lawful = lawful_after (p.last + 1) e.moment e.entry p.schema may.spellable r.lawful;
  keyed = keyed_after e.entry p.contents may.spellable r.keyed;
}

pub reached_all : (p : Present) (batch : List Numbered) → IsReached p → AreLawful p (events_of batch) → p.last + length batch ≤ greatest_sequence → IsReached (presents_after p (events_of batch))
reached_all p [] r may room = r
reached_all p (n ∷ ns) r may room =
    reached_all (present_after p (event_of n)) ns (reached_after p (event_of n) r may.0 (omega (arith, room))) may.1 (omega (arith, room))

-- what was found by a name has families that can be written
families_of_found : (o : Option TableInfo) → IfSome o IsLawfulTable → IfSome o (λ t. AreSpellableFamilies t.families)
families_of_found None is = is
families_of_found (Some t) is = is.0

as_found : {R : Type 0} (view : R → TableInfo) (o : Option R) → IfSome (option_map view o) (λ t. AreSpellableFamilies t.families) → IfSome o (λ r. AreSpellableFamilies (view r).families)
as_found view None is = is
as_found view (Some r) is = is

pub found_lawful : {R : Type 0} (view : R → TableInfo) (o : Option R) (name : List ℕ) (ts : Schema) → option_map view o ≡ table_of name ts → AreLawfulTables ts → IfSome o (λ r. AreSpellableFamilies (view r).families)
found_lawful view o name ts is all =
    as_found view o (rw is (families_of_found (table_of name ts) (IfSome-lookup_from_All IsLawfulTable (name_is name) ts all)))
