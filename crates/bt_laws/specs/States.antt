-- What holds of every state that lawful events lead to.
use Rattle.std.specs.Prelude.{◌≡◌, ℕ, ◌<◌, ◌≤◌, ◌+◌, ◌-◌, ◌==◌, List, [], ◌∷◌, length, None, IsTrue}
use Rattle.std.specs.List.{AllByRecursion}
use Rattle.std.specs.List.Sorted.{IsStrictlySortedBy}
use Rattle.std.specs.Ordering.{nat_cmp}
use Rattle.std.specs.Cmp.Lexicographic.{slice_cmp}
use Rattle.std.specs.Map.{keys_of}
use Rattle.bt_types.specs.declared.cell.Cell.{Cell}
use Rattle.bt_types.specs.Grammar.{is_table_name}
use Rattle.bt_rules.specs.declared.family.Family.{Family}
use Rattle.bt_entry.specs.declared.numbered.Numbered.{Numbered}
use Rattle.bt_entry.specs.declared.table_info.TableInfo.{TableInfo}
use Rattle.bt_codec.specs.Lists.{AllFrom}
use Rattle.bt_entry.specs.Grammar.{AreNumbered, AreSpellableFamilies, IsSpellableNumbered, is_retention, last_moment, most_of_value}
use Rattle.bt_schema.specs.Schema.{Schema, is_family_of, most_tables, table_at}
use Rattle.bt_contents.specs.Contents.{AreFilled, Contents, HaveCells}
use Rattle.bt_all_contents.specs.AllContents.{AreTables}
use Rattle.bt_state.specs.State.{AreLawful, AreOrdered, Event, IsLawful, IsReached, State, after, after_record, after_records, cut_history, families_of, greatest_sequence, rows_of}
use Rattle.bt_laws.specs.Tables.{AreLawfulRows}

-- ---- the history

-- the sequences are consecutive, and the last of them is this one
abbrev pub AreNumberedTo : ℕ → List Numbered → Type 0
AreNumberedTo last history = (length history ≤ last) × AreNumbered (last + 1 - length history) history

-- the moment that the next entry must not be before
abbrev pub moment_of : ℕ → Numbered → ℕ
moment_of _ n = n.moment

-- no entry is of an earlier moment than the one before it
abbrev pub NeverFall : List Numbered → Type 0
NeverFall history = AllFrom moment_of (λ before n. before ≤ n.moment) 0 history

-- ---- tables without their rows

-- no two tables have the same incarnation
abbrev pub HaveOwnIncarnations : Schema → Type 0
HaveOwnIncarnations [] = Unit {0}
HaveOwnIncarnations (t ∷ ts) = (table_at t.1.incarnation ts ≡ None) × HaveOwnIncarnations ts

-- a table and the name at which it stands, where this is the last sequence and the greatest moment
pub record IsTableAt (last floor : ℕ) (t : List ℕ × TableInfo) : Type 0 where
  -- it stands at its own name
  pub named : t.1.name ≡ t.0
  -- which is a lawful one
  pub lawful : IsTrue (is_table_name t.0)
  -- its incarnation is the sequence of an entry
  pub made : (1 ≤ t.1.incarnation) × (t.1.incarnation ≤ last)
  -- its stream, where it has one, began with an entry
  pub since : t.1.since ≤ last
  -- at a moment that is past
  pub since_moment : t.1.since_moment ≤ floor
  -- without a stream there is no such entry
  pub streams : (t.1.since == 0) ≡ (t.1.retention == 0)
  -- its families can be written
  pub families : AreSpellableFamilies t.1.families
  -- it has no stream, or one that keeps changes for a lawful time
  pub retention : IsTrue (is_retention t.1.retention)

-- ---- rows

-- a cell of a table with these families
pub record IsCellOf (families : List Family) (c : Cell) : Type 0 where
  -- its family is one of the table's
  pub family : IsTrue (is_family_of families c.family)
  -- its value is short
  pub short : length c.value ≤ most_of_value

-- rows of a table with these families
pub record AreRowsOf (families : List Family) (rows : Contents) : Type 0 where
  -- lawful keys, which ascend strictly; cells in order, without labels, with lawful names and timestamps
  pub lawful : AreLawfulRows rows
  -- no row is without cells
  pub filled : HaveCells rows
  -- each cell is one of the table
  pub cells : AllByRecursion (λ r. AllByRecursion (IsCellOf families) r.1) rows

-- ---- states

-- what holds of a state that is reached
pub record IsValid (s : State) : Type 0 where
  -- the entries that are kept have consecutive sequences, up to the last one
  pub numbered : AreNumberedTo s.present.last s.history
  -- their moments never fall
  pub timed : NeverFall s.history
  -- none of them is past the floor
  pub past : AllByRecursion (λ n. n.moment ≤ s.present.floor) s.history
  -- each can be written
  pub spellable : AllByRecursion IsSpellableNumbered s.history
  -- tables stand in the order of their names, so names differ
  pub sorted : IsStrictlySortedBy (slice_cmp nat_cmp) (keys_of s.present.schema)
  -- incarnations differ
  pub apart : HaveOwnIncarnations s.present.schema
  -- there are not too many tables
  pub few : length s.present.schema ≤ most_tables
  -- each table is one that entries made
  pub tables : AllByRecursion (IsTableAt s.present.last s.present.floor) s.present.schema
  -- rows stand in the order of incarnations
  pub ordered : AreOrdered s.present.contents
  -- no incarnation is there without a row
  pub filled : AreFilled s.present.contents
  -- an incarnation that no table has has no rows
  pub owned : (n : ℕ) → table_at n s.present.schema ≡ None → rows_of n s.present.contents ≡ []
  -- the rows of each incarnation are rows of its table
  pub rows : (n : ℕ) → AreRowsOf (families_of (table_at n s.present.schema)) (rows_of n s.present.contents)
  -- no lost number is past the last sequence
  pub lost : AllByRecursion (λ l. l.1 ≤ s.present.last) s.lost
  -- the floor is a moment
  pub floor : s.present.floor ≤ last_moment
  -- the last sequence is not past the greatest
  pub within : s.present.last ≤ greatest_sequence

-- the records may come in turn
abbrev pub AreLawfulRecords : State → List (List Event) → Type 0
AreLawfulRecords s [] = Unit {0}
AreLawfulRecords s (r ∷ rs) = AreLawful s.present r × AreLawfulRecords (after_record s r) rs

-- a lawful event leaves a valid state, where there is a sequence for it
abbrev pub ValidAfter : Type 0
ValidAfter = (s : State) (e : Event) → IsValid s → IsLawful s.present e → s.present.last < greatest_sequence → IsValid (after s e)

-- so do records
abbrev pub ValidAfterRecords : Type 0
ValidAfterRecords = (s : State) (rs : List (List Event)) → IsValid s → AreLawfulRecords s rs → (after_records s rs).present.last ≤ greatest_sequence → IsValid (after_records s rs)

-- ---- what valid states are

-- the present of a valid state is one that is reached
abbrev pub ValidReached : Type 0
ValidReached = (s : State) → IsValid s → IsReached s.present

-- its rows are rows of tables, as they are held in memory
abbrev pub ValidTables : Type 0
ValidTables = (s : State) → IsValid s → AreTables s.present.contents

-- a valid state stays one without the first entries of its history
abbrev pub ValidCut : Type 0
ValidCut = (s : State) (n : ℕ) → IsValid s → IsValid (cut_history n s)
