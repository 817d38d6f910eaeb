-- The abstract service: its tables, its history, and what an entry changes.
use Rattle.std.specs.Prelude.{◌≡◌, ℕ, ◌+◌, ◌<◌, ◌≤◌, ◌==◌, ◌&&◌, ◌||◌, min, max, nat_lt, Bool, true, not, List, [], ◌∷◌, ◌++◌, filter, fold, is_none, unwrap_or, All, Option, None, Some, if◌then◌else◌, map, IsTrue}
use Rattle.std.specs.List.{list_all}
use Rattle.std.specs.Ordering.{nat_cmp}
use Rattle.std.specs.List.Sorted.{IsStrictlySortedBy}
use Rattle.std.specs.Map.{keys_of, lookup, values_of}
use Rattle.std.specs.BTreeMap.{is_at}
use Rattle.bt_types.specs.Grammar.{is_row_key}
use Rattle.bt_rules.specs.declared.family.Family.{Family}
use Rattle.bt_entry.specs.declared.entry.Entry.{Entry}
use Rattle.bt_entry.specs.declared.entry.Entry.TheVariants.{Row, Create, Delete, Alter, Stream, Floor}
use Rattle.bt_entry.specs.declared.numbered.Numbered.{Numbered}
use Rattle.bt_entry.specs.declared.table_info.TableInfo.{TableInfo}
use Rattle.bt_entry.specs.Grammar.{AreSpellableFamilies, IsSpellableEntry, is_retention, last_moment}
use Rattle.bt_schema.specs.Schema.{Schema, change_refusal, is_family_of, schema_after, table_at}
use Rattle.bt_contents.specs.Contents.{Contents, is_used, put_row}
use Rattle.bt_all_contents.specs.AllContents.{with_rows, without_rows}
pub use Rattle.bt_all_contents.specs.AllContents.{AllContents, rows_of}

-- The tables as they are; the sequence of the last entry, or 0; and the greatest moment of an entry, or 0.
pub record Present : Type 0 where
  pub schema : Schema
  pub contents : AllContents
  pub last : ℕ
  pub floor : ℕ

-- The present; the entries of the history that are kept, in order; and by incarnation the greatest sequence of an entry of a row that is kept no longer.
pub record State : Type 0 where
  pub present : Present
  pub history : List Numbered
  pub lost : List (ℕ × ℕ)

-- before the first entry
abbrev pub nothing : Present
nothing = record { schema = []; contents = []; last = 0; floor = 0 }

abbrev pub empty_state : State
empty_state = record { present = nothing; history = []; lost = [] }

-- an entry at its moment, in microseconds since 1970
pub record Event : Type 0 where
  pub moment : ℕ
  pub entry : Entry

-- a new table has no rows, and the rows of a deleted one go
abbrev pub contents_after : Entry → AllContents → AllContents
contents_after (Row incarnation key by_rule mutations) contents = with_rows incarnation (put_row key mutations (rows_of incarnation contents)) contents
contents_after (Create name families retention) contents = contents
contents_after (Delete incarnation) contents = without_rows incarnation contents
contents_after (Alter incarnation families) contents = contents
contents_after (Stream incarnation retention) contents = contents
contents_after Floor contents = contents

-- the entry changes a row
abbrev pub IsOfRow : Entry → Type 0
IsOfRow (Row incarnation key by_rule mutations) = Unit {0}
IsOfRow _ = ⊥

-- the present after an event: its entry takes the next sequence
abbrev pub present_after : Present → Event → Present
present_after p e = record {
  schema = schema_after (p.last + 1) e.moment e.entry p.schema;
  contents = contents_after e.entry p.contents;
  last = p.last + 1;
  floor = e.moment;
}

-- the present after events, in order
abbrev pub presents_after : Present → List Event → Present
presents_after p [] = p
presents_after p (e ∷ es) = presents_after (present_after p e) es

-- an entry without its sequence
abbrev pub event_of : Numbered → Event
event_of n = record { moment = n.moment; entry = n.entry }

abbrev pub events_of : List Numbered → List Event
events_of batch = map event_of batch

abbrev pub numbered : ℕ → Event → Numbered
numbered sequence e = record { sequence = sequence; moment = e.moment; entry = e.entry }

-- the state after an event
abbrev pub after : State → Event → State
after s e = record { present = present_after s.present e; history = s.history ++ numbered (s.present.last + 1) e ∷ []; lost = s.lost }

-- the state after a record: events that are there all or none
abbrev pub after_record : State → List Event → State
after_record s [] = s
after_record s (e ∷ es) = after_record (after s e) es

-- the state after records
abbrev pub after_records : State → List (List Event) → State
after_records s [] = s
after_records s (r ∷ rs) = after_records (after_record s r) rs

-- the greatest sequence of an entry
abbrev pub greatest_sequence : ℕ
greatest_sequence = 4611686018427387904

-- the moment used for a reading of the clock: moments never fall, and none is past the year 9999
abbrev pub moment_used : ℕ → ℕ → ℕ
moment_used floor reading = max floor (min reading last_moment)

-- ---- which entries may come

-- each of the families is among these, or has no cell
abbrev pub keep_used : List Family → List Family → Contents → Bool
keep_used kept families rows = list_all (λ f. is_family_of kept f.name || not (is_used f.name rows)) families

-- the families of that table
abbrev pub families_of : Option TableInfo → List Family
families_of None = []
families_of (Some t) = t.families

-- no family that a row has is taken away
abbrev pub keeps_rows : Entry → Present → Bool
keeps_rows (Alter incarnation families) p = keep_used families (families_of (table_at incarnation p.schema)) (rows_of incarnation p.contents)
keeps_rows _ p = true

-- as far as the tables and their rows tell
abbrev pub is_allowed : Entry → Present → Bool
is_allowed e p = is_none (change_refusal e p.schema) && keeps_rows e p

-- the event may come next
pub record IsLawful (p : Present) (e : Event) : Type 0 where
  pub spellable : IsSpellableEntry e.entry
  pub not_past : e.moment ≤ last_moment
  pub not_before : p.floor ≤ e.moment
  pub allowed : is_allowed e.entry p ≡ true

-- each may come in turn
abbrev pub AreLawful : Present → List Event → Type 0
AreLawful p [] = Unit {0}
AreLawful p (e ∷ es) = IsLawful p e × AreLawful (present_after p e) es

-- ---- a history that is cut

abbrev pub is_past : ℕ → Numbered → Bool
is_past n e = nat_lt n e.sequence

-- the sequence of an entry of a row of that table, or 0
abbrev pub sequence_in : ℕ → Entry → ℕ → ℕ
sequence_in incarnation (Row other key by_rule mutations) sequence = if other == incarnation then sequence else 0
sequence_in incarnation _ sequence = 0

-- the greatest of those up to n, or this number
abbrev pub greatest_lost : ℕ → ℕ → List Numbered → ℕ → ℕ
greatest_lost incarnation n history before = fold (λ m e. if is_past n e then m else max m (sequence_in incarnation e.entry e.sequence)) before history

-- the greatest sequence of an entry of a row of that table that is kept no longer, or 0
abbrev pub lost_of : ℕ → State → ℕ
lost_of incarnation s = unwrap_or (lookup (is_at (nat_cmp incarnation)) s.lost) 0

-- what is lost of each table once the entries up to n are
abbrev pub lost_after : ℕ → State → Schema → List (ℕ × ℕ)
lost_after n s [] = []
lost_after n s (t ∷ ts) = (t.1.incarnation, greatest_lost t.1.incarnation n s.history (lost_of t.1.incarnation s)) ∷ lost_after n s ts

-- the state without the entries up to n
abbrev pub cut_history : ℕ → State → State
cut_history n s = record { present = s.present; history = filter (is_past n) s.history; lost = lost_after n s s.present.schema }

-- the entries up to n are from more than seven days before the floor, in microseconds
abbrev pub AreAged : ℕ → State → Type 0
AreAged n s = All (λ e. e.sequence ≤ n → e.moment + 604800000000 < s.present.floor) s.history

-- no table has an incarnation past the last sequence
abbrev pub AreMade : ℕ → Schema → Type 0
AreMade last schema = All (λ t. t.incarnation ≤ last) (values_of schema)

-- the rows of tables stand in the order of incarnations
abbrev pub AreOrdered : AllContents → Type 0
AreOrdered contents = IsStrictlySortedBy nat_cmp (keys_of contents)

-- the families of each table can be written, and so can its retention
abbrev pub AreLawfulTables : Schema → Type 0
AreLawfulTables schema = All (λ t. AreSpellableFamilies t.families × IsTrue (is_retention t.retention)) (values_of schema)

-- each row has a key that a row may have
abbrev pub AreRowKeys : Contents → Type 0
AreRowKeys rows = All (λ k. IsTrue (is_row_key k)) (keys_of rows)

-- what holds of every present
pub record IsReached (p : Present) : Type 0 where
  pub made : AreMade p.last p.schema
  pub within : p.last ≤ greatest_sequence
  pub ordered : AreOrdered p.contents
  pub lawful : AreLawfulTables p.schema
  pub keyed : All AreRowKeys (values_of p.contents)
