-- Rows that lose the cells of families, as the code comes to the records of a modification.
use Rattle.std.specs.Prelude.{ℕ, Bool, false, List, [], ◌∷◌, ◌++◌, filter, map, bytes_eq, IsTrue}
use Rattle.std.specs.BTreeMap.{insert_entry}
use Rattle.std.specs.Cmp.Lexicographic.{slice_cmp}
use Rattle.std.specs.List.{AllByRecursion, flat_map, list_any}
use Rattle.std.specs.List.Sorted.{IsStrictlySortedBy}
use Rattle.std.specs.Map.{keys_of}
use Rattle.std.specs.Ordering.{nat_cmp}
use Rattle.bt_types.specs.Grammar.{is_row_key}
use Rattle.bt_types.specs.declared.cell.Cell.{Cell}
use Rattle.bt_types.specs.declared.mutation.Mutation.{Mutation}
use Rattle.bt_types.specs.declared.mutation.Mutation.TheVariants.{DeleteFamily}
use Rattle.bt_contents.specs.Contents.{Contents, list_at}
use Rattle.bt_entry.specs.declared.entry.Entry.{Entry}
use Rattle.bt_entry.specs.declared.entry.Entry.TheVariants.{Alter, Row}
use Rattle.bt_entry.specs.declared.table_info.TableInfo.{TableInfo}
use Rattle.bt_messages.specs.Lines.{line_of, ok_line, response_data}
use Rattle.bt_messages.specs.Responses.{shown}
use Rattle.bt_messages.specs.declared.response.Response.TheVariants.{ModifyColumnFamilies}
use Rattle.bt_plans.specs.Replies.{Reply, event}
use Rattle.bt_state.specs.State.{AreOrdered, Present, rows_of}

-- the keys of rows, in order, each with the deletions that its row is given
abbrev pub Losses : Type 0
Losses = List (List ℕ × List Mutation)

-- the row has a cell of the family
abbrev pub has_cell : List Cell → List ℕ → Bool
has_cell row family = list_any (λ c. bytes_eq c.family family) row

-- a deletion of each of the families of these names that the row has
abbrev pub deletions_of : List (List ℕ) → List Cell → List Mutation
deletions_of names row = map (λ n. DeleteFamily n) (filter (has_cell row) names)

-- a row without deletions loses nothing
abbrev pub loss : List ℕ → List Mutation → Losses
loss key [] = []
loss key (d ∷ ds) = (key, d ∷ ds) ∷ []

-- what the rows lose with the families of these names
abbrev pub losses : List (List ℕ) → Contents → Losses
losses names rows = flat_map (λ r. loss r.0 (deletions_of names r.1)) rows

-- the row at the key loses one more family
abbrev pub with_loss : List ℕ → Losses → List ℕ → Losses
with_loss family ls key = insert_entry (slice_cmp nat_cmp) ls key (list_at (slice_cmp nat_cmp) key ls ++ DeleteFamily family ∷ [])

-- the entry of a row that loses cells
abbrev pub loss_entry : ℕ → List ℕ × List Mutation → Entry
loss_entry incarnation l = Row incarnation l.0 false l.1

-- the entries of rows that lose cells, and then of the table's families
abbrev pub modified_entries : List (List ℕ) → Contents → TableInfo → List Entry
modified_entries names rows t = map (loss_entry t.incarnation) (losses names rows) ++ Alter t.incarnation t.families ∷ []

-- the table is shown, and these entries are one record
abbrev pub modified : ℕ → List Entry → TableInfo → Reply
modified m entries t = record {
  responses = line_of (response_data (shown (ModifyColumnFamilies t))) ∷ [];
  status = ok_line;
  records = map (event m) entries ∷ [];
}

-- what is known of a table whose losses were found: its rows are in the order of their keys, the keys of those that lose cells can be written, and no table's rows stand twice
pub record AreFound (names : List (List ℕ)) (incarnation : ℕ) (p : Present) : Type 0 where
  pub sorted : IsStrictlySortedBy (slice_cmp nat_cmp) (keys_of (rows_of incarnation p.contents))
  pub keys : AllByRecursion (λ l. IsTrue (is_row_key l.0)) (losses names (rows_of incarnation p.contents))
  pub ordered : AreOrdered p.contents
