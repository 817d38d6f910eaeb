-- Reading from left to right. A fault is the number of bytes that are left where the first bad field begins.
use Rattle.std.specs.Prelude.{◌≡◌, ℕ, zero, suc, ◌-◌, Bool, true, false, Option, Some, None, List, [], length, Result, Ok, Err, nat_le, ◌==◌, ◌&&◌, if◌then◌else◌}
use Rattle.std.specs.Int.{w8, w16, w32, w64}
use Rattle.bt_codec.specs.Reading.{◌>>=◌, Reads, number_at, number_with, text_at, text_with, many_at, anywhere, counted_at, placed}
use Rattle.bt_types.specs.Grammar.{is_row_key, is_qualifier, is_family_name, is_table_name}
use Rattle.bt_types.specs.Time.{is_micros}
use Rattle.bt_types.specs.declared.mutation.Mutation.{Mutation}
use Rattle.bt_types.specs.declared.mutation.Mutation.TheVariants.{SetCell, DeleteColumn, DeleteFamily, DeleteRow}
use Rattle.bt_entry.specs.declared.fault.BatchRefusal.{BatchRefusal}
use Rattle.bt_entry.specs.declared.fault.BatchRefusal.TheVariants as refusal
use Rattle.bt_rules.specs.declared.family.Family.{Family}
use Rattle.bt_rules.specs.declared.rule.Rule.{Rule}
use Rattle.bt_rules.specs.declared.rule.Rule.TheVariants.{Versions, Age, Intersection, Union}
use Rattle.bt_rules.specs.Rules.{count_of}
use Rattle.bt_entry.specs.declared.entry.Entry.{Entry}
use Rattle.bt_entry.specs.declared.entry.Entry.TheVariants.{Row, Create, Delete, Alter, Stream, Floor}
use Rattle.bt_entry.specs.declared.numbered.Numbered.{Numbered}
use Rattle.bt_entry.specs.Grammar.{last_moment, last_time, most_of_value, most_families, is_family_behind, is_retention, name_of, next_sequence}

unfoldable pub set_cell_at : List ℕ → Reads Mutation
set_cell_at bytes = do
  family ← text_with w8 1 64 is_family_name bytes
  qualifier ← text_with w16 0 16384 is_qualifier family.1
  at ← number_with w64 is_micros qualifier.1
  value ← text_at w32 0 most_of_value at.1
  Ok (SetCell family.0 qualifier.0 at.0 value.0, value.1)

-- a start or an end of times
abbrev pub time_at : List ℕ → Reads ℕ
time_at bytes = number_with w64 (λ n. nat_le n last_time) bytes

unfoldable pub delete_column_at : List ℕ → Reads Mutation
delete_column_at bytes = do
  family ← text_with w8 1 64 is_family_name bytes
  qualifier ← text_with w16 0 16384 is_qualifier family.1
  start ← time_at qualifier.1
  end ← time_at start.1
  Ok (DeleteColumn family.0 qualifier.0 start.0 end.0, end.1)

unfoldable pub delete_family_at : List ℕ → Reads Mutation
delete_family_at bytes = do
  family ← text_with w8 1 64 is_family_name bytes
  Ok (DeleteFamily family.0, family.1)

unfoldable pub mutation_at : List ℕ → Reads Mutation
mutation_at bytes = do
  tag ← number_at w8 bytes
  if tag.0 == 1 then set_cell_at tag.1
      else if tag.0 == 2 then delete_column_at tag.1
      else if tag.0 == 3 then delete_family_at tag.1
      else if tag.0 == 4 then Ok (DeleteRow, tag.1)
      else Err (length bytes)

unfoldable pub versions_at : List ℕ → Reads Rule
versions_at bytes = do
  count ← number_with w32 (λ n. nat_le 1 n) bytes
  Ok (Versions count.0, count.1)

unfoldable pub age_at : List ℕ → Reads Rule
age_at bytes = do
  age ← number_with w64 (λ n. nat_le 1000 n) bytes
  Ok (Age age.0, age.1)

-- Of the nodes that a tree may have, those are left that no list so far has counted. A rule was counted itself where its list was.
abbrev pub left_behind : ℕ → Rule → ℕ
left_behind left r = left - (count_of r - 1)

-- the rules of a list: a count, for which nodes are left, and so many rules
unfoldable pub parts_at : (ℕ → List ℕ → Reads Rule) → ℕ → List ℕ → Reads (List Rule)
parts_at read left bytes = do
  count ← number_with w8 (λ n. nat_le 1 n && nat_le n left) bytes
  many_at read left_behind (left - count.0) count.0 count.1

-- a rule whose parts are read so, where so many further nodes are left
unfoldable pub node_at : (ℕ → List ℕ → Reads Rule) → ℕ → List ℕ → Reads Rule
node_at read left bytes = do
  tag ← number_at w8 bytes
  if tag.0 == 1 then versions_at tag.1
      else if tag.0 == 2 then age_at tag.1
      else if tag.0 == 3 then (do
        parts ← parts_at read left tag.1
        Ok (Intersection parts.0, parts.1))
      else if tag.0 == 4 then (do
        parts ← parts_at read left tag.1
        Ok (Union parts.0, parts.1))
      else Err (length bytes)

-- a rule of at most so many levels
unfoldable pub rule_at : ℕ → ℕ → List ℕ → Reads Rule
rule_at zero left bytes = Err (length bytes)
rule_at (suc levels) left bytes = node_at (rule_at levels) left bytes

-- no rule, or one of at most 8 levels and 32 nodes
unfoldable pub rule_or_none_at : List ℕ → Reads (Option Rule)
rule_or_none_at bytes = do
  tag ← number_at w8 bytes
  if tag.0 == 0 then Ok (None, tag.1) else (do
    rule ← rule_at 8 31 bytes
    Ok (Some rule.0, rule.1))

-- a name behind the one before it, and its rule
unfoldable pub family_at : List ℕ → List ℕ → Reads Family
family_at before bytes = do
  name ← text_with w8 1 64 (is_family_behind before) bytes
  rule ← rule_or_none_at name.1
  Ok (record { name = name.0; rule = rule.0 }, rule.1)

abbrev pub mutations_at : ℕ → List ℕ → Reads (List Mutation)
mutations_at count bytes = many_at (λ _. mutation_at) anywhere 0 count bytes

abbrev pub families_at : ℕ → List ℕ → Reads (List Family)
families_at count bytes = many_at family_at name_of [] count bytes

abbrev pub family_list_at : List ℕ → Reads (List Family)
family_list_at bytes = counted_at w16 (λ n. nat_le n most_families) families_at bytes

unfoldable pub row_at : Bool → List ℕ → Reads Entry
row_at by_rule bytes = do
  incarnation ← number_at w64 bytes
  key ← text_with w16 1 4096 is_row_key incarnation.1
  mutations ← counted_at w32 (λ n. nat_le 1 n) mutations_at key.1
  Ok (Row incarnation.0 key.0 by_rule mutations.0, mutations.1)

unfoldable pub create_at : List ℕ → Reads Entry
create_at bytes = do
  name ← text_with w16 31 278 is_table_name bytes
  families ← family_list_at name.1
  retention ← number_with w64 is_retention families.1
  Ok (Create name.0 families.0 retention.0, retention.1)

unfoldable pub delete_at : List ℕ → Reads Entry
delete_at bytes = do
  incarnation ← number_at w64 bytes
  Ok (Delete incarnation.0, incarnation.1)

unfoldable pub alter_at : List ℕ → Reads Entry
alter_at bytes = do
  incarnation ← number_at w64 bytes
  families ← family_list_at incarnation.1
  Ok (Alter incarnation.0 families.0, families.1)

unfoldable pub stream_at : List ℕ → Reads Entry
stream_at bytes = do
  incarnation ← number_at w64 bytes
  retention ← number_with w64 is_retention incarnation.1
  Ok (Stream incarnation.0 retention.0, retention.1)

unfoldable pub entry_at : List ℕ → Reads Entry
entry_at bytes = do
  tag ← number_at w8 bytes
  if tag.0 == 1 then row_at false tag.1
      else if tag.0 == 2 then row_at true tag.1
      else if tag.0 == 3 then create_at tag.1
      else if tag.0 == 4 then delete_at tag.1
      else if tag.0 == 5 then alter_at tag.1
      else if tag.0 == 6 then stream_at tag.1
      else if tag.0 == 7 then Ok (Floor, tag.1)
      else Err (length bytes)

unfoldable pub numbered_at : ℕ → List ℕ → Reads Numbered
numbered_at sequence bytes = do
  moment ← number_with w64 (λ n. nat_le n last_moment) bytes
  said ← entry_at moment.1
  Ok (record { sequence = sequence; moment = moment.0; entry = said.0 }, said.1)

abbrev pub entries_at : ℕ → ℕ → List ℕ → Reads (List Numbered)
entries_at first count bytes = many_at numbered_at next_sequence first count bytes

-- all of the bytes
unfoldable pub batch_at : ℕ → List ℕ → Result (List Numbered) ℕ
batch_at first bytes = do
  batch ← counted_at w32 (λ n. nat_le 1 n) (entries_at first) bytes
  if length batch.1 == 0 then Ok batch.0 else Err (length batch.1)

-- the batch that the bytes spell, its entries numbered on from the first, or the place of the first bad field
abbrev pub batch_in : ℕ → List ℕ → Result (List Numbered) ℕ
batch_in first bytes = placed bytes (batch_at first bytes)

-- a call answers so, unless memory ran out
abbrev pub Answers : Result (List Numbered) BatchRefusal → Result (List Numbered) ℕ → Type 0
Answers (Ok batch) read = read ≡ Ok batch
Answers (Err (refusal.BadEntry at)) read = read ≡ Err at
Answers (Err refusal.OutOfMemory) read = Unit {0}
