-- A fault has no more bytes left than there were.
use Rattle.std.proofs.Common.{◌≡◌, ℕ, zero, suc, ◌-◌, ◌≤◌, Bool, true, false, eqb, List, [], length, None, Ok, Err, arith}
use Rattle.std.specs.Prelude.{nat_le, ◌&&◌}
use Rattle.std.specs.Int.{w8, w16, w32, w64}
use Rattle.bt_codec.specs.Reading.{Reads, number_with, anywhere, counted_at}
use Rattle.bt_codec.proofs.Places.{Keeps, then_in, test_in, number_in, tested_in, text_in, name_in, many_in, counted_in, last_in}
use Rattle.bt_types.specs.Grammar.{is_row_key, is_qualifier, is_family_name, is_table_name}
use Rattle.bt_types.specs.Time.{is_micros}
use Rattle.bt_types.specs.declared.mutation.Mutation.TheVariants.{DeleteRow}
use Rattle.bt_rules.specs.declared.rule.Rule.{Rule}
use Rattle.bt_entry.specs.declared.entry.Entry.TheVariants.{Floor}
use Rattle.bt_entry.specs.Grammar.{last_moment, last_time, is_retention, most_of_value, most_families, is_family_behind, name_of, next_sequence}
use Rattle.bt_entry.specs.Reading.{time_at, set_cell_at, delete_column_at, delete_family_at, mutation_at, versions_at, age_at, left_behind, parts_at, node_at, rule_at, rule_or_none_at, family_at, mutations_at, families_at, family_list_at, row_at, create_at, delete_at, alter_at, stream_at, entry_at, numbered_at, entries_at, batch_at}

set_cell_in : Keeps set_cell_at
unfolding set_cell_at
set_cell_in m bytes le =
    then_in m _ _ (name_in w8 1 64 is_family_name m bytes le) (λ f j.
    then_in m _ _ (name_in w16 0 16384 is_qualifier m f.1 j) (λ q k.
    then_in m _ _ (tested_in w64 is_micros m q.1 k) (λ t l.
    then_in m _ _ (text_in w32 0 most_of_value m t.1 l) (λ v i. i))))

time_in : Keeps time_at
time_in m bytes le = tested_in w64 (λ n. nat_le n last_time) m bytes le

delete_column_in : Keeps delete_column_at
unfolding delete_column_at
delete_column_in m bytes le =
    then_in m _ _ (name_in w8 1 64 is_family_name m bytes le) (λ f j.
    then_in m _ _ (name_in w16 0 16384 is_qualifier m f.1 j) (λ q k.
    then_in m _ _ (time_in m q.1 k) (λ s l.
    then_in m _ _ (time_in m s.1 l) (λ t i. i))))

delete_family_in : Keeps delete_family_at
unfolding delete_family_at
delete_family_in m bytes le = then_in m _ _ (name_in w8 1 64 is_family_name m bytes le) (λ f j. j)

mutation_in : Keeps mutation_at
unfolding mutation_at
mutation_in m bytes le =
    then_in m _ _ (number_in w8 m bytes le) (λ t k.
    test_in m (eqb t.0 1) (set_cell_at t.1) _ (set_cell_in m t.1 k)
    (test_in m (eqb t.0 2) (delete_column_at t.1) _ (delete_column_in m t.1 k)
    (test_in m (eqb t.0 3) (delete_family_at t.1) _ (delete_family_in m t.1 k)
    (test_in m (eqb t.0 4) (Ok (DeleteRow, t.1)) (Err (length bytes)) k le))))

-- ---- rules

versions_in : Keeps versions_at
unfolding versions_at
versions_in m bytes le = then_in m _ _ (tested_in w32 (λ n. nat_le 1 n) m bytes le) (λ n k. k)

age_in : Keeps age_at
unfolding age_at
age_in m bytes le = then_in m _ _ (tested_in w64 (λ n. nat_le 1000 n) m bytes le) (λ n k. k)

parts_in_rule : (read : ℕ → List ℕ → Reads Rule) → ((left : ℕ) → Keeps (read left)) → (left : ℕ) → Keeps (parts_at read left)
unfolding parts_at
parts_in_rule read each left m bytes le =
    then_in m _ _ (tested_in w8 (λ n. nat_le 1 n && nat_le n left) m bytes le) (λ n k. many_in read left_behind each n.0 (left - n.0) m n.1 k)

node_in : (read : ℕ → List ℕ → Reads Rule) → ((left : ℕ) → Keeps (read left)) → (left : ℕ) → Keeps (node_at read left)
unfolding node_at
node_in read each left m bytes le =
    then_in m _ _ (number_in w8 m bytes le) (λ t k.
    test_in m (eqb t.0 1) (versions_at t.1) _ (versions_in m t.1 k)
    (test_in m (eqb t.0 2) (age_at t.1) _ (age_in m t.1 k)
    (test_in m (eqb t.0 3) _ _ (then_in m _ _ (parts_in_rule read each left m t.1 k) (λ p l. l))
    (test_in m (eqb t.0 4) _ (Err (length bytes)) (then_in m _ _ (parts_in_rule read each left m t.1 k) (λ p l. l)) le))))

rule_in : (levels left : ℕ) → Keeps (rule_at levels left)
unfolding rule_at
rule_in zero left m bytes le = le
rule_in (suc levels) left m bytes le = node_in (rule_at levels) (rule_in levels) left m bytes le

rule_or_none_in : Keeps rule_or_none_at
unfolding rule_or_none_at
rule_or_none_in m bytes le =
    then_in m _ _ (number_in w8 m bytes le) (λ t k.
    test_in m (eqb t.0 0) (Ok (None, t.1)) _ k (then_in m _ _ (rule_in 8 31 m bytes le) (λ r l. l)))

family_in : (before : List ℕ) → Keeps (family_at before)
unfolding family_at
family_in before m bytes le =
    then_in m _ _ (name_in w8 1 64 (is_family_behind before) m bytes le) (λ f j.
    then_in m _ _ (rule_or_none_in m f.1 j) (λ r k. k))

pub family_list_in : Keeps family_list_at
family_list_in m bytes le = counted_in w16 (λ n. nat_le n most_families) families_at (λ n. many_in family_at name_of family_in n []) m bytes le

-- ---- entries

pub retention_in : Keeps (number_with w64 is_retention)
retention_in m bytes le = tested_in w64 is_retention m bytes le

row_in : (by_rule : Bool) → Keeps (row_at by_rule)
unfolding row_at
row_in by_rule m bytes le =
    then_in m _ _ (number_in w64 m bytes le) (λ i j.
    then_in m _ _ (name_in w16 1 4096 is_row_key m i.1 j) (λ key k.
    then_in m _ _ (counted_in w32 (λ n. nat_le 1 n) mutations_at (λ n. many_in (λ _. mutation_at) anywhere (λ _. mutation_in) n 0) m key.1 k) (λ ms l. l)))

create_in : Keeps create_at
unfolding create_at
create_in m bytes le =
    then_in m _ _ (name_in w16 31 278 is_table_name m bytes le) (λ name j.
    then_in m _ _ (family_list_in m name.1 j) (λ fs k.
    then_in m _ _ (retention_in m fs.1 k) (λ r l. l)))

delete_in : Keeps delete_at
unfolding delete_at
delete_in m bytes le = then_in m _ _ (number_in w64 m bytes le) (λ i j. j)

alter_in : Keeps alter_at
unfolding alter_at
alter_in m bytes le =
    then_in m _ _ (number_in w64 m bytes le) (λ i j.
    then_in m _ _ (family_list_in m i.1 j) (λ fs k. k))

stream_in : Keeps stream_at
unfolding stream_at
stream_in m bytes le =
    then_in m _ _ (number_in w64 m bytes le) (λ i j.
    then_in m _ _ (retention_in m i.1 j) (λ r k. k))

entry_in : Keeps entry_at
unfolding entry_at
entry_in m bytes le =
    then_in m _ _ (number_in w8 m bytes le) (λ t k.
    test_in m (eqb t.0 1) (row_at false t.1) _ (row_in false m t.1 k)
    (test_in m (eqb t.0 2) (row_at true t.1) _ (row_in true m t.1 k)
    (test_in m (eqb t.0 3) (create_at t.1) _ (create_in m t.1 k)
    (test_in m (eqb t.0 4) (delete_at t.1) _ (delete_in m t.1 k)
    (test_in m (eqb t.0 5) (alter_at t.1) _ (alter_in m t.1 k)
    (test_in m (eqb t.0 6) (stream_at t.1) _ (stream_in m t.1 k)
    (test_in m (eqb t.0 7) (Ok (Floor, t.1)) (Err (length bytes)) k le)))))))

numbered_in : (s : ℕ) → Keeps (numbered_at s)
unfolding numbered_at
numbered_in s m bytes le =
    then_in m _ _ (tested_in w64 (λ n. nat_le n last_moment) m bytes le) (λ moment j.
    then_in m _ _ (entry_in m moment.1 j) (λ said k. k))

pub place_in : (first : ℕ) (bytes : List ℕ) (left : ℕ) → batch_at first bytes ≡ Err left → left ≤ length bytes
unfolding batch_at
place_in first bytes left e =
    let read = counted_in w32 (λ n. nat_le 1 n) (entries_at first) (λ n. many_in numbered_at next_sequence numbered_in n first) (length bytes) bytes (omega arith) in
    last_in (length bytes) (counted_at w32 (λ n. nat_le 1 n) (entries_at first) bytes) left read e
