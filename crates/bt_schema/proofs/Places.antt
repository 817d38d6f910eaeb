-- A fault has no more bytes left than there were.
use Rattle.std.proofs.Common.{◌≡◌, ℕ, ◌≤◌, Bool, true, false, cond, eqb, List, [], length, Result, Ok, Err, refl, sym, subst, ◌∙◌, arith}
use Rattle.std.specs.Prelude.{nat_le}
use Rattle.std.specs.Int.{w16, w32, w64}
use Rattle.bt_entry.specs.Grammar.{is_table_behind, last_moment}
use Rattle.bt_codec.specs.Reading.{◌>>=◌, Reads, number_at}
use Rattle.bt_codec.proofs.Places.{Keeps, Within, last_in, many_in, name_in, number_in, tested_in, then_in}
use Rattle.bt_entry.proofs.Places.{family_list_in, retention_in}
use Rattle.bt_schema.specs.Schema.{Schema}
use Rattle.bt_schema.specs.Grammar.{behind, last_name}
use Rattle.bt_schema.specs.Reading.{is_free, schema_at, table_behind_at, tables_at}

table_in : (before : Schema) → Keeps (table_behind_at before)
unfolding table_behind_at
table_in before m bytes le =
    then_in m _ _ (name_in w16 31 278 (is_table_behind (last_name before)) m bytes le) (λ name a.
    then_in m _ _ (tested_in w64 (is_free before) m name.1 a) (λ incarnation b.
    then_in m _ _ (number_in w64 m incarnation.1 b) (λ since c.
    then_in m _ _ (tested_in w64 (λ n. nat_le n last_moment) m since.1 c) (λ moment d.
    then_in m _ _ (retention_in m moment.1 d) (λ retention e.
    then_in m _ _ (family_list_in m retention.1 e) (λ families f. f))))))

tables_in : (count : ℕ) → Keeps (tables_at count)
tables_in count m bytes le = many_in table_behind_at behind table_in count [] m bytes le

counted_in : (m : ℕ) (bytes : List ℕ) → length bytes ≤ m → Within m (number_at w32 bytes >>= λ count. tables_at count.0 count.1)
counted_in m bytes le = then_in m _ _ (number_in w32 m bytes le) (λ count a. tables_in count.0 m count.1 a)

abbrev whole : Reads Schema → Result Schema ℕ
whole read = read >>= λ x. cond (eqb (length x.1) 0) (Ok x.0) (Err (length x.1))

regrouped : (r : Reads ℕ) → (r >>= λ count. whole (tables_at count.0 count.1)) ≡ whole (r >>= λ count. tables_at count.0 count.1)
regrouped (Ok count) = refl
regrouped (Err l) = refl

pub place_in : (bytes : List ℕ) (left : ℕ) → schema_at bytes ≡ Err left → left ≤ length bytes
unfolding schema_at
place_in bytes left e = last_in (length bytes) (number_at w32 bytes >>= λ count. tables_at count.0 count.1) left (counted_in (length bytes) bytes (omega arith)) (sym (regrouped (number_at w32 bytes)) ∙ e)
