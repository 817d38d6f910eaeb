-- The two laws of each record: what is read is spelled so, and what is spelled so is read.
use Rattle.std.proofs.Common.{◌≡◌, ℕ, ◌^◌, ◌<◌, ◌≤◌, true, cond, eqb, List, [], ◌∷◌, ◌++◌, length, Ok, Err, refl, ap, subst, ◌∙◌, append_assoc, arith}
use Rattle.std.specs.Prelude.{nat_le, nat_lt, ◌==◌, ◌%◌, IsTrue}
use Rattle.std.specs.Int.{w8, w16, w32, w64, to_be_bytes}
use Rattle.std.proofs.lemmas.Bool.{and_parts, ltb-true, leb-true, le-leb}
use Rattle.bt_types.specs.Grammar.{is_row_key, is_qualifier, is_family_name, is_table_name}
use Rattle.bt_types.specs.Time.{is_micros}
use Rattle.bt_types.specs.declared.mutation.Mutation.{Mutation}
use Rattle.bt_types.specs.declared.mutation.Mutation.TheVariants.{SetCell, DeleteColumn, DeleteFamily, DeleteRow}
use Rattle.bt_rules.specs.declared.family.Family.{Family}
use Rattle.bt_codec.specs.Lists.{AllFrom}
use Rattle.bt_entry.specs.Grammar.{last_moment, last_time, most_of_value, most_families, is_retention, is_below, is_family_behind, name_of, IsFamilyBehind, AreSpellableFamilies, RulesFit, rule_or_none_fits, IsSpellableMutation}
use Rattle.bt_codec.specs.Spelling.{text, list}
use Rattle.bt_entry.specs.Spelling.{mutation, family, rule_or_none}
use Rattle.bt_codec.specs.Reading.{◌>>=◌, Reads, number_at, number_with, text_at, text_with, anywhere, counted_at}
use Rattle.bt_entry.specs.Reading.{time_at, set_cell_at, delete_column_at, delete_family_at, mutation_at, rule_or_none_at, family_at, mutations_at, family_list_at}
use Rattle.bt_types.proofs.LawfulNames.{family_len, table_len, key_len, qualifier_len}
use Rattle.bt_codec.proofs.Codecs.{IsBytes, bind_ok, ok_is, Takes, Takes-then, IsCodec, wide8, wide16, wide32, wide64, tested_codec, text_codec, name_codec, u8_codec, by_tag, no_value, behind}
use Rattle.bt_codec.proofs.Many.{counted_codec}
use Rattle.bt_entry.proofs.RuleLaws.{rule_or_none_codec}

micros_codec : IsCodec (number_with w64 is_micros) (to_be_bytes w64) (λ n. (n < 2 ^ 64) × (is_micros n ≡ true))
micros_codec = tested_codec w64 (2 ^ 64) wide64 is_micros

pub moment_codec : IsCodec (number_with w64 (λ n. nat_le n last_moment)) (to_be_bytes w64) (λ n. (n < 2 ^ 64) × (nat_le n last_moment ≡ true))
moment_codec = tested_codec w64 (2 ^ 64) wide64 (λ n. nat_le n last_moment)

time_codec : IsCodec time_at (to_be_bytes w64) (λ n. (n < 2 ^ 64) × (nat_le n last_time ≡ true))
time_codec = tested_codec w64 (2 ^ 64) wide64 (λ n. nat_le n last_time)

pub retention_codec : IsCodec (number_with w64 is_retention) (to_be_bytes w64) (λ n. (n < 2 ^ 64) × (is_retention n ≡ true))
retention_codec = tested_codec w64 (2 ^ 64) wide64 is_retention

pub key_codec : IsCodec (text_with w16 1 4096 is_row_key) (text w16) (λ t. is_row_key t ≡ true)
key_codec = name_codec w16 (2 ^ 16) wide16 1 4096 (omega arith) is_row_key key_len

qualifier_codec : IsCodec (text_with w16 0 16384 is_qualifier) (text w16) (λ t. is_qualifier t ≡ true)
qualifier_codec = name_codec w16 (2 ^ 16) wide16 0 16384 (omega arith) is_qualifier qualifier_len

family_name_codec : IsCodec (text_with w8 1 64 is_family_name) (text w8) (λ t. is_family_name t ≡ true)
family_name_codec = name_codec w8 (2 ^ 8) wide8 1 64 (omega arith) is_family_name family_len

next_name_codec : (before : List ℕ) → IsCodec (text_with w8 1 64 (is_family_behind before)) (text w8) (λ t. is_family_behind before t ≡ true)
next_name_codec before = name_codec w8 (2 ^ 8) wide8 1 64 (omega arith) (is_family_behind before) (λ t h. family_len t (and_parts (is_family_name t) (is_below before t) h).0)

pub table_codec : IsCodec (text_with w16 31 278 is_table_name) (text w16) (λ t. is_table_name t ≡ true)
table_codec = name_codec w16 (2 ^ 16) wide16 31 278 (omega arith) is_table_name table_len

value_codec : IsCodec (text_at w32 0 most_of_value) (text w32) (λ t. (0 ≤ length t) × (length t ≤ most_of_value))
value_codec = text_codec w32 (2 ^ 32) wide32 0 most_of_value (omega arith)

-- ---- families

-- with a rule whose numbers fit
abbrev CanStandBehind : List ℕ → Family → Type 0
CanStandBehind before f = IsFamilyBehind before f × IsTrue (rule_or_none_fits f.rule)

family_takes : (before bytes : List ℕ) (x : Family) (rest : List ℕ) → IsBytes bytes → family_at before bytes ≡ Ok (x, rest) → Takes bytes (family x) rest × CanStandBehind before x
unfolding family_at
family_takes before bytes x rest fits e =
    let a = bind_ok (text_with w8 1 64 (is_family_behind before) bytes) (λ name. rule_or_none_at name.1 >>= λ rule. Ok (record { name = name.0; rule = rule.0 }, rule.1)) (x, rest) e in
    let b = bind_ok (rule_or_none_at a.0.1) (λ rule. Ok (record { name = a.0.0; rule = rule.0 }, rule.1)) (x, rest) a.2 in
    let t0 = (next_name_codec before).takes bytes a.0.0 a.0.1 fits a.1 in
    let t1 = rule_or_none_codec.takes a.0.1 b.0.0 b.0.1 t0.0.rest_fits b.1 in
    let both = Takes-then bytes (text w8 a.0.0) a.0.1 (rule_or_none b.0.0) b.0.1 t0.0 t1.0 in
    let made : Family × List ℕ = (record { name = a.0.0; rule = b.0.0 }, b.0.1) in
    subst (λ (y : Family × List ℕ). Takes bytes (family y.0) y.1 × CanStandBehind before y.0) (ok_is made (x, rest) b.2) (both, ((t0.1, t1.1.0), t1.1.1))

family_again : (before : List ℕ) (x : Family) (rest : List ℕ) → CanStandBehind before x → family_at before (family x ++ rest) ≡ Ok (x, rest)
unfolding family_at
family_again before x rest h =
    let parts : family x ++ rest ≡ text w8 x.name ++ (rule_or_none x.rule ++ rest) = append_assoc (text w8 x.name) (rule_or_none x.rule) rest in
    ap (family_at before) parts ∙ rw ((next_name_codec before).again x.name (rule_or_none x.rule ++ rest) h.0.0, rule_or_none_codec.again x.rule rest (h.0.1, h.1)) refl

family_codec : (before : List ℕ) → IsCodec (family_at before) family (CanStandBehind before)
family_codec before = record { takes = family_takes before; again = family_again before }

split_families : (before : List ℕ) (fs : List Family) → AllFrom name_of CanStandBehind before fs → AllFrom name_of IsFamilyBehind before fs × RulesFit fs
split_families before [] all = (tt, tt)
split_families before (f ∷ fs) all = let others = split_families f.name fs all.1 in ((all.0.0, others.0), (all.0.1, others.1))

join_families : (before : List ℕ) (fs : List Family) → AllFrom name_of IsFamilyBehind before fs → RulesFit fs → AllFrom name_of CanStandBehind before fs
join_families before [] p q = tt
join_families before (f ∷ fs) p q = ((p.0, q.0), join_families f.name fs p.1 q.1)

families_are : IsCodec family_list_at (list w16 family) (λ fs. (length fs < 2 ^ 16) × (nat_le (length fs) most_families ≡ true) × AllFrom name_of CanStandBehind [] fs)
families_are = counted_codec w16 (2 ^ 16) wide16 (λ n. nat_le n most_families) family_at name_of family CanStandBehind family_codec []

pub families_codec : IsCodec family_list_at (list w16 family) (λ fs. AreSpellableFamilies fs × RulesFit fs)
families_codec = record {
  takes = λ bytes fs rest fits e.
      let t = families_are.takes bytes fs rest fits e in
      let each = split_families [] fs t.1.2 in
      (t.0, ((leb-true _ _ t.1.1, each.0), each.1));
  again = λ fs rest h.
      let few : length fs ≤ most_families = h.0.0 in
      families_are.again fs rest (omega (arith, few), le-leb _ _ few, join_families [] fs h.0.1 h.1);
}

-- ---- mutations

-- a row's deletion has nothing behind its tag
abbrev no_more : List ℕ → Reads Mutation
no_more bytes = Ok (DeleteRow, bytes)

set_cell_takes : (bytes : List ℕ) (x : Mutation) (rest : List ℕ) → IsBytes bytes → set_cell_at bytes ≡ Ok (x, rest) → Takes (1 ∷ bytes) (mutation x) rest × IsSpellableMutation x
unfolding set_cell_at
set_cell_takes bytes x rest fits e =
    let a = bind_ok (text_with w8 1 64 is_family_name bytes) (λ f. text_with w16 0 16384 is_qualifier f.1 >>= λ q. number_with w64 is_micros q.1 >>= λ t. text_at w32 0 most_of_value t.1 >>= λ v. Ok (SetCell f.0 q.0 t.0 v.0, v.1)) (x, rest) e in
    let b = bind_ok (text_with w16 0 16384 is_qualifier a.0.1) (λ q. number_with w64 is_micros q.1 >>= λ t. text_at w32 0 most_of_value t.1 >>= λ v. Ok (SetCell a.0.0 q.0 t.0 v.0, v.1)) (x, rest) a.2 in
    let c = bind_ok (number_with w64 is_micros b.0.1) (λ t. text_at w32 0 most_of_value t.1 >>= λ v. Ok (SetCell a.0.0 b.0.0 t.0 v.0, v.1)) (x, rest) b.2 in
    let d = bind_ok (text_at w32 0 most_of_value c.0.1) (λ v. Ok (SetCell a.0.0 b.0.0 c.0.0 v.0, v.1)) (x, rest) c.2 in
    let t0 = family_name_codec.takes bytes a.0.0 a.0.1 fits a.1 in
    let t1 = qualifier_codec.takes a.0.1 b.0.0 b.0.1 t0.0.rest_fits b.1 in
    let t2 = micros_codec.takes b.0.1 c.0.0 c.0.1 t1.0.rest_fits c.1 in
    let t3 = value_codec.takes c.0.1 d.0.0 d.0.1 t2.0.rest_fits d.1 in
    let e23 = Takes-then b.0.1 (to_be_bytes w64 c.0.0) c.0.1 (text w32 d.0.0) d.0.1 t2.0 t3.0 in
    let e13 = Takes-then a.0.1 (text w16 b.0.0) b.0.1 (to_be_bytes w64 c.0.0 ++ text w32 d.0.0) d.0.1 t1.0 e23 in
    let e03 = Takes-then bytes (text w8 a.0.0) a.0.1 (text w16 b.0.0 ++ (to_be_bytes w64 c.0.0 ++ text w32 d.0.0)) d.0.1 t0.0 e13 in
    let made : Mutation × List ℕ = (SetCell a.0.0 b.0.0 c.0.0 d.0.0, d.0.1) in
    let whole : Takes (1 ∷ bytes) (mutation (SetCell a.0.0 b.0.0 c.0.0 d.0.0)) d.0.1 = behind 1 bytes _ d.0.1 e03 in
    subst (λ (y : Mutation × List ℕ). Takes (1 ∷ bytes) (mutation y.0) y.1 × IsSpellableMutation y.0) (ok_is made (x, rest) d.2) (whole, (t0.1, t1.1, t2.1.1, t3.1.1))

delete_column_takes : (bytes : List ℕ) (x : Mutation) (rest : List ℕ) → IsBytes bytes → delete_column_at bytes ≡ Ok (x, rest) → Takes (2 ∷ bytes) (mutation x) rest × IsSpellableMutation x
unfolding delete_column_at
delete_column_takes bytes x rest fits e =
    let a = bind_ok (text_with w8 1 64 is_family_name bytes) (λ f. text_with w16 0 16384 is_qualifier f.1 >>= λ q. time_at q.1 >>= λ s. time_at s.1 >>= λ t. Ok (DeleteColumn f.0 q.0 s.0 t.0, t.1)) (x, rest) e in
    let b = bind_ok (text_with w16 0 16384 is_qualifier a.0.1) (λ q. time_at q.1 >>= λ s. time_at s.1 >>= λ t. Ok (DeleteColumn a.0.0 q.0 s.0 t.0, t.1)) (x, rest) a.2 in
    let c = bind_ok (time_at b.0.1) (λ s. time_at s.1 >>= λ t. Ok (DeleteColumn a.0.0 b.0.0 s.0 t.0, t.1)) (x, rest) b.2 in
    let d = bind_ok (time_at c.0.1) (λ t. Ok (DeleteColumn a.0.0 b.0.0 c.0.0 t.0, t.1)) (x, rest) c.2 in
    let t0 = family_name_codec.takes bytes a.0.0 a.0.1 fits a.1 in
    let t1 = qualifier_codec.takes a.0.1 b.0.0 b.0.1 t0.0.rest_fits b.1 in
    let t2 = time_codec.takes b.0.1 c.0.0 c.0.1 t1.0.rest_fits c.1 in
    let t3 = time_codec.takes c.0.1 d.0.0 d.0.1 t2.0.rest_fits d.1 in
    let e23 = Takes-then b.0.1 (to_be_bytes w64 c.0.0) c.0.1 (to_be_bytes w64 d.0.0) d.0.1 t2.0 t3.0 in
    let e13 = Takes-then a.0.1 (text w16 b.0.0) b.0.1 (to_be_bytes w64 c.0.0 ++ to_be_bytes w64 d.0.0) d.0.1 t1.0 e23 in
    let e03 = Takes-then bytes (text w8 a.0.0) a.0.1 (text w16 b.0.0 ++ (to_be_bytes w64 c.0.0 ++ to_be_bytes w64 d.0.0)) d.0.1 t0.0 e13 in
    let made : Mutation × List ℕ = (DeleteColumn a.0.0 b.0.0 c.0.0 d.0.0, d.0.1) in
    let whole : Takes (2 ∷ bytes) (mutation (DeleteColumn a.0.0 b.0.0 c.0.0 d.0.0)) d.0.1 = behind 2 bytes _ d.0.1 e03 in
    subst (λ (y : Mutation × List ℕ). Takes (2 ∷ bytes) (mutation y.0) y.1 × IsSpellableMutation y.0) (ok_is made (x, rest) d.2) (whole, (t0.1, t1.1, leb-true _ _ t2.1.1, leb-true _ _ t3.1.1))

delete_family_takes : (bytes : List ℕ) (x : Mutation) (rest : List ℕ) → IsBytes bytes → delete_family_at bytes ≡ Ok (x, rest) → Takes (3 ∷ bytes) (mutation x) rest × IsSpellableMutation x
unfolding delete_family_at
delete_family_takes bytes x rest fits e =
    let a = bind_ok (text_with w8 1 64 is_family_name bytes) (λ f. Ok (DeleteFamily f.0, f.1)) (x, rest) e in
    let t = family_name_codec.takes bytes a.0.0 a.0.1 fits a.1 in
    let made : Mutation × List ℕ = (DeleteFamily a.0.0, a.0.1) in
    let whole : Takes (3 ∷ bytes) (mutation (DeleteFamily a.0.0)) a.0.1 = behind 3 bytes (text w8 a.0.0) a.0.1 t.0 in
    subst (λ (y : Mutation × List ℕ). Takes (3 ∷ bytes) (mutation y.0) y.1 × IsSpellableMutation y.0) (ok_is made (x, rest) a.2) (whole, t.1)

delete_row_takes : (bytes : List ℕ) (x : Mutation) (rest : List ℕ) → IsBytes bytes → no_more bytes ≡ Ok (x, rest) → Takes (4 ∷ bytes) (mutation x) rest × IsSpellableMutation x
delete_row_takes bytes x rest fits e =
    let made : Mutation × List ℕ = (DeleteRow, bytes) in
    let whole : Takes (4 ∷ bytes) (4 ∷ []) bytes = record { parts = refl; rest_fits = fits } in
    subst (λ (y : Mutation × List ℕ). Takes (4 ∷ bytes) (mutation y.0) y.1 × IsSpellableMutation y.0) (ok_is made (x, rest) e) (whole, tt)

mutation_takes : (bytes : List ℕ) (x : Mutation) (rest : List ℕ) → IsBytes bytes → mutation_at bytes ≡ Ok (x, rest) → Takes bytes (mutation x) rest × IsSpellableMutation x
unfolding mutation_at
mutation_takes bytes x rest fits e =
    let a = bind_ok (number_at w8 bytes) (λ t. cond (eqb t.0 1) (set_cell_at t.1) (cond (eqb t.0 2) (delete_column_at t.1) (cond (eqb t.0 3) (delete_family_at t.1) (cond (eqb t.0 4) (no_more t.1) (Err (length bytes)))))) (x, rest) e in
    let b = a.0.0 in
    let after = a.0.1 in
    let t = u8_codec.takes bytes b after fits a.1 in
    let after_fits = t.0.rest_fits in
    by_tag mutation IsSpellableMutation bytes after b 1 (set_cell_at after) _ x rest t.0 (omega arith) (λ h. set_cell_takes after x rest after_fits h)
    (λ e2. by_tag mutation IsSpellableMutation bytes after b 2 (delete_column_at after) _ x rest t.0 (omega arith) (λ h. delete_column_takes after x rest after_fits h)
    (λ e3. by_tag mutation IsSpellableMutation bytes after b 3 (delete_family_at after) _ x rest t.0 (omega arith) (λ h. delete_family_takes after x rest after_fits h)
    (λ e4. by_tag mutation IsSpellableMutation bytes after b 4 (no_more after) _ x rest t.0 (omega arith) (λ h. delete_row_takes after x rest after_fits h)
    (λ e5. no_value (length bytes) (x, rest) _ e5) e4) e3) e2) a.2

set_cell_again : (f q : List ℕ) (t : ℕ) (v rest : List ℕ) → IsSpellableMutation (SetCell f q t v) → set_cell_at ((text w8 f ++ (text w16 q ++ (to_be_bytes w64 t ++ text w32 v))) ++ rest) ≡ Ok (SetCell f q t v, rest)
unfolding set_cell_at
set_cell_again f q t v rest fits =
    let parts : (text w8 f ++ (text w16 q ++ (to_be_bytes w64 t ++ text w32 v))) ++ rest ≡ text w8 f ++ (text w16 q ++ (to_be_bytes w64 t ++ (text w32 v ++ rest))) =
    append_assoc (text w8 f) (text w16 q ++ (to_be_bytes w64 t ++ text w32 v)) rest
    ∙ ap (λ (x : List ℕ). text w8 f ++ x) (append_assoc (text w16 q) (to_be_bytes w64 t ++ text w32 v) rest ∙ ap (λ (x : List ℕ). text w16 q ++ x) (append_assoc (to_be_bytes w64 t) (text w32 v) rest)) in
    let small : t < 2 ^ 63 = ltb-true t (2 ^ 63) (and_parts (t % 1000 == 0) (nat_lt t (2 ^ 63)) fits.2).1 in
    ap set_cell_at parts ∙ rw (family_name_codec.again f (text w16 q ++ (to_be_bytes w64 t ++ (text w32 v ++ rest))) fits.0, qualifier_codec.again q (to_be_bytes w64 t ++ (text w32 v ++ rest)) fits.1, micros_codec.again t (text w32 v ++ rest) (omega arith, fits.2), value_codec.again v rest (omega arith, fits.3)) refl

delete_column_again : (f q : List ℕ) (start end : ℕ) (rest : List ℕ) → IsSpellableMutation (DeleteColumn f q start end) → delete_column_at ((text w8 f ++ (text w16 q ++ (to_be_bytes w64 start ++ to_be_bytes w64 end))) ++ rest) ≡ Ok (DeleteColumn f q start end, rest)
unfolding delete_column_at
delete_column_again f q start end rest fits =
    let parts : (text w8 f ++ (text w16 q ++ (to_be_bytes w64 start ++ to_be_bytes w64 end))) ++ rest ≡ text w8 f ++ (text w16 q ++ (to_be_bytes w64 start ++ (to_be_bytes w64 end ++ rest))) =
    append_assoc (text w8 f) (text w16 q ++ (to_be_bytes w64 start ++ to_be_bytes w64 end)) rest
    ∙ ap (λ (x : List ℕ). text w8 f ++ x) (append_assoc (text w16 q) (to_be_bytes w64 start ++ to_be_bytes w64 end) rest ∙ ap (λ (x : List ℕ). text w16 q ++ x) (append_assoc (to_be_bytes w64 start) (to_be_bytes w64 end) rest)) in
    ap delete_column_at parts ∙ rw (family_name_codec.again f (text w16 q ++ (to_be_bytes w64 start ++ (to_be_bytes w64 end ++ rest))) fits.0, qualifier_codec.again q (to_be_bytes w64 start ++ (to_be_bytes w64 end ++ rest)) fits.1, time_codec.again start (to_be_bytes w64 end ++ rest) (omega (arith, fits.2), le-leb _ _ fits.2), time_codec.again end rest (omega (arith, fits.3), le-leb _ _ fits.3)) refl

delete_family_again : (f rest : List ℕ) → IsTrue (is_family_name f) → delete_family_at (text w8 f ++ rest) ≡ Ok (DeleteFamily f, rest)
unfolding delete_family_at
delete_family_again f rest fits = rw (family_name_codec.again f rest fits) refl

mutation_again : (x : Mutation) (rest : List ℕ) → IsSpellableMutation x → mutation_at (mutation x ++ rest) ≡ Ok (x, rest)
unfolding mutation_at
mutation_again (SetCell f q t v) rest fits = rw (u8_codec.again 1 ((text w8 f ++ (text w16 q ++ (to_be_bytes w64 t ++ text w32 v))) ++ rest) (omega arith)) (set_cell_again f q t v rest fits)
mutation_again (DeleteColumn f q start end) rest fits = rw (u8_codec.again 2 ((text w8 f ++ (text w16 q ++ (to_be_bytes w64 start ++ to_be_bytes w64 end))) ++ rest) (omega arith)) (delete_column_again f q start end rest fits)
mutation_again (DeleteFamily f) rest fits = rw (u8_codec.again 3 (text w8 f ++ rest) (omega arith)) (delete_family_again f rest fits)
mutation_again DeleteRow rest fits = rw (u8_codec.again 4 rest (omega arith)) refl

mutation_codec : IsCodec mutation_at mutation IsSpellableMutation
mutation_codec = record { takes = mutation_takes; again = mutation_again }

pub mutations_codec : IsCodec (counted_at w32 (λ n. nat_le 1 n) mutations_at) (list w32 mutation) (λ ms. (length ms < 2 ^ 32) × (nat_le 1 (length ms) ≡ true) × AllFrom anywhere (λ _. IsSpellableMutation) 0 ms)
mutations_codec = counted_codec w32 (2 ^ 32) wide32 (λ n. nat_le 1 n) (λ _. mutation_at) anywhere mutation (λ _. IsSpellableMutation) (λ _. mutation_codec) 0
