-- The two laws of tables: what is read is spelled so, and what is spelled so is read.
use Rattle.std.proofs.Common.{◌≡◌, ℕ, ◌+◌, ◌^◌, ◌<◌, Bool, true, cond, eqb, List, [], ◌∷◌, ◌++◌, length, Option, Some, None, Result, Ok, Err, refl, sym, ap, subst, ◌∙◌, append_assoc, arith, inl, inr}
use Rattle.std.specs.Prelude.{is_none, nat_le}
use Rattle.std.specs.List.{flat_map}
use Rattle.std.specs.Int.{Width, w16, w32, w64, to_be_bytes}
use Rattle.std.proofs.lemmas.Bool.{and_from, and_parts, eqb-true, leb-true, le-leb}
use Rattle.std.proofs.lemmas.List.{append-nil, nil_from_length}
use Rattle.bt_types.specs.Grammar.{is_table_name}
use Rattle.bt_codec.specs.Lists.{AllFrom}
use Rattle.bt_codec.specs.Spelling.{list, text}
use Rattle.bt_codec.specs.Reading.{◌>>=◌, Reads, many_at, number_at, number_with, text_at, text_with}
use Rattle.bt_codec.proofs.Codecs.{IsBytes, IsCodec, Takes, Takes-then, bind_ok, chosen, name_codec, number_codec, ok_is, passed, test_passed, tested_codec, u64_codec, wide16, wide32, wide64}
use Rattle.bt_codec.proofs.Many.{many_again, many_take}
use Rattle.bt_entry.specs.declared.table_info.TableInfo.{TableInfo}
use Rattle.bt_entry.specs.Grammar.{is_below, is_retention, is_table_behind, last_moment}
use Rattle.bt_entry.specs.Spelling.{family}
use Rattle.bt_entry.specs.Reading.{family_list_at}
use Rattle.bt_types.proofs.LawfulNames.{table_len}
use Rattle.bt_entry.proofs.Laws.{families_codec, moment_codec, retention_codec}
use Rattle.bt_entry.proofs.EntryLaws.{retention_small}
use Rattle.bt_schema.specs.Schema.{Schema, table_at}
use Rattle.bt_schema.specs.Grammar.{AreSpellableTables, IsSpellable, IsSpellableTable, StandsBehind, behind, last_name}
use Rattle.bt_schema.specs.Spelling.{named, spelling, table}
use Rattle.bt_schema.specs.Reading.{is_free, schema_at, table_behind_at, tables_at}

-- ---- fields

name_behind_codec : (before : List ℕ) → IsCodec (text_with w16 31 278 (is_table_behind before)) (text w16) (λ t. is_table_behind before t ≡ true)
name_behind_codec before = name_codec w16 (2 ^ 16) wide16 31 278 (omega arith) (is_table_behind before) (λ t h. table_len t (and_parts (is_table_name t) (is_below before t) h).0)

free_codec : (before : Schema) → IsCodec (number_with w64 (is_free before)) (to_be_bytes w64) (λ n. (n < 2 ^ 64) × (is_free before n ≡ true))
free_codec before = tested_codec w64 (2 ^ 64) wide64 (is_free before)

count_codec : IsCodec (number_at w32) (to_be_bytes w32) (λ n. n < 2 ^ 32)
count_codec = number_codec w32 (2 ^ 32) wide32

text_passes : (w : Width) (least most : ℕ) (passes : List ℕ → Bool) (bytes t rest : List ℕ) → text_with w least most passes bytes ≡ Ok (t, rest) → passes t ≡ true
unfolding text_with
text_passes w least most passes bytes t rest e =
    let a = bind_ok (text_at w least most bytes) (λ t. cond (passes t.0) (Ok t) (Err (length t.0 + length t.1))) (t, rest) e in
    let g = passed (passes a.0.0) (length a.0.0 + length a.0.1) a.0 (t, rest) a.2 in
    subst (λ (p : List ℕ × List ℕ). passes p.0 ≡ true) g.1 g.0

none_of : (o : Option TableInfo) → is_none o ≡ true → o ≡ None
none_of None e = refl
none_of (Some t) e = cc e

-- ---- a table

-- each field of a table that was read
record Fields (before : Schema) (bytes : List ℕ) (t : TableInfo) (rest : List ℕ) : Type 0 where
  pub behind_name : List ℕ
  pub behind_incarnation : List ℕ
  pub behind_since : List ℕ
  pub behind_moment : List ℕ
  pub behind_retention : List ℕ
  pub name : text_with w16 31 278 (is_table_behind (last_name before)) bytes ≡ Ok (t.name, behind_name)
  pub incarnation : number_with w64 (is_free before) behind_name ≡ Ok (t.incarnation, behind_incarnation)
  pub since : number_at w64 behind_incarnation ≡ Ok (t.since, behind_since)
  pub moment : number_with w64 (λ n. nat_le n last_moment) behind_since ≡ Ok (t.since_moment, behind_moment)
  pub retention : number_with w64 is_retention behind_moment ≡ Ok (t.retention, behind_retention)
  pub families : family_list_at behind_retention ≡ Ok (t.families, rest)

fields_of : (before : Schema) (bytes : List ℕ) (x : List ℕ × TableInfo) (rest : List ℕ) → table_behind_at before bytes ≡ Ok (x, rest) → (x.0 ≡ x.1.name) × Fields before bytes x.1 rest
unfolding table_behind_at
fields_of before bytes x rest e =
    let a = bind_ok _ _ (x, rest) e in
    let b = bind_ok _ _ (x, rest) a.2 in
    let c = bind_ok _ _ (x, rest) b.2 in
    let d = bind_ok _ _ (x, rest) c.2 in
    let f = bind_ok _ _ (x, rest) d.2 in
    let g = bind_ok _ _ (x, rest) f.2 in
    let made : (List ℕ × TableInfo) × List ℕ = ((a.0.0, record { name = a.0.0; incarnation = b.0.0; families = g.0.0; since = c.0.0; since_moment = d.0.0; retention = f.0.0 }), g.0.1) in
    let fields : Fields before bytes made.0.1 made.1 = record {
      behind_name = a.0.1;
      behind_incarnation = b.0.1;
      behind_since = c.0.1;
      behind_moment = d.0.1;
      behind_retention = f.0.1;
      name = a.1;
      incarnation = b.1;
      since = c.1;
      moment = d.1;
      retention = f.1;
      families = g.1;
    } in
    subst (λ (y : (List ℕ × TableInfo) × List ℕ). (y.0.0 ≡ y.0.1.name) × Fields before bytes y.0.1 y.1) (ok_is made (x, rest) g.2) (refl, fields)

-- a table that was read stands behind those before it
pub stands : (before : Schema) (bytes : List ℕ) (x : List ℕ × TableInfo) (rest : List ℕ) → table_behind_at before bytes ≡ Ok (x, rest) → StandsBehind before x
stands before bytes x rest e =
    let read = fields_of before bytes x rest e in
    let f = read.1 in
    let name = and_parts (is_table_name x.1.name) (is_below (last_name before) x.1.name) (text_passes w16 31 278 (is_table_behind (last_name before)) bytes x.1.name f.behind_name f.name) in
    (read.0, name.1, none_of (table_at x.1.incarnation before) (test_passed w64 (is_free before) f.behind_name (x.1.incarnation, f.behind_incarnation) f.incarnation))

abbrev CanStandBehind : Schema → List ℕ × TableInfo → Type 0
CanStandBehind before t = StandsBehind before t × IsSpellableTable t.1

table_takes : (before : Schema) (bytes : List ℕ) (x : List ℕ × TableInfo) (rest : List ℕ) → IsBytes bytes → table_behind_at before bytes ≡ Ok (x, rest) → Takes bytes (named x) rest × CanStandBehind before x
table_takes before bytes x rest fits e =
    let f = (fields_of before bytes x rest e).1 in
    let t = x.1 in
    let t0 = (name_behind_codec (last_name before)).takes bytes t.name f.behind_name fits f.name in
    let t1 = (free_codec before).takes f.behind_name t.incarnation f.behind_incarnation t0.0.rest_fits f.incarnation in
    let t2 = u64_codec.takes f.behind_incarnation t.since f.behind_since t1.0.rest_fits f.since in
    let t3 = moment_codec.takes f.behind_since t.since_moment f.behind_moment t2.0.rest_fits f.moment in
    let t4 = retention_codec.takes f.behind_moment t.retention f.behind_retention t3.0.rest_fits f.retention in
    let t5 = families_codec.takes f.behind_retention t.families rest t4.0.rest_fits f.families in
    let e4 = Takes-then f.behind_moment (to_be_bytes w64 t.retention) f.behind_retention (list w16 family t.families) rest t4.0 t5.0 in
    let e3 = Takes-then f.behind_since (to_be_bytes w64 t.since_moment) f.behind_moment (to_be_bytes w64 t.retention ++ list w16 family t.families) rest t3.0 e4 in
    let e2 = Takes-then f.behind_incarnation (to_be_bytes w64 t.since) f.behind_since (to_be_bytes w64 t.since_moment ++ (to_be_bytes w64 t.retention ++ list w16 family t.families)) rest t2.0 e3 in
    let e1 = Takes-then f.behind_name (to_be_bytes w64 t.incarnation) f.behind_incarnation (to_be_bytes w64 t.since ++ (to_be_bytes w64 t.since_moment ++ (to_be_bytes w64 t.retention ++ list w16 family t.families))) rest t1.0 e2 in
    let e0 = Takes-then bytes (text w16 t.name) f.behind_name (to_be_bytes w64 t.incarnation ++ (to_be_bytes w64 t.since ++ (to_be_bytes w64 t.since_moment ++ (to_be_bytes w64 t.retention ++ list w16 family t.families)))) rest t0.0 e1 in
    let name = and_parts (is_table_name t.name) (is_below (last_name before) t.name) t0.1 in
    (e0, (stands before bytes x rest e, (name.0, t1.1.0, t2.1, leb-true _ _ t3.1.1, t4.1.1, t5.1.0, t5.1.1)))

parts_of : (t : TableInfo) (rest : List ℕ) → table t ++ rest ≡ text w16 t.name ++ (to_be_bytes w64 t.incarnation ++ (to_be_bytes w64 t.since ++ (to_be_bytes w64 t.since_moment ++ (to_be_bytes w64 t.retention ++ (list w16 family t.families ++ rest)))))
parts_of t rest =
    let fs = list w16 family t.families in
    let p4 : (to_be_bytes w64 t.retention ++ fs) ++ rest ≡ to_be_bytes w64 t.retention ++ (fs ++ rest) = append_assoc (to_be_bytes w64 t.retention) fs rest in
    let p3 : (to_be_bytes w64 t.since_moment ++ (to_be_bytes w64 t.retention ++ fs)) ++ rest ≡ to_be_bytes w64 t.since_moment ++ (to_be_bytes w64 t.retention ++ (fs ++ rest)) = append_assoc (to_be_bytes w64 t.since_moment) (to_be_bytes w64 t.retention ++ fs) rest ∙ ap (λ (b : List ℕ). to_be_bytes w64 t.since_moment ++ b) p4 in
    let p2 : (to_be_bytes w64 t.since ++ (to_be_bytes w64 t.since_moment ++ (to_be_bytes w64 t.retention ++ fs))) ++ rest ≡ to_be_bytes w64 t.since ++ (to_be_bytes w64 t.since_moment ++ (to_be_bytes w64 t.retention ++ (fs ++ rest))) = append_assoc (to_be_bytes w64 t.since) (to_be_bytes w64 t.since_moment ++ (to_be_bytes w64 t.retention ++ fs)) rest ∙ ap (λ (b : List ℕ). to_be_bytes w64 t.since ++ b) p3 in
    append_assoc (text w16 t.name) (to_be_bytes w64 t.incarnation ++ (to_be_bytes w64 t.since ++ (to_be_bytes w64 t.since_moment ++ (to_be_bytes w64 t.retention ++ fs)))) rest
    ∙ ap (λ (b : List ℕ). text w16 t.name ++ b) (append_assoc (to_be_bytes w64 t.incarnation) (to_be_bytes w64 t.since ++ (to_be_bytes w64 t.since_moment ++ (to_be_bytes w64 t.retention ++ fs))) rest ∙ ap (λ (b : List ℕ). to_be_bytes w64 t.incarnation ++ b) p2)

table_again : (before : Schema) (x : List ℕ × TableInfo) (rest : List ℕ) → CanStandBehind before x → table_behind_at before (named x ++ rest) ≡ Ok (x, rest)
unfolding table_behind_at
table_again before x rest fits =
    let t = x.1 in
    let own = fits.1 in
    let fs = list w16 family t.families ++ rest in
    let r = to_be_bytes w64 t.retention ++ fs in
    let m = to_be_bytes w64 t.since_moment ++ r in
    let s = to_be_bytes w64 t.since ++ m in
    let i = to_be_bytes w64 t.incarnation ++ s in
    let behind_last : is_table_behind (last_name before) t.name ≡ true = and_from (is_table_name t.name) (is_below (last_name before) t.name) own.0 fits.0.1 in
    let free : is_free before t.incarnation ≡ true = ap is_none fits.0.2 in
    let a : text_with w16 31 278 (is_table_behind (last_name before)) (text w16 t.name ++ i) ≡ Ok (t.name, i) = (name_behind_codec (last_name before)).again t.name i behind_last in
    let b : number_with w64 (is_free before) i ≡ Ok (t.incarnation, s) = (free_codec before).again t.incarnation s (own.1, free) in
    let c : number_at w64 s ≡ Ok (t.since, m) = u64_codec.again t.since m own.2 in
    let d : number_with w64 (λ n. nat_le n last_moment) m ≡ Ok (t.since_moment, r) = moment_codec.again t.since_moment r (omega (arith, own.3), le-leb _ _ own.3) in
    let e : number_with w64 is_retention r ≡ Ok (t.retention, fs) = retention_codec.again t.retention fs (retention_small t.retention own.4, own.4) in
    let f : family_list_at fs ≡ Ok (t.families, rest) = families_codec.again t.families rest (own.5, own.6) in
    ap (table_behind_at before) (parts_of t rest) ∙ rw (a, b, c, d, e, f) (ap (λ (k : List ℕ). Ok ((k, t), rest)) (sym fits.0.0))

table_codec : (before : Schema) → IsCodec (table_behind_at before) named (CanStandBehind before)
table_codec before = record { takes = table_takes before; again = table_again before }

-- ---- all tables

parted : (before ts : Schema) → AllFrom behind CanStandBehind before ts → AllFrom behind StandsBehind before ts × AreSpellableTables ts
parted before [] all = (tt, tt)
parted before (t ∷ ts) all = let others = parted (behind before t) ts all.1 in ((all.0.0, others.0), (all.0.1, others.1))

united : (before ts : Schema) → AllFrom behind StandsBehind before ts → AreSpellableTables ts → AllFrom behind CanStandBehind before ts
united before [] p q = tt
united before (t ∷ ts) p q = ((p.0, q.0), united (behind before t) ts p.1 q.1)

pub schema_takes : (bytes : List ℕ) (s : Schema) → IsBytes bytes → schema_at bytes ≡ Ok s → IsSpellable s × (bytes ≡ spelling s)
unfolding schema_at
schema_takes bytes s fits e =
    let a = bind_ok (number_at w32 bytes) (λ n. tables_at n.0 n.1 >>= λ x. cond (eqb (length x.1) 0) (Ok x.0) (Err (length x.1))) s e in
    let b = bind_ok (tables_at a.0.0 a.0.1) (λ x. cond (eqb (length x.1) 0) (Ok x.0) (Err (length x.1))) s a.2 in
    let t0 = count_codec.takes bytes a.0.0 a.0.1 fits a.1 in
    let t1 = many_take table_behind_at behind named CanStandBehind (λ before. (table_codec before).takes) a.0.0 [] a.0.1 b.0 t0.0.rest_fits b.1 in
    let both = Takes-then bytes (to_be_bytes w32 a.0.0) a.0.1 (flat_map named b.0.0) b.0.1 t0.0 t1.0 in
    let counted : Takes bytes (spelling b.0.0) b.0.1 = subst (λ (n : ℕ). Takes bytes (to_be_bytes w32 n ++ flat_map named b.0.0) b.0.1) (sym t1.1) both in
    let few : length b.0.0 < 2 ^ 32 = rw t1.1 t0.1 in
    elim (chosen (eqb (length b.0.1) 0) (Ok b.0.0) (Err (length b.0.1)) s b.2) [
      | inl g ↦
          let nothing : b.0.1 ≡ [] = nil_from_length b.0.1 (eqb-true _ _ g.0) in
          let whole : bytes ≡ spelling b.0.0 = counted.parts ∙ ap (λ (r : List ℕ). spelling b.0.0 ++ r) nothing ∙ append-nil (spelling b.0.0) in
          let each = parted [] b.0.0 t1.2 in
          subst (λ (v : Schema). IsSpellable v × (bytes ≡ spelling v)) (ok_is b.0.0 s g.1) ((few, each.0, each.1), whole)
      | inr g ↦ let bad = g.1 in absurd cc
    ]

pub schema_again : (s : Schema) → IsSpellable s → schema_at (spelling s) ≡ Ok s
unfolding schema_at
schema_again s fits =
    let count : number_at w32 (spelling s) ≡ Ok (length s, flat_map named s) = count_codec.again (length s) (flat_map named s) fits.0 in
    let tables : tables_at (length s) (flat_map named s) ≡ Ok (s, []) = ap (tables_at (length s)) (sym (append-nil (flat_map named s))) ∙ many_again table_behind_at behind named CanStandBehind (λ before. (table_codec before).again) s [] [] (united [] s fits.1 fits.2) in
    rw (count, tables) refl

abbrev answer : Result Schema ℕ → Result Schema ℕ
answer r = r

-- what is spelled is not refused
pub is_not_refused : (r : Result Schema ℕ) (s : Schema) (left at : ℕ) → r ≡ Ok s → r ≡ Err left → answer (Ok s) ≡ Err at
is_not_refused r s left at p q = absurd cc
