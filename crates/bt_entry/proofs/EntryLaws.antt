-- The two laws of entries.
use Rattle.std.proofs.Common.{◌≡◌, ℕ, ◌^◌, ◌<◌, ◌≤◌, Bool, true, false, cond, eqb, List, [], ◌∷◌, ◌++◌, length, Ok, Err, refl, ap, subst, ◌∙◌, append_assoc, arith, inl, inr}
use Rattle.std.specs.Prelude.{nat_le, IsTrue}
use Rattle.std.specs.Int.{w8, w16, w32, w64, to_be_bytes}
use Rattle.std.proofs.lemmas.Bool.{leb-true, le-leb, or_cases, eqb-true, and_parts}
use Rattle.bt_types.specs.Grammar.{is_row_key, is_table_name}
use Rattle.bt_types.specs.declared.mutation.Mutation.{Mutation}
use Rattle.bt_rules.specs.declared.family.Family.{Family}
use Rattle.bt_entry.specs.declared.entry.Entry.{Entry}
use Rattle.bt_entry.specs.declared.entry.Entry.TheVariants.{Row, Create, Delete, Alter, Stream, Floor}
use Rattle.bt_entry.specs.Grammar.{is_retention, is_lawful_retention, IsSpellableMutation, IsSpellableMutations, IsSpellableEntry, RulesFitIn}
use Rattle.bt_codec.specs.Spelling.{text, list}
use Rattle.bt_entry.specs.Spelling.{mutation, family, row_tag, entry}
use Rattle.bt_codec.specs.Reading.{◌>>=◌, Reads, number_at, number_with, text_with, counted_at}
use Rattle.bt_entry.specs.Reading.{mutations_at, family_list_at, row_at, create_at, delete_at, alter_at, stream_at, entry_at}
use Rattle.bt_codec.proofs.Codecs.{IsBytes, bind_ok, ok_is, Takes, Takes-then, IsCodec, u8_codec, by_tag, no_value, behind, u64_codec}
use Rattle.bt_codec.proofs.Items.{each_of, of_each}
use Rattle.bt_entry.proofs.Laws.{retention_codec, key_codec, table_codec, families_codec, mutations_codec}

-- it can be written, and the numbers of its rules fit
abbrev pub CanBeEntry : Entry → Type 0
CanBeEntry e = IsSpellableEntry e × RulesFitIn e

abbrev some : ℕ → Bool
some n = nat_le 1 n

row_takes : (by_rule : Bool) (bytes : List ℕ) (x : Entry) (rest : List ℕ) → IsBytes bytes → row_at by_rule bytes ≡ Ok (x, rest) → Takes (row_tag by_rule ∷ bytes) (entry x) rest × CanBeEntry x
unfolding row_at
row_takes by_rule bytes x rest fits e =
    let a = bind_ok (number_at w64 bytes) (λ i. text_with w16 1 4096 is_row_key i.1 >>= λ k. counted_at w32 some mutations_at k.1 >>= λ m. Ok (Row i.0 k.0 by_rule m.0, m.1)) (x, rest) e in
    let b = bind_ok (text_with w16 1 4096 is_row_key a.0.1) (λ k. counted_at w32 some mutations_at k.1 >>= λ m. Ok (Row a.0.0 k.0 by_rule m.0, m.1)) (x, rest) a.2 in
    let c = bind_ok (counted_at w32 some mutations_at b.0.1) (λ m. Ok (Row a.0.0 b.0.0 by_rule m.0, m.1)) (x, rest) b.2 in
    let t0 = u64_codec.takes bytes a.0.0 a.0.1 fits a.1 in
    let t1 = key_codec.takes a.0.1 b.0.0 b.0.1 t0.0.rest_fits b.1 in
    let t2 = mutations_codec.takes b.0.1 c.0.0 c.0.1 t1.0.rest_fits c.1 in
    let e12 = Takes-then a.0.1 (text w16 b.0.0) b.0.1 (list w32 mutation c.0.0) c.0.1 t1.0 t2.0 in
    let e02 = Takes-then bytes (to_be_bytes w64 a.0.0) a.0.1 (text w16 b.0.0 ++ list w32 mutation c.0.0) c.0.1 t0.0 e12 in
    let made : Entry × List ℕ = (Row a.0.0 b.0.0 by_rule c.0.0, c.0.1) in
    let whole : Takes (row_tag by_rule ∷ bytes) (entry (Row a.0.0 b.0.0 by_rule c.0.0)) c.0.1 = behind (row_tag by_rule) bytes _ c.0.1 e02 in
    let all : IsSpellableMutations c.0.0 = (leb-true _ _ t2.1.1, t2.1.0, each_of IsSpellableMutation 0 c.0.0 t2.1.2) in
    subst (λ (y : Entry × List ℕ). Takes (row_tag by_rule ∷ bytes) (entry y.0) y.1 × CanBeEntry y.0) (ok_is made (x, rest) c.2) (whole, ((t0.1, t1.1, all), tt))

create_takes : (bytes : List ℕ) (x : Entry) (rest : List ℕ) → IsBytes bytes → create_at bytes ≡ Ok (x, rest) → Takes (3 ∷ bytes) (entry x) rest × CanBeEntry x
unfolding create_at
create_takes bytes x rest fits e =
    let a = bind_ok (text_with w16 31 278 is_table_name bytes) (λ n. family_list_at n.1 >>= λ f. number_with w64 is_retention f.1 >>= λ r. Ok (Create n.0 f.0 r.0, r.1)) (x, rest) e in
    let b = bind_ok (family_list_at a.0.1) (λ f. number_with w64 is_retention f.1 >>= λ r. Ok (Create a.0.0 f.0 r.0, r.1)) (x, rest) a.2 in
    let c = bind_ok (number_with w64 is_retention b.0.1) (λ r. Ok (Create a.0.0 b.0.0 r.0, r.1)) (x, rest) b.2 in
    let t0 = table_codec.takes bytes a.0.0 a.0.1 fits a.1 in
    let t1 = families_codec.takes a.0.1 b.0.0 b.0.1 t0.0.rest_fits b.1 in
    let t2 = retention_codec.takes b.0.1 c.0.0 c.0.1 t1.0.rest_fits c.1 in
    let e12 = Takes-then a.0.1 (list w16 family b.0.0) b.0.1 (to_be_bytes w64 c.0.0) c.0.1 t1.0 t2.0 in
    let e02 = Takes-then bytes (text w16 a.0.0) a.0.1 (list w16 family b.0.0 ++ to_be_bytes w64 c.0.0) c.0.1 t0.0 e12 in
    let made : Entry × List ℕ = (Create a.0.0 b.0.0 c.0.0, c.0.1) in
    let whole : Takes (3 ∷ bytes) (entry (Create a.0.0 b.0.0 c.0.0)) c.0.1 = behind 3 bytes _ c.0.1 e02 in
    subst (λ (y : Entry × List ℕ). Takes (3 ∷ bytes) (entry y.0) y.1 × CanBeEntry y.0) (ok_is made (x, rest) c.2) (whole, ((t0.1, t1.1.0, t2.1.1), t1.1.1))

delete_takes : (bytes : List ℕ) (x : Entry) (rest : List ℕ) → IsBytes bytes → delete_at bytes ≡ Ok (x, rest) → Takes (4 ∷ bytes) (entry x) rest × CanBeEntry x
unfolding delete_at
delete_takes bytes x rest fits e =
    let a = bind_ok (number_at w64 bytes) (λ i. Ok (Delete i.0, i.1)) (x, rest) e in
    let t = u64_codec.takes bytes a.0.0 a.0.1 fits a.1 in
    let made : Entry × List ℕ = (Delete a.0.0, a.0.1) in
    let whole : Takes (4 ∷ bytes) (entry (Delete a.0.0)) a.0.1 = behind 4 bytes _ a.0.1 t.0 in
    subst (λ (y : Entry × List ℕ). Takes (4 ∷ bytes) (entry y.0) y.1 × CanBeEntry y.0) (ok_is made (x, rest) a.2) (whole, (t.1, tt))

alter_takes : (bytes : List ℕ) (x : Entry) (rest : List ℕ) → IsBytes bytes → alter_at bytes ≡ Ok (x, rest) → Takes (5 ∷ bytes) (entry x) rest × CanBeEntry x
unfolding alter_at
alter_takes bytes x rest fits e =
    let a = bind_ok (number_at w64 bytes) (λ i. family_list_at i.1 >>= λ f. Ok (Alter i.0 f.0, f.1)) (x, rest) e in
    let b = bind_ok (family_list_at a.0.1) (λ f. Ok (Alter a.0.0 f.0, f.1)) (x, rest) a.2 in
    let t0 = u64_codec.takes bytes a.0.0 a.0.1 fits a.1 in
    let t1 = families_codec.takes a.0.1 b.0.0 b.0.1 t0.0.rest_fits b.1 in
    let both = Takes-then bytes (to_be_bytes w64 a.0.0) a.0.1 (list w16 family b.0.0) b.0.1 t0.0 t1.0 in
    let made : Entry × List ℕ = (Alter a.0.0 b.0.0, b.0.1) in
    let whole : Takes (5 ∷ bytes) (entry (Alter a.0.0 b.0.0)) b.0.1 = behind 5 bytes _ b.0.1 both in
    subst (λ (y : Entry × List ℕ). Takes (5 ∷ bytes) (entry y.0) y.1 × CanBeEntry y.0) (ok_is made (x, rest) b.2) (whole, ((t0.1, t1.1.0), t1.1.1))

stream_takes : (bytes : List ℕ) (x : Entry) (rest : List ℕ) → IsBytes bytes → stream_at bytes ≡ Ok (x, rest) → Takes (6 ∷ bytes) (entry x) rest × CanBeEntry x
unfolding stream_at
stream_takes bytes x rest fits e =
    let a = bind_ok (number_at w64 bytes) (λ i. number_with w64 is_retention i.1 >>= λ r. Ok (Stream i.0 r.0, r.1)) (x, rest) e in
    let b = bind_ok (number_with w64 is_retention a.0.1) (λ r. Ok (Stream a.0.0 r.0, r.1)) (x, rest) a.2 in
    let t0 = u64_codec.takes bytes a.0.0 a.0.1 fits a.1 in
    let t1 = retention_codec.takes a.0.1 b.0.0 b.0.1 t0.0.rest_fits b.1 in
    let both = Takes-then bytes (to_be_bytes w64 a.0.0) a.0.1 (to_be_bytes w64 b.0.0) b.0.1 t0.0 t1.0 in
    let made : Entry × List ℕ = (Stream a.0.0 b.0.0, b.0.1) in
    let whole : Takes (6 ∷ bytes) (entry (Stream a.0.0 b.0.0)) b.0.1 = behind 6 bytes _ b.0.1 both in
    subst (λ (y : Entry × List ℕ). Takes (6 ∷ bytes) (entry y.0) y.1 × CanBeEntry y.0) (ok_is made (x, rest) b.2) (whole, ((t0.1, t1.1.1), tt))

-- a floor has nothing behind its tag
abbrev no_more : List ℕ → Reads Entry
no_more bytes = Ok (Floor, bytes)

floor_takes : (bytes : List ℕ) (x : Entry) (rest : List ℕ) → IsBytes bytes → no_more bytes ≡ Ok (x, rest) → Takes (7 ∷ bytes) (entry x) rest × CanBeEntry x
floor_takes bytes x rest fits e =
    let made : Entry × List ℕ = (Floor, bytes) in
    let whole : Takes (7 ∷ bytes) (7 ∷ []) bytes = record { parts = refl; rest_fits = fits } in
    subst (λ (y : Entry × List ℕ). Takes (7 ∷ bytes) (entry y.0) y.1 × CanBeEntry y.0) (ok_is made (x, rest) e) (whole, (tt, tt))

entry_takes : (bytes : List ℕ) (x : Entry) (rest : List ℕ) → IsBytes bytes → entry_at bytes ≡ Ok (x, rest) → Takes bytes (entry x) rest × CanBeEntry x
unfolding entry_at
entry_takes bytes x rest fits e =
    let a = bind_ok (number_at w8 bytes) (λ t. cond (eqb t.0 1) (row_at false t.1) (cond (eqb t.0 2) (row_at true t.1) (cond (eqb t.0 3) (create_at t.1) (cond (eqb t.0 4) (delete_at t.1)
    (cond (eqb t.0 5) (alter_at t.1) (cond (eqb t.0 6) (stream_at t.1) (cond (eqb t.0 7) (no_more t.1) (Err (length bytes))))))))) (x, rest) e in
    let b = a.0.0 in
    let after = a.0.1 in
    let t = u8_codec.takes bytes b after fits a.1 in
    let after_fits = t.0.rest_fits in
    by_tag entry CanBeEntry bytes after b 1 (row_at false after) _ x rest t.0 (omega arith) (λ h. row_takes false after x rest after_fits h)
    (λ e2. by_tag entry CanBeEntry bytes after b 2 (row_at true after) _ x rest t.0 (omega arith) (λ h. row_takes true after x rest after_fits h)
    (λ e3. by_tag entry CanBeEntry bytes after b 3 (create_at after) _ x rest t.0 (omega arith) (λ h. create_takes after x rest after_fits h)
    (λ e4. by_tag entry CanBeEntry bytes after b 4 (delete_at after) _ x rest t.0 (omega arith) (λ h. delete_takes after x rest after_fits h)
    (λ e5. by_tag entry CanBeEntry bytes after b 5 (alter_at after) _ x rest t.0 (omega arith) (λ h. alter_takes after x rest after_fits h)
    (λ e6. by_tag entry CanBeEntry bytes after b 6 (stream_at after) _ x rest t.0 (omega arith) (λ h. stream_takes after x rest after_fits h)
    (λ e7. by_tag entry CanBeEntry bytes after b 7 (no_more after) _ x rest t.0 (omega arith) (λ h. floor_takes after x rest after_fits h)
    (λ e8. no_value (length bytes) (x, rest) _ e8) e7) e6) e5) e4) e3) e2) a.2

row_again : (by_rule : Bool) (i : ℕ) (key : List ℕ) (ms : List Mutation) (rest : List ℕ) → IsSpellableEntry (Row i key by_rule ms) → row_at by_rule ((to_be_bytes w64 i ++ (text w16 key ++ list w32 mutation ms)) ++ rest) ≡ Ok (Row i key by_rule ms, rest)
unfolding row_at
row_again by_rule i key ms rest fits =
    let parts : (to_be_bytes w64 i ++ (text w16 key ++ list w32 mutation ms)) ++ rest ≡ to_be_bytes w64 i ++ (text w16 key ++ (list w32 mutation ms ++ rest)) =
    append_assoc (to_be_bytes w64 i) (text w16 key ++ list w32 mutation ms) rest ∙ ap (λ (x : List ℕ). to_be_bytes w64 i ++ x) (append_assoc (text w16 key) (list w32 mutation ms) rest) in
    let all = fits.2 in
    ap (row_at by_rule) parts ∙ rw (u64_codec.again i (text w16 key ++ (list w32 mutation ms ++ rest)) fits.0, key_codec.again key (list w32 mutation ms ++ rest) fits.1, mutations_codec.again ms rest (all.1, le-leb _ _ all.0, of_each IsSpellableMutation 0 ms all.2)) refl

-- 0 and the retentions of streams fit 8 bytes
pub retention_small : (r : ℕ) → IsTrue (is_retention r) → r < 2 ^ 64
retention_small r h =
    elim (or_cases (eqb r 0) (is_lawful_retention r) h) [
      | inl none ↦ let nothing : r ≡ 0 = eqb-true r 0 none in omega (arith, nothing)
      | inr days ↦ let most : r ≤ 604800000000 = leb-true _ _ (and_parts (nat_le 86400000000 r) (nat_le r 604800000000) days).1 in omega (arith, most)
    ]

create_again : (name : List ℕ) (fs : List Family) (r : ℕ) (rest : List ℕ) → CanBeEntry (Create name fs r) → create_at ((text w16 name ++ (list w16 family fs ++ to_be_bytes w64 r)) ++ rest) ≡ Ok (Create name fs r, rest)
unfolding create_at
create_again name fs r rest fits =
    let parts : (text w16 name ++ (list w16 family fs ++ to_be_bytes w64 r)) ++ rest ≡ text w16 name ++ (list w16 family fs ++ (to_be_bytes w64 r ++ rest)) =
    append_assoc (text w16 name) (list w16 family fs ++ to_be_bytes w64 r) rest ∙ ap (λ (x : List ℕ). text w16 name ++ x) (append_assoc (list w16 family fs) (to_be_bytes w64 r) rest) in
    let own = fits.0 in
    ap create_at parts ∙ rw (table_codec.again name (list w16 family fs ++ (to_be_bytes w64 r ++ rest)) own.0, families_codec.again fs (to_be_bytes w64 r ++ rest) (own.1, fits.1), retention_codec.again r rest (retention_small r own.2, own.2)) refl

delete_again : (i : ℕ) (rest : List ℕ) → i < 2 ^ 64 → delete_at (to_be_bytes w64 i ++ rest) ≡ Ok (Delete i, rest)
unfolding delete_at
delete_again i rest small = rw (u64_codec.again i rest small) refl

alter_again : (i : ℕ) (fs : List Family) (rest : List ℕ) → CanBeEntry (Alter i fs) → alter_at ((to_be_bytes w64 i ++ list w16 family fs) ++ rest) ≡ Ok (Alter i fs, rest)
unfolding alter_at
alter_again i fs rest fits =
    let own = fits.0 in
    ap alter_at (append_assoc (to_be_bytes w64 i) (list w16 family fs) rest) ∙ rw (u64_codec.again i (list w16 family fs ++ rest) own.0, families_codec.again fs rest (own.1, fits.1)) refl

stream_again : (i r : ℕ) (rest : List ℕ) → IsSpellableEntry (Stream i r) → stream_at ((to_be_bytes w64 i ++ to_be_bytes w64 r) ++ rest) ≡ Ok (Stream i r, rest)
unfolding stream_at
stream_again i r rest fits =
    ap stream_at (append_assoc (to_be_bytes w64 i) (to_be_bytes w64 r) rest) ∙ rw (u64_codec.again i (to_be_bytes w64 r ++ rest) fits.0, retention_codec.again r rest (retention_small r fits.1, fits.1)) refl

entry_again : (x : Entry) (rest : List ℕ) → CanBeEntry x → entry_at (entry x ++ rest) ≡ Ok (x, rest)
unfolding entry_at
entry_again (Row i key false ms) rest fits = rw (u8_codec.again 1 ((to_be_bytes w64 i ++ (text w16 key ++ list w32 mutation ms)) ++ rest) (omega arith)) (row_again false i key ms rest fits.0)
entry_again (Row i key true ms) rest fits = rw (u8_codec.again 2 ((to_be_bytes w64 i ++ (text w16 key ++ list w32 mutation ms)) ++ rest) (omega arith)) (row_again true i key ms rest fits.0)
entry_again (Create name fs r) rest fits = rw (u8_codec.again 3 ((text w16 name ++ (list w16 family fs ++ to_be_bytes w64 r)) ++ rest) (omega arith)) (create_again name fs r rest fits)
entry_again (Delete i) rest fits = rw (u8_codec.again 4 (to_be_bytes w64 i ++ rest) (omega arith)) (delete_again i rest fits.0)
entry_again (Alter i fs) rest fits = rw (u8_codec.again 5 ((to_be_bytes w64 i ++ list w16 family fs) ++ rest) (omega arith)) (alter_again i fs rest fits)
entry_again (Stream i r) rest fits = rw (u8_codec.again 6 ((to_be_bytes w64 i ++ to_be_bytes w64 r) ++ rest) (omega arith)) (stream_again i r rest fits.0)
entry_again Floor rest fits = rw (u8_codec.again 7 rest (omega arith)) refl

pub entry_codec : IsCodec entry_at entry CanBeEntry
entry_codec = record { takes = entry_takes; again = entry_again }
