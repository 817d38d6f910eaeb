-- How long lawful names are, and that they are UTF-8.
use Rattle.std.proofs.Common.{◌≡◌, ℕ, ◌+◌, ◌-◌, ◌<◌, ◌≤◌, Bool, true, false, List, [], ◌∷◌, ◌++◌, length, get_or, refl, sym, ap, subst, ◌∙◌, length-append, length-drop, arith, inl, inr}
use Rattle.std.specs.Prelude.{IsTrue, ◌&&◌, nat_lt, nat_le, bytes_eq, codes}
use Rattle.std.specs.List.{list_all, position_or_len}
use Rattle.std.specs.Str.{IsUtf8}
use Rattle.std.proofs.lemmas.Bool.{and_parts, and_from, ltb-true, leb-true, cases_lt, eqb-true}
use Rattle.std.proofs.lemmas.Bool.Decides.{nat_tests}
use Rattle.std.proofs.lemmas.Str.{IsUtf8-from_ascii}
use Rattle.std.proofs.lemmas.List.{get_or_past}
use Rattle.std.proofs.lemmas.List.Elements.{All-get_or}
use Rattle.std.proofs.lemmas.List.Folds.{list_all-append}
use Rattle.std.proofs.lemmas.List.Sums.{AllPass-from_list_all, split_at_first, passes_at_first}
use Rattle.std.proofs.lemmas.Slice.Eq.{bytes_eq-Decides}
use Rattle.bt_types.specs.Grammar.{is_row_key, is_qualifier, is_family_name, is_table_name, is_name_byte, is_project_byte, is_text_of, is_project, is_table_id, is_slash, first_part, later_parts, is_instance_table, is_table_part, begins_as_table}

abbrev is_ascii_byte : ℕ → Bool
is_ascii_byte b = nat_lt b 128

-- ASCII, of a length between these
record IsShort (low high : ℕ) (b : List ℕ) : Type 0 where
  pub least : low ≤ length b
  pub most : length b ≤ high
  pub ascii : list_all is_ascii_byte b ≡ true

project_byte : (c : ℕ) → is_project_byte c ≡ true → is_ascii_byte c ≡ true
project_byte c h = grind (arith, nat_tests)

name_byte : (c : ℕ) → is_name_byte c ≡ true → is_ascii_byte c ≡ true
name_byte c h = grind (arith, nat_tests)

all_ascii : (p : ℕ → Bool) → ((c : ℕ) → p c ≡ true → is_ascii_byte c ≡ true) → (b : List ℕ) → list_all p b ≡ true → list_all is_ascii_byte b ≡ true
all_ascii p each [] h = refl
all_ascii p each (c ∷ b) h =
    let parts = and_parts (p c) (list_all p b) h in
    and_from (is_ascii_byte c) (list_all is_ascii_byte b) (each c parts.0) (all_ascii p each b parts.1)

short_text : (p : ℕ → Bool) (n : ℕ) (b : List ℕ) → ((c : ℕ) → p c ≡ true → is_ascii_byte c ≡ true) → is_text_of p n b ≡ true → IsShort 1 n b
short_text p n b each h =
    let one = and_parts (nat_lt 0 (length b) && nat_le (length b) n) (list_all p b) h in
    let two = and_parts (nat_lt 0 (length b)) (nat_le (length b) n) one.0 in
    record { least = omega (arith, ltb-true 0 (length b) two.0); most = leb-true (length b) n two.1; ascii = all_ascii p each b one.1 }

short_word : (n : ℕ) (b word : List ℕ) → length word ≡ n → list_all is_ascii_byte word ≡ true → bytes_eq b word ≡ true → IsShort n n b
short_word n b word len ascii h =
    let same : b ≡ word = (bytes_eq-Decides b word).0 h in
    subst (λ (w : List ℕ). IsShort n n w) (sym same) (record { least = omega (arith, len); most = omega (arith, len); ascii = ascii })

-- what stands before a slash, and behind it
joined : (low high low2 high2 : ℕ) (b : List ℕ) → IsShort low high (first_part b) → IsShort low2 high2 (later_parts b) → 1 ≤ low2 → IsShort (low + (1 + low2)) (high + (1 + high2)) b
joined low high low2 high2 b first later some =
    let at = position_or_len is_slash b in
    let within : at < length b = elim (cases_lt at (length b)) [
      | inl lt ↦ lt
      | inr le ↦ let none : length (later_parts b) ≡ length b - (at + 1) = length-drop (at + 1) b in absurd (omega (arith, none, later.least))
    ] in
    let parts : b ≡ first_part b ++ (get_or b at 0 ∷ later_parts b) = split_at_first is_slash b 0 within in
    let slash : get_or b at 0 ≡ 47 = eqb-true _ _ (passes_at_first is_slash b 0 within) in
    let len : length b ≡ length (first_part b) + (1 + length (later_parts b)) = ap length parts ∙ omega (arith, length-append (first_part b) (get_or b at 0 ∷ later_parts b)) in
    let here : is_ascii_byte (get_or b at 0) ≡ true = rw slash refl in
    let behind : list_all is_ascii_byte (get_or b at 0 ∷ later_parts b) ≡ true = and_from _ _ here later.ascii in
    let all : list_all is_ascii_byte (first_part b ++ (get_or b at 0 ∷ later_parts b)) ≡ true = list_all-append is_ascii_byte (first_part b) (get_or b at 0 ∷ later_parts b) ∙ and_from _ _ first.ascii behind in
    record { least = omega (arith, len, first.least, later.least); most = omega (arith, len, first.most, later.most); ascii = ap (list_all is_ascii_byte) parts ∙ all }

short_family : (b : List ℕ) → is_family_name b ≡ true → IsShort 1 64 b
short_family b h = short_text is_name_byte 64 b name_byte h

short_part : (b : List ℕ) → is_table_part b ≡ true → IsShort 8 57 b
short_part b h =
    let parts = and_parts (bytes_eq (first_part b) (codes "tables")) (is_table_id (later_parts b)) h in
    let id = and_parts (is_text_of is_name_byte 50 (later_parts b)) (begins_as_table (later_parts b)) parts.1 in
    joined 6 6 1 50 b (short_word 6 (first_part b) (codes "tables") refl refl parts.0) (short_text is_name_byte 50 (later_parts b) name_byte id.0) (omega arith)

short_instance : (b : List ℕ) → is_instance_table b ≡ true → IsShort 20 168 b
short_instance b h =
    let a = and_parts (bytes_eq (first_part b) (codes "instances") && is_project (first_part (later_parts b))) (is_table_part (later_parts (later_parts b))) h in
    let c = and_parts (bytes_eq (first_part b) (codes "instances")) (is_project (first_part (later_parts b))) a.0 in
    let rest = joined 1 100 8 57 (later_parts b) (short_text is_project_byte 100 (first_part (later_parts b)) project_byte c.1) (short_part (later_parts (later_parts b)) a.1) (omega arith) in
    joined 9 9 10 158 b (short_word 9 (first_part b) (codes "instances") refl refl c.0) rest (omega arith)

short_table : (b : List ℕ) → is_table_name b ≡ true → IsShort 31 278 b
short_table b h =
    let a = and_parts (bytes_eq (first_part b) (codes "projects") && is_project (first_part (later_parts b))) (is_instance_table (later_parts (later_parts b))) h in
    let c = and_parts (bytes_eq (first_part b) (codes "projects")) (is_project (first_part (later_parts b))) a.0 in
    let rest = joined 1 100 20 168 (later_parts b) (short_text is_project_byte 100 (first_part (later_parts b)) project_byte c.1) (short_instance (later_parts (later_parts b)) a.1) (omega arith) in
    joined 8 8 22 269 b (short_word 8 (first_part b) (codes "projects") refl refl c.0) rest (omega arith)

utf8 : (low high : ℕ) (b : List ℕ) → IsShort low high b → IsUtf8 b
utf8 low high b short = IsUtf8-from_ascii b (λ i.
    elim (cases_lt i (length b)) [
      | inl lt ↦ ltb-true _ _ (All-get_or (λ c. is_ascii_byte c ≡ true) b i 0 lt (AllPass-from_list_all is_ascii_byte b short.ascii))
      | inr le ↦ rw (get_or_past b i 0 le) (omega arith)
    ])

fails : (b : List ℕ) (test : Bool) → (test ≡ true → IsUtf8 b) → ¬ IsUtf8 b → test ≡ false
fails b true means absent = absurd (absent (means refl))
fails b false means absent = refl

-- what is no UTF-8 is no name
pub is_no_family : (b : List ℕ) → ¬ IsUtf8 b → is_family_name b ≡ false
is_no_family b absent = fails b (is_family_name b) (λ h. utf8 1 64 b (short_family b h)) absent

pub is_no_table : (b : List ℕ) → ¬ IsUtf8 b → is_table_name b ≡ false
is_no_table b absent = fails b (is_table_name b) (λ h. utf8 31 278 b (short_table b h)) absent

-- the lengths of lawful names
pub family_len : (b : List ℕ) → IsTrue (is_family_name b) → (1 ≤ length b) × (length b ≤ 64)
family_len b h = let s = short_family b h in (s.least, s.most)

pub table_len : (b : List ℕ) → IsTrue (is_table_name b) → (31 ≤ length b) × (length b ≤ 278)
table_len b h = let s = short_table b h in (s.least, s.most)

pub key_len : (b : List ℕ) → IsTrue (is_row_key b) → (1 ≤ length b) × (length b ≤ 4096)
key_len b h =
    let parts = and_parts (nat_lt 0 (length b)) (nat_le (length b) 4096) h in
    (omega (arith, ltb-true 0 (length b) parts.0), leb-true (length b) 4096 parts.1)

pub qualifier_len : (b : List ℕ) → IsTrue (is_qualifier b) → (0 ≤ length b) × (length b ≤ 16384)
qualifier_len b h = (omega arith, leb-true (length b) 16384 h)
