-- Rewriting the bytes of a text, and rewriting its characters.
use Rattle.std.proofs.Common.{◌≡◌, ℕ, ◌<◌, ◌≤◌, ◌==◌, List, [], ◌∷◌, ◌++◌, Bool, true, false, cond, refl, sym, ap, ap₂, ◌∙◌, subst, ⊎_elim, arith, codes, encode_utf8_all, chars, IsUtf8}
use Rattle.std.specs.Char.{encode_utf8}
use Rattle.std.proofs.lemmas.Bool.{cond-false, cases_lt, ne_eqb}
use Rattle.std.proofs.lemmas.Str.{encode_ascii, encodes-append, encodes-chars}
use Rattle.regex_hir.proofs.Utf8Lemmas.{encode_two, encode_three, encode_four}
use Rattle.bt_pattern.specs.declared.any_byte.Place.{Place}
use Rattle.bt_pattern.specs.declared.any_byte.Place.TheVariants.{Outside, Slashed, Opened, Negated, Inside, Escaped}
use Rattle.bt_pattern.specs.AnyByte.{next, written, last_written, rewrite}

-- the place after a byte that is not ASCII
abbrev settled : Place → Place
settled Outside = Outside
settled Slashed = Outside
settled Opened = Inside
settled Negated = Inside
settled Inside = Inside
settled Escaped = Inside

differs : (b k : ℕ) → 128 ≤ b → k < 128 → (b == k) ≡ false
differs b k high low = ne_eqb b k (λ e. omega (arith, e))

step : (place : Place) (b : ℕ) (bs : List ℕ) → 128 ≤ b → rewrite place (b ∷ bs) ≡ last_written place ++ (b ∷ rewrite (settled place) bs)
step Outside b bs h =
    let slash = differs b 0x5C h (omega arith) in
    ap₂ (λ w p. w ++ rewrite p bs) (cond-false (b == 0x5C) [] (b ∷ []) slash)
    (cond-false (b == 0x5C) Slashed (cond (b == 0x5B) Opened Outside) slash ∙ cond-false (b == 0x5B) Opened Outside (differs b 0x5B h (omega arith)))
step Slashed b bs h = ap (λ w. w ++ rewrite Outside bs) (cond-false (b == 0x43) (codes "(?s-u:.)") (0x5C ∷ b ∷ []) (differs b 0x43 h (omega arith)))
step Opened b bs h = ap (λ p. b ∷ rewrite p bs)
    (cond-false (b == 0x5E) Negated (cond (b == 0x5C) Escaped Inside) (differs b 0x5E h (omega arith))
    ∙ cond-false (b == 0x5C) Escaped Inside (differs b 0x5C h (omega arith)))
step Negated b bs h = ap (λ p. b ∷ rewrite p bs) (cond-false (b == 0x5C) Escaped Inside (differs b 0x5C h (omega arith)))
step Inside b bs h = ap (λ p. b ∷ rewrite p bs)
    (cond-false (b == 0x5C) Escaped (cond (b == 0x5D) Outside Inside) (differs b 0x5C h (omega arith))
    ∙ cond-false (b == 0x5D) Outside Inside (differs b 0x5D h (omega arith)))
step Escaped b bs h = refl

later : (place : Place) (b : ℕ) (bs : List ℕ) → 128 ≤ b → rewrite (settled place) (b ∷ bs) ≡ b ∷ rewrite (settled place) bs
later Outside b bs h = step Outside b bs h
later Slashed b bs h = step Outside b bs h
later Opened b bs h = step Inside b bs h
later Negated b bs h = step Inside b bs h
later Inside b bs h = step Inside b bs h
later Escaped b bs h = step Inside b bs h

-- what holds of the bytes of a character that is not ASCII
abbrev Passes : Place → List ℕ → List ℕ → Type 0
Passes place rest bytes = rewrite place (bytes ++ rest) ≡ last_written place ++ (bytes ++ rewrite (settled place) rest)

module _ (place : Place) (rest : List ℕ) where
  two : (a b : ℕ) → 128 ≤ a → 128 ≤ b → Passes place rest (a ∷ b ∷ [])
  two a b h k = step place a (b ∷ rest) h ∙ ap (λ l. last_written place ++ (a ∷ l)) (later place b rest k)

  three : (a b c : ℕ) → 128 ≤ a → 128 ≤ b → 128 ≤ c → Passes place rest (a ∷ b ∷ c ∷ [])
  three a b c h k m =
      step place a (b ∷ c ∷ rest) h
      ∙ ap (λ l. last_written place ++ (a ∷ l)) (later place b (c ∷ rest) k ∙ ap (λ l. b ∷ l) (later place c rest m))

  four : (a b c d : ℕ) → 128 ≤ a → 128 ≤ b → 128 ≤ c → 128 ≤ d → Passes place rest (a ∷ b ∷ c ∷ d ∷ [])
  four a b c d h k m n =
      step place a (b ∷ c ∷ d ∷ rest) h
      ∙ ap (λ l. last_written place ++ (a ∷ l))
      (later place b (c ∷ d ∷ rest) k ∙ ap (λ l. b ∷ l) (later place c (d ∷ rest) m ∙ ap (λ l. c ∷ l) (later place d rest n)))

  wide : (c : ℕ) → 128 ≤ c → Passes place rest (encode_utf8 c)
  wide c h = ⊎_elim
      (λ low. subst (Passes place rest) (sym (encode_two c h low)) (two _ _ (omega arith) (omega arith)))
      (λ mid. ⊎_elim
      (λ low. subst (Passes place rest) (sym (encode_three c mid low)) (three _ _ _ (omega arith) (omega arith) (omega arith)))
      (λ high. subst (Passes place rest) (sym (encode_four c high)) (four _ _ _ _ (omega arith) (omega arith) (omega arith) (omega arith)))
      (cases_lt c 0x1_0000))
      (cases_lt c 0x800)

one : (c : ℕ) → c < 128 → encode_utf8_all (c ∷ []) ≡ c ∷ []
one c h = ap (λ l. l ++ []) (encode_ascii c h)

any_byte : encode_utf8_all (codes "(?s-u:.)") ≡ codes "(?s-u:.)"
unfolding encode_utf8
any_byte = refl

either : (x : Bool) (l m : List ℕ) → encode_utf8_all l ≡ l → encode_utf8_all m ≡ m → encode_utf8_all (cond x l m) ≡ cond x l m
either true l m h k = h
either false l m h k = k

ascii : (place : Place) (c : ℕ) → c < 128 → encode_utf8_all (written place c) ≡ written place c
ascii Outside c h = either (c == 0x5C) [] (c ∷ []) refl (one c h)
ascii Slashed c h =
    either (c == 0x43) (codes "(?s-u:.)") (0x5C ∷ c ∷ []) any_byte (ap₂ (λ l m. l ++ m) (encode_ascii 0x5C (omega arith)) (one c h))
ascii Opened c h = one c h
ascii Negated c h = one c h
ascii Inside c h = one c h
ascii Escaped c h = one c h

waiting : (place : Place) → encode_utf8_all (last_written place) ≡ last_written place
waiting Outside = refl
waiting Slashed = one 0x5C (omega arith)
waiting Opened = refl
waiting Negated = refl
waiting Inside = refl
waiting Escaped = refl

-- one character more
abbrev Agrees : Place → List ℕ → Type 0
Agrees place cs = rewrite place (encode_utf8_all cs) ≡ encode_utf8_all (rewrite place cs)

narrow_more : (place : Place) (c : ℕ) (cs : List ℕ) → c < 128 → Agrees (next place c) cs → Agrees place (c ∷ cs)
narrow_more place c cs h more =
    ap (λ l. rewrite place (l ++ encode_utf8_all cs)) (encode_ascii c h)
    ∙ ap₂ (λ l m. l ++ m) (sym (ascii place c h)) more
    ∙ sym (encodes-append (written place c) (rewrite (next place c) cs))

wide_more : (place : Place) (c : ℕ) (cs : List ℕ) → 128 ≤ c → Agrees (settled place) cs → Agrees place (c ∷ cs)
wide_more place c cs h more =
    wide place (encode_utf8_all cs) c h
    ∙ ap₂ (λ l m. l ++ (encode_utf8 c ++ m)) (sym (waiting place)) more
    ∙ sym (encodes-append (last_written place) (c ∷ rewrite (settled place) cs))
    ∙ sym (ap encode_utf8_all (step place c cs h))

rewrite_encodes : (place : Place) (cs : List ℕ) → rewrite place (encode_utf8_all cs) ≡ encode_utf8_all (rewrite place cs)
rewrite_encodes place [] = sym (waiting place)
rewrite_encodes place (c ∷ cs) =
    ⊎_elim (λ h. narrow_more place c cs h (rewrite_encodes (next place c) cs)) (λ h. wide_more place c cs h (rewrite_encodes (settled place) cs)) (cases_lt c 128)

-- the characters of a text, rewritten, spell the text rewritten
pub rewritten_from_letters : (text letters : List ℕ) → IsUtf8 text → letters ≡ chars text →
    encode_utf8_all (rewrite Outside letters) ≡ rewrite Outside text
rewritten_from_letters text letters utf8 e =
    ap (λ cs. encode_utf8_all (rewrite Outside cs)) e ∙ sym (rewrite_encodes Outside (chars text)) ∙ ap (rewrite Outside) (encodes-chars text utf8)
