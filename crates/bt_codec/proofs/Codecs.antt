-- A field that is read is the field that was written, and what was written is read again.
use Rattle.std.proofs.Common.{◌≡◌, ℕ, ◌+◌, ◌^◌, ◌<◌, ◌≤◌, Bool, true, false, ◌&&◌, cond, eqb, ltb, List, [], ◌∷◌, ◌++◌, length, get_or, take, drop, Result, Ok, Err, refl, sym, ap, subst, ◌∙◌, append_assoc, arith, inl, inr, ◌⊎◌}
use Rattle.std.specs.Int.{Width, w8, w16, w32, w64, byte_len, from_be_bytes, to_be_bytes}
use Rattle.std.proofs.lemmas.Bool.{and_parts, and_from, cases_lt, eqb-true, ltb-false, le-ltb, leb-true, le-leb}
use Rattle.std.proofs.lemmas.List.{take_at, drop_at, take-append-drop, length-append, length-take, get_or-drop, get_or-take, get_or_past}
use Rattle.std.proofs.lemmas.Nat.{be_bytes_2, be_bytes_4, be_bytes_8, from_be_bytes-to_be_bytes_2, from_be_bytes-to_be_bytes_4, from_be_bytes-to_be_bytes_8}
use Rattle.std.specs.Prelude.{nat_le, ◌%◌}
use Rattle.bt_codec.specs.Spelling.{text}
use Rattle.bt_codec.specs.Reading.{◌>>=◌, Reads, number_at, number_with, text_at, text_with}

abbrev pub IsBytes : List ℕ → Type 0
IsBytes bytes = (i : ℕ) → get_or bytes i 0 < 256

pub IsBytes-drop : (n : ℕ) (bytes : List ℕ) → IsBytes bytes → IsBytes (drop n bytes)
IsBytes-drop n bytes h i = rw get_or-drop (h (n + i))

pub IsBytes-take : (n : ℕ) (bytes : List ℕ) → IsBytes bytes → IsBytes (take n bytes)
IsBytes-take n bytes h i =
    elim (cases_lt i n) [
      | inl lt ↦ rw (get_or-take n bytes i 0 lt) (h i)
      | inr le ↦ rw (get_or_past (take n bytes) i 0 (omega (arith, length-take n bytes))) (omega arith)
    ]

-- the value of a step that did not fail
pub bind_ok : {A B : Type 0} (r : Result A ℕ) (f : A → Result B ℕ) (y : B) → (r >>= f) ≡ Ok y → (x : A) × (r ≡ Ok x) × (f x ≡ Ok y)
bind_ok (Ok x) f y e = (x, refl, e)
bind_ok (Err d) f y e = absurd cc

-- a test that did not fail
pub guard_ok : {A : Type 0} (b : Bool) (d : ℕ) (r : Result A ℕ) (y : A) → cond b (Err d) r ≡ Ok y → (b ≡ false) × (r ≡ Ok y)
guard_ok true d r y e = absurd cc
guard_ok false d r y e = (refl, e)

-- which way a test went
pub chosen : {A : Type 0} (b : Bool) (r s : Result A ℕ) (y : A) → cond b r s ≡ Ok y → ((b ≡ true) × (r ≡ Ok y)) ⊎ ((b ≡ false) × (s ≡ Ok y))
chosen true r s y e = inl (refl, e)
chosen false r s y e = inr (refl, e)

abbrev pub done : {A : Type 0} → A → Result A ℕ
done x = Ok x

abbrev pub fault_of : (A : Type 0) → ℕ → Result A ℕ
fault_of A left = Err left

pub ok_is : {A : Type 0} (x y : A) → done x ≡ done y → x ≡ y
ok_is x y e = cc

-- a test that passed
pub passed : {A : Type 0} (b : Bool) (d : ℕ) (x y : A) → cond b (done x) (Err d) ≡ Ok y → (b ≡ true) × (x ≡ y)
passed true d x y e = (refl, ok_is x y e)
passed false d x y e = absurd cc

-- what a reader took from the front
pub record Takes (bytes text rest : List ℕ) : Type 0 where
  pub parts : bytes ≡ text ++ rest
  pub rest_fits : IsBytes rest

pub Takes-then : (a x b y c : List ℕ) → Takes a x b → Takes b y c → Takes a (x ++ y) c
Takes-then a x b y c p q = record { parts = p.parts ∙ ap (λ (t : List ℕ). x ++ t) q.parts ∙ sym (append_assoc x y c); rest_fits = q.rest_fits }

-- what read reads is what spell spells, of values that fit
abbrev pub Taking : {A : Type 0} → (List ℕ → Reads A) → (A → List ℕ) → (A → Type 0) → Type 0
Taking {A} read spell Fits = (bytes : List ℕ) (x : A) (rest : List ℕ) → IsBytes bytes → read bytes ≡ Ok (x, rest) → Takes bytes (spell x) rest × Fits x

-- what spell spells is read, of the values that fit
abbrev pub ReadAgain : {A : Type 0} → (List ℕ → Reads A) → (A → List ℕ) → (A → Type 0) → Type 0
ReadAgain {A} read spell Fits = (x : A) (rest : List ℕ) → Fits x → read (spell x ++ rest) ≡ Ok (x, rest)

pub record IsCodec {A : Type 0} (read : List ℕ → Reads A) (spell : A → List ℕ) (Fits : A → Type 0) : Type 0 where
  pub takes : Taking read spell Fits
  pub again : ReadAgain read spell Fits

-- ---- numbers

pub record IsWide (w : Width) (limit : ℕ) : Type 0 where
  pub len : (n : ℕ) → length (to_be_bytes w n) ≡ byte_len w
  pub back : (bytes : List ℕ) → length bytes ≡ byte_len w → IsBytes bytes → to_be_bytes w (from_be_bytes w bytes) ≡ bytes
  pub again : (n : ℕ) → n < limit → from_be_bytes w (to_be_bytes w n) ≡ n
  pub below : (bytes : List ℕ) → IsBytes bytes → from_be_bytes w bytes < limit

one_byte : (bytes : List ℕ) → length bytes ≡ 1 → IsBytes bytes → to_be_bytes w8 (from_be_bytes w8 bytes) ≡ bytes
one_byte [] len fits = absurd cc
one_byte (b ∷ []) len fits = ap (λ (n : ℕ). n ∷ []) (omega (arith, fits 0))
one_byte (b ∷ c ∷ more) len fits = absurd (omega (arith, len))

pub wide8 : IsWide w8 (2 ^ 8)
wide8 = record {
  len = λ n. refl;
  back = λ bytes len fits. one_byte bytes len fits;
  again = λ n lt. omega arith;
  below = λ bytes fits. omega (arith, fits 0);
}

pub wide16 : IsWide w16 (2 ^ 16)
wide16 = record {
  len = λ n. refl;
  back = λ bytes len fits. be_bytes_2 bytes _ len fits refl;
  again = λ n lt. from_be_bytes-to_be_bytes_2 n lt;
  below = λ bytes fits. omega (arith, fits 0, fits 1);
}

pub wide32 : IsWide w32 (2 ^ 32)
wide32 = record {
  len = λ n. refl;
  back = λ bytes len fits. be_bytes_4 bytes _ len fits refl;
  again = λ n lt. from_be_bytes-to_be_bytes_4 n lt;
  below = λ bytes fits. omega (arith, fits 0, fits 1, fits 2, fits 3);
}

pub wide64 : IsWide w64 (2 ^ 64)
wide64 = record {
  len = λ n. refl;
  back = λ bytes len fits. be_bytes_8 bytes _ len fits refl;
  again = λ n lt. from_be_bytes-to_be_bytes_8 n lt;
  below = λ bytes fits. omega (arith, fits 0, fits 1, fits 2, fits 3, fits 4, fits 5, fits 6, fits 7);
}

pub number_codec : (w : Width) (limit : ℕ) → IsWide w limit → IsCodec (number_at w) (to_be_bytes w) (λ n. n < limit)
number_codec w limit wide = record {
  takes = λ bytes n rest fits e.
      let g = guard_ok (ltb (length bytes) (byte_len w)) (length bytes) (done (from_be_bytes w (take (byte_len w) bytes), drop (byte_len w) bytes)) (n, rest) e in
      let long : byte_len w ≤ length bytes = ltb-false _ _ g.0 in
      let both = ok_is (from_be_bytes w (take (byte_len w) bytes), drop (byte_len w) bytes) (n, rest) g.1 in
      let n-is : from_be_bytes w (take (byte_len w) bytes) ≡ n = ap (λ (p : ℕ × List ℕ). p.0) both in
      let rest-is : drop (byte_len w) bytes ≡ rest = ap (λ (p : ℕ × List ℕ). p.1) both in
      let front : to_be_bytes w n ≡ take (byte_len w) bytes = rw (← n-is) (wide.back (take (byte_len w) bytes) (omega (arith, length-take (byte_len w) bytes)) (IsBytes-take (byte_len w) bytes fits)) in
      (record { parts = rw (front, ← rest-is) (sym (take-append-drop (byte_len w) bytes)); rest_fits = rw (← rest-is) (IsBytes-drop (byte_len w) bytes fits) }, rw (← n-is) (wide.below (take (byte_len w) bytes) (IsBytes-take (byte_len w) bytes fits)));
  again = λ n rest lt.
      let len = wide.len n in
      let long : ltb (length (to_be_bytes w n ++ rest)) (byte_len w) ≡ false = le-ltb _ _ (omega (arith, length-append (to_be_bytes w n) rest)) in
      rw (long, take_at (to_be_bytes w n) rest (byte_len w) len, drop_at (to_be_bytes w n) rest (byte_len w) len, wide.again n lt) refl;
}

pub u8_codec : IsCodec (number_at w8) (to_be_bytes w8) (λ n. n < 2 ^ 8)
u8_codec = number_codec w8 (2 ^ 8) wide8

pub u64_codec : IsCodec (number_at w64) (to_be_bytes w64) (λ n. n < 2 ^ 64)
u64_codec = number_codec w64 (2 ^ 64) wide64

-- a number that passes a test
pub tested_codec : (w : Width) (limit : ℕ) → IsWide w limit → (passes : ℕ → Bool) → IsCodec (number_with w passes) (to_be_bytes w) (λ n. (n < limit) × (passes n ≡ true))
unfolding number_with
tested_codec w limit wide passes = record {
  takes = λ bytes n rest fits e.
      let a = bind_ok (number_at w bytes) (λ n. cond (passes n.0) (Ok n) (Err (length bytes))) (n, rest) e in
      let t = (number_codec w limit wide).takes bytes a.0.0 a.0.1 fits a.1 in
      let g = passed (passes a.0.0) (length bytes) a.0 (n, rest) a.2 in
      subst (λ (p : ℕ × List ℕ). Takes bytes (to_be_bytes w p.0) p.1 × ((p.0 < limit) × (passes p.0 ≡ true))) g.1 (t.0, (t.1, g.0));
  again = λ n rest h. rw ((number_codec w limit wide).again n rest h.0, h.1) refl;
}

-- a number that was read passed its test
pub test_passed : (w : Width) (passes : ℕ → Bool) (bytes : List ℕ) (n : ℕ × List ℕ) → number_with w passes bytes ≡ Ok n → passes n.0 ≡ true
unfolding number_with
test_passed w passes bytes n e =
    let a = bind_ok (number_at w bytes) (λ n. cond (passes n.0) (Ok n) (Err (length bytes))) n e in
    let g = passed (passes a.0.0) (length bytes) a.0 n a.2 in
    subst (λ (p : ℕ × List ℕ). passes p.0 ≡ true) g.1 g.0

-- ---- texts

abbrev pub lies : ℕ → ℕ → ℕ → Bool
lies least most n = nat_le least n && nat_le n most

pub text_takes : (w : Width) (limit : ℕ) → IsWide w limit → (least most : ℕ) (bytes t rest : List ℕ) → IsBytes bytes → text_at w least most bytes ≡ Ok (t, rest) → Takes bytes (text w t) rest × ((least ≤ length t) × (length t ≤ most))
unfolding text_at
text_takes w limit wide least most bytes t rest fits e =
    let b = bind_ok (number_with w (lies least most) bytes) (λ n. cond (ltb (length n.1) n.0) (Err (length n.1)) (Ok (take n.0 n.1, drop n.0 n.1))) (t, rest) e in
    let n = b.0 in
    let u = (tested_codec w limit wide (lies least most)).takes bytes n.0 n.1 fits b.1 in
    let o = and_parts (nat_le least n.0) (nat_le n.0 most) u.1.1 in
    let low : least ≤ n.0 = leb-true _ _ o.0 in
    let high : n.0 ≤ most = leb-true _ _ o.1 in
    let h = guard_ok (ltb (length n.1) n.0) (length n.1) (done (take n.0 n.1, drop n.0 n.1)) (t, rest) b.2 in
    let long : n.0 ≤ length n.1 = ltb-false _ _ h.0 in
    let len : length (take n.0 n.1) ≡ n.0 = omega (arith, length-take n.0 n.1) in
    let second : Takes n.1 (take n.0 n.1) (drop n.0 n.1) = record { parts = sym (take-append-drop n.0 n.1); rest_fits = IsBytes-drop n.0 n.1 u.0.rest_fits } in
    let both = Takes-then bytes (to_be_bytes w n.0) n.1 (take n.0 n.1) (drop n.0 n.1) u.0 second in
    let whole : Takes bytes (text w (take n.0 n.1)) (drop n.0 n.1) = subst (λ (k : ℕ). Takes bytes (to_be_bytes w k ++ take n.0 n.1) (drop n.0 n.1)) (sym len) both in
    subst (λ (p : List ℕ × List ℕ). Takes bytes (text w p.0) p.1 × ((least ≤ length p.0) × (length p.0 ≤ most))) (ok_is (take n.0 n.1, drop n.0 n.1) (t, rest) h.1) (whole, (omega (arith, len), omega (arith, len)))

-- a text that was read has one of the lengths that it may have
pub text_within : (w : Width) (least most : ℕ) (bytes t rest : List ℕ) → text_at w least most bytes ≡ Ok (t, rest) → (least ≤ length t) × (length t ≤ most)
unfolding text_at
text_within w least most bytes t rest e =
    let b = bind_ok (number_with w (lies least most) bytes) (λ n. cond (ltb (length n.1) n.0) (Err (length n.1)) (Ok (take n.0 n.1, drop n.0 n.1))) (t, rest) e in
    let n = b.0 in
    let o = and_parts (nat_le least n.0) (nat_le n.0 most) (test_passed w (lies least most) bytes n b.1) in
    let low : least ≤ n.0 = leb-true _ _ o.0 in
    let high : n.0 ≤ most = leb-true _ _ o.1 in
    let h = guard_ok (ltb (length n.1) n.0) (length n.1) (done (take n.0 n.1, drop n.0 n.1)) (t, rest) b.2 in
    let long : n.0 ≤ length n.1 = ltb-false _ _ h.0 in
    let len : length (take n.0 n.1) ≡ n.0 = omega (arith, length-take n.0 n.1) in
    subst (λ (p : List ℕ × List ℕ). (least ≤ length p.0) × (length p.0 ≤ most)) (ok_is (take n.0 n.1, drop n.0 n.1) (t, rest) h.1) (omega (arith, len), omega (arith, len))

pub text_again : (w : Width) (limit : ℕ) → IsWide w limit → (least most : ℕ) → most < limit → (t rest : List ℕ) → least ≤ length t → length t ≤ most → text_at w least most (text w t ++ rest) ≡ Ok (t, rest)
unfolding text_at
text_again w limit wide least most small t rest low high =
    let parts : text w t ++ rest ≡ to_be_bytes w (length t) ++ (t ++ rest) = append_assoc (to_be_bytes w (length t)) t rest in
    let passes : lies least most (length t) ≡ true = and_from _ _ (le-leb _ _ low) (le-leb _ _ high) in
    let long : ltb (length (t ++ rest)) (length t) ≡ false = le-ltb _ _ (omega (arith, length-append t rest)) in
    ap (text_at w least most) parts ∙ rw ((tested_codec w limit wide (lies least most)).again (length t) (t ++ rest) (omega arith, passes), long, take_at t rest (length t) refl, drop_at t rest (length t) refl) refl

pub text_codec : (w : Width) (limit : ℕ) → IsWide w limit → (least most : ℕ) → most < limit → IsCodec (text_at w least most) (text w) (λ t. (least ≤ length t) × (length t ≤ most))
text_codec w limit wide least most small = record {
  takes = λ bytes t rest fits e. text_takes w limit wide least most bytes t rest fits e;
  again = λ t rest h. text_again w limit wide least most small t rest h.0 h.1;
}

-- a text that passes a test, which tells that its length is lawful
pub name_codec : (w : Width) (limit : ℕ) → IsWide w limit → (least most : ℕ) → most < limit → (passes : List ℕ → Bool) → ((t : List ℕ) → passes t ≡ true → (least ≤ length t) × (length t ≤ most)) → IsCodec (text_with w least most passes) (text w) (λ t. passes t ≡ true)
unfolding text_with
name_codec w limit wide least most small passes len = record {
  takes = λ bytes t rest fits e.
      let a = bind_ok (text_at w least most bytes) (λ t. cond (passes t.0) (Ok t) (Err (length t.0 + length t.1))) (t, rest) e in
      let u = (text_codec w limit wide least most small).takes bytes a.0.0 a.0.1 fits a.1 in
      let g = passed (passes a.0.0) (length a.0.0 + length a.0.1) a.0 (t, rest) a.2 in
      subst (λ (p : List ℕ × List ℕ). Takes bytes (text w p.0) p.1 × (passes p.0 ≡ true)) g.1 (u.0, g.0);
  again = λ t rest h. rw ((text_codec w limit wide least most small).again t rest (len t h), h) refl;
}

-- ---- tags

-- a tag that was read is the first byte
pub tagged : (bytes after : List ℕ) (b n : ℕ) → Takes bytes (to_be_bytes w8 b) after → eqb b n ≡ true → n < 256 → bytes ≡ n ∷ after
tagged bytes after b n t e small =
    let same : b ≡ n = eqb-true _ _ e in
    let byte : n % 256 ≡ n = omega arith in
    t.parts ∙ ap (λ (k : ℕ). to_be_bytes w8 k ++ after) same ∙ ap (λ (k : ℕ). k ∷ after) (omega arith)

-- what was read behind a tag, if it is that one
pub by_tag : {A : Type 0} (spell : A → List ℕ) (Fits : A → Type 0) (bytes after : List ℕ) (b n : ℕ) (first others : Reads A) (x : A) (rest : List ℕ) → Takes bytes (to_be_bytes w8 b) after → n < 256
    → (first ≡ Ok (x, rest) → Takes (n ∷ after) (spell x) rest × Fits x) → (others ≡ Ok (x, rest) → Takes bytes (spell x) rest × Fits x) → cond (eqb b n) first others ≡ Ok (x, rest) → Takes bytes (spell x) rest × Fits x
by_tag {A} spell Fits bytes after b n first others x rest t small here later e =
    elim (chosen (eqb b n) first others (x, rest) e) [
      | inl h ↦ subst (λ (w : List ℕ). Takes w (spell x) rest × Fits x) (sym (tagged bytes after b n t h.0 small)) (here h.1)
      | inr h ↦ later h.1
    ]

-- a fault reads nothing
pub no_value : {A : Type 0} (left : ℕ) (x : A) (P : Type 0) → fault_of A left ≡ Ok x → P
no_value {A} left x P e = absurd cc

pub behind : (n : ℕ) (bytes text rest : List ℕ) → Takes bytes text rest → Takes (n ∷ bytes) (n ∷ text) rest
behind n bytes text rest t = record { parts = ap (λ (w : List ℕ). n ∷ w) t.parts; rest_fits = t.rest_fits }
