-- A length and so many bytes: what is taken from the front, and what is read again.
use Rattle.std.proofs.Common.{◌≡◌, inl, inr, ℕ, false, ltb, List, ◌++◌, length, take, drop, Option, Some, refl, sym, ◌∙◌, ap, subst, arith, length-append, take-append-drop}
use Rattle.std.specs.Int.{w32, from_be_bytes}
use Rattle.std.proofs.lemmas.Bool.{cases_lt, le-ltb}
use Rattle.std.proofs.lemmas.Bool.Decides.{nat_tests}
use Rattle.std.proofs.lemmas.List.{take_at, drop_at, length-take-le}
use Rattle.bt_log.specs.Segment.{body_at}

-- a body that is spelled is read
pub body_again : (size body tail : List ℕ) → length size ≡ 4 → from_be_bytes w32 size ≡ length body → body_at (size ++ (body ++ tail)) ≡ Some (body, tail)
unfolding body_at
body_again size body tail four says =
    let long : ltb (length (size ++ (body ++ tail))) 4 ≡ false = le-ltb _ _ (omega (arith, length-append size (body ++ tail), four)) in
    let fits : ltb (length (body ++ tail)) (length body) ≡ false = le-ltb _ _ (omega (arith, length-append body tail)) in
    rw (long, take_at size (body ++ tail) 4 four, drop_at size (body ++ tail) 4 four, says, fits, take_at body tail (length body) refl, drop_at body tail (length body) refl) refl

some_is : (a b : List ℕ × List ℕ) → (let x : Option (List ℕ × List ℕ) = Some a in x) ≡ Some b → a ≡ b
some_is a b e = cc

-- what was taken from the front
pub record Takes (bytes : List ℕ) (x : List ℕ × List ℕ) : Type 0 where
  pub size : List ℕ
  pub four : length size ≡ 4
  pub says : from_be_bytes w32 size ≡ length x.0
  pub is : bytes ≡ size ++ (x.0 ++ x.1)

pub body_takes : (bytes : List ℕ) (x : List ℕ × List ℕ) → body_at bytes ≡ Some x → Takes bytes x
unfolding body_at
body_takes bytes x is = elim (cases_lt (length bytes) 4) [
  | inl short ↦ absurd (grind (arith, nat_tests))
  | inr long ↦ elim (cases_lt (length (drop 4 bytes)) (from_be_bytes w32 (take 4 bytes))) [
    | inl short ↦ absurd (grind (arith, nat_tests))
    | inr fits ↦
        let n = from_be_bytes w32 (take 4 bytes) in
        let rest = drop 4 bytes in
        let one_test : ltb (length bytes) 4 ≡ false = le-ltb _ _ long in
        let two_test : ltb (length rest) n ≡ false = le-ltb _ _ fits in
        let whole : body_at bytes ≡ Some (take n rest, drop n rest) = rw (one_test, two_test) refl in
        let same : (take n rest, drop n rest) ≡ x = some_is (take n rest, drop n rest) x (sym whole ∙ is) in
        subst (λ (y : List ℕ × List ℕ). Takes bytes y) same (record {
          size = take 4 bytes;
          four = length-take-le 4 bytes long;
          says = sym (length-take-le n rest fits);
          is = sym (take-append-drop 4 bytes) ∙ ap (λ (l : List ℕ). take 4 bytes ++ l) (sym (take-append-drop n rest));
        })
  ]
]
