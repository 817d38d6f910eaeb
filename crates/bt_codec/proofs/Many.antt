-- Reading values one after the other, as a loop does.
use Rattle.std.proofs.Common.{◌≡◌, ℕ, zero, suc, ◌-◌, ◌+◌, ◌≤◌, ◌<◌, List, [], ◌∷◌, ◌++◌, length, Result, Ok, Err, refl, sym, ap, subst, ◌∙◌, append_assoc, arith, Bool, true}
use Rattle.std.specs.List.{flat_map}
use Rattle.std.specs.Int.{Width, to_be_bytes}
use Rattle.std.proofs.lemmas.List.{append-nil}
use Rattle.std.proofs.lemmas.List.Concat.{flat_map-cons}
use Rattle.bt_codec.specs.declared.fault.Fault.{Fault}
use Rattle.bt_codec.specs.declared.fault.Fault.TheVariants as fault
use Rattle.bt_codec.specs.Lists.{AllFrom}
use Rattle.bt_codec.specs.Reading.{◌>>=◌, Reads, number_with, many_at, counted_at}
use Rattle.bt_codec.specs.Spelling.{list}
use Rattle.bt_codec.proofs.Codecs.{IsWide, tested_codec, IsBytes, IsCodec, ReadAgain, Takes, Takes-then, Taking, bind_ok, ok_is}

-- what was read before, and what is still read
abbrev pub with_front : {A : Type 0} → List A → Reads (List A) → Reads (List A)
with_front front read = read >>= λ x. Ok (front ++ x.0, x.1)

regroup : {A : Type 0} (front : List A) (n : A) (read : Reads (List A)) → with_front front (read >>= λ x. Ok (n ∷ x.0, x.1)) ≡ with_front (front ++ n ∷ []) read
regroup {A} front n (Ok x) = ap (λ (ns : List A). Ok (ns, x.1)) (simp append_assoc)
regroup front n (Err f) = refl

pub goes_on : {S A : Type 0} (read : S → List ℕ → Reads A) (next : S → A → S) (s : S) (front : List A) (count i : ℕ) (bytes : List ℕ) (n : A) (after : List ℕ) (total : Reads (List A)) → i < count → read s bytes ≡ Ok (n, after)
    → with_front front (many_at read next s (count - i) bytes) ≡ total → with_front (front ++ n ∷ []) (many_at read next (next s n) (count - (i + 1)) after) ≡ total
unfolding many_at
goes_on read next s front count i bytes n after total lt h so_far =
    let k : count - i ≡ suc (count - (i + 1)) = omega arith in
    let one : with_front front (many_at read next s (count - i) bytes) ≡ with_front (front ++ n ∷ []) (many_at read next (next s n) (count - (i + 1)) after) = rw (k, h) (regroup front n (many_at read next (next s n) (count - (i + 1)) after)) in
    sym one ∙ so_far

-- a fault ends it
abbrev pub Fails : {Y : Type 0} → Fault → Result Y ℕ → Type 0
Fails (fault.Bad left) read = read ≡ Err left
Fails fault.OutOfMemory read = Unit {0}

pub ends : {S A : Type 0} (read : S → List ℕ → Reads A) (next : S → A → S) (s : S) (e : Fault) (front : List A) (count i : ℕ) (bytes : List ℕ) (total : Reads (List A)) → i < count → Fails e (read s bytes)
    → with_front front (many_at read next s (count - i) bytes) ≡ total → Fails e total
unfolding many_at
ends read next s fault.OutOfMemory front count i bytes total lt h so_far = tt
ends read next s (fault.Bad left) front count i bytes total lt h so_far =
    let k : count - i ≡ suc (count - (i + 1)) = omega arith in
    let one : with_front front (many_at read next s (count - i) bytes) ≡ Err left = rw (k, h) refl in
    sym so_far ∙ one

pub is_done : {S A : Type 0} (read : S → List ℕ → Reads A) (next : S → A → S) (s : S) (front : List A) (count i : ℕ) (bytes : List ℕ) (total : Reads (List A)) → count ≤ i → with_front front (many_at read next s (count - i) bytes) ≡ total → total ≡ Ok (front, bytes)
unfolding many_at
is_done {S} {A} read next s front count i bytes total le so_far =
    let k : count - i ≡ 0 = omega arith in
    let one : with_front front (many_at read next s (count - i) bytes) ≡ Ok (front, bytes) = rw k (ap (λ (ns : List A). Ok (ns, bytes)) (append-nil front)) in
    sym so_far ∙ one

-- the two laws of a list, from those of its items
pub many_take : {S A : Type 0} (read : S → List ℕ → Reads A) (next : S → A → S) (spell : A → List ℕ) (Fits : S → A → Type 0) → ((s : S) → Taking (read s) spell (Fits s)) → (n : ℕ) (s : S) (bytes : List ℕ) (x : List A × List ℕ) → IsBytes bytes → many_at read next s n bytes ≡ Ok x
    → Takes bytes (flat_map spell x.0) x.1 × (length x.0 ≡ n) × AllFrom next Fits s x.0
unfolding many_at
many_take {S} {A} read next spell Fits taking zero s bytes x fits e =
    subst (λ (y : List A × List ℕ). Takes bytes (flat_map spell y.0) y.1 × (length y.0 ≡ 0) × AllFrom next Fits s y.0) (ok_is ([], bytes) x e) (record { parts = refl; rest_fits = fits }, refl, tt)
many_take {S} {A} read next spell Fits taking (suc n) s bytes x fits e =
    let a = bind_ok (read s bytes) (λ first. many_at read next (next s first.0) n first.1 >>= λ others. Ok (first.0 ∷ others.0, others.1)) x e in
    let b = bind_ok (many_at read next (next s a.0.0) n a.0.1) (λ others. Ok (a.0.0 ∷ others.0, others.1)) x a.2 in
    let first = taking s bytes a.0.0 a.0.1 fits a.1 in
    let second = many_take read next spell Fits taking n (next s a.0.0) a.0.1 b.0 first.0.rest_fits b.1 in
    let both = Takes-then bytes (spell a.0.0) a.0.1 (flat_map spell b.0.0) b.0.1 first.0 second.0 in
    let made : List A × List ℕ = (a.0.0 ∷ b.0.0, b.0.1) in
    subst (λ (y : List A × List ℕ). Takes bytes (flat_map spell y.0) y.1 × (length y.0 ≡ suc n) × AllFrom next Fits s y.0) (ok_is made x b.2) (rw flat_map-cons both, ap suc second.1, (first.1, second.2))

pub many_again : {S A : Type 0} (read : S → List ℕ → Reads A) (next : S → A → S) (spell : A → List ℕ) (Fits : S → A → Type 0) → ((s : S) → ReadAgain (read s) spell (Fits s)) → (ns : List A) (s : S) (rest : List ℕ) → AllFrom next Fits s ns → many_at read next s (length ns) (flat_map spell ns ++ rest) ≡ Ok (ns, rest)
unfolding many_at
many_again read next spell Fits again [] s rest fits = refl
many_again read next spell Fits again (n ∷ ns) s rest fits =
    let regrouped : flat_map spell (n ∷ ns) ++ rest ≡ spell n ++ (flat_map spell ns ++ rest) = ap (λ (x : List ℕ). x ++ rest) (flat_map-cons spell n ns) ∙ append_assoc (spell n) (flat_map spell ns) rest in
    ap (many_at read next s (suc (length ns))) regrouped ∙ rw (again s n (flat_map spell ns ++ rest) fits.0, many_again read next spell Fits again ns (next s n) rest fits.1) refl

-- a count that passes a test, and so many items
pub counted_codec : {S A : Type 0} (w : Width) (limit : ℕ) → IsWide w limit → (passes : ℕ → Bool) (read : S → List ℕ → Reads A) (next : S → A → S) (spell : A → List ℕ) (Fits : S → A → Type 0) → ((s : S) → IsCodec (read s) spell (Fits s)) → (s : S)
    → IsCodec (counted_at w passes (λ n bytes. many_at read next s n bytes)) (list w spell) (λ xs. (length xs < limit) × (passes (length xs) ≡ true) × AllFrom next Fits s xs)
unfolding counted_at
counted_codec {S} {A} w limit wide passes read next spell Fits codec s = record {
  takes = λ bytes xs rest fits e.
      let a = bind_ok (number_with w passes bytes) (λ n. many_at read next s n.0 n.1) (xs, rest) e in
      let first = (tested_codec w limit wide passes).takes bytes a.0.0 a.0.1 fits a.1 in
      let second = many_take read next spell Fits (λ s. (codec s).takes) a.0.0 s a.0.1 (xs, rest) first.0.rest_fits a.2 in
      let both = Takes-then bytes (to_be_bytes w a.0.0) a.0.1 (flat_map spell xs) rest first.0 second.0 in
      (subst (λ (n : ℕ). Takes bytes (to_be_bytes w n ++ flat_map spell xs) rest) (sym second.1) both, (rw second.1 first.1.0, rw second.1 first.1.1, second.2));
  again = λ xs rest h.
      let regrouped : list w spell xs ++ rest ≡ to_be_bytes w (length xs) ++ (flat_map spell xs ++ rest) = append_assoc (to_be_bytes w (length xs)) (flat_map spell xs) rest in
      ap (λ (b : List ℕ). number_with w passes b >>= λ n. many_at read next s n.0 n.1) regrouped ∙ rw ((tested_codec w limit wide passes).again (length xs) (flat_map spell xs ++ rest) (h.0, h.1)) (many_again read next spell Fits (λ s. (codec s).again) xs s rest h.2);
}
