-- Records at the front of a segment: what they read as does not depend on what stands behind them.
use Rattle.std.proofs.Common.{◌≡◌, ◌≢◌, ◌<◌, ◌≤◌, inl, inr, ℕ, zero, suc, ◌+◌, ◌^◌, List, [], ◌∷◌, ◌++◌, length, Option, None, Some, Result, Ok, Err, refl, sym, ◌∙◌, ap, subst, arith, append_assoc, length-append}
use Rattle.std.specs.Int.{w32, to_be_bytes}
use Rattle.std.proofs.lemmas.Bool.{cases_eq}
use Rattle.std.proofs.lemmas.Bool.Decides.{nat_tests}
use Rattle.std.proofs.lemmas.Nat.{from_be_bytes-to_be_bytes_4}
use Rattle.bt_entry.specs.declared.numbered.Numbered.{Numbered}
use Rattle.bt_entry.specs.Grammar.{IsSpellable, AreNumbered}
use Rattle.bt_entry.specs.Spelling.{spelling}
use Rattle.bt_codec.specs.Reading.{placed}
use Rattle.bt_entry.specs.Reading.{batch_in}
use Rattle.bt_entry.proofs.Batches.{batch_again}
use Rattle.bt_log.specs.Segment.{body_at, Record, Records, spelled, opened_at, record_at, behind, follow, records_at}
use Rattle.bt_log.proofs.Bodies.{body_again, body_takes}

-- one opened record of this batch, wherever it stands
abbrev pub IsRecord : ℕ → List Numbered → List ℕ → Type 0
IsRecord first batch one = (tail : List ℕ) → record_at first (one ++ tail) ≡ Ok (Some (batch, tail))

-- records of these entries, wherever they stand
pub record IsFront (first : ℕ) (entries : List Numbered) (done : List ℕ) : Type 0 where
  pub count : ℕ
  pub few : count ≤ length done
  pub reads : (n : ℕ) (tail : List ℕ) → records_at (count + n) first (done ++ tail) ≡ behind entries (records_at n (first + length entries) tail)

behind_none : (r : Records) → behind [] r ≡ r
behind_none (Ok x) = refl
behind_none (Err left) = refl

behind_both : (a b : List Numbered) (r : Records) → behind a (behind b r) ≡ behind (a ++ b) r
behind_both a b (Ok x) = ap (λ (l : List Numbered). Ok (l, x.1)) (sym (append_assoc a b x.0))
behind_both a b (Err left) = refl

pub front_none : (first : ℕ) → IsFront first [] []
front_none first = record { count = 0; few = omega arith; reads = none }
  where
    none : (n : ℕ) (tail : List ℕ) → records_at (0 + n) first ([] ++ tail) ≡ behind [] (records_at n (first + 0) tail)
    none n tail =
        let steps : 0 + n ≡ n = omega arith in
        let same : first ≡ first + 0 = omega arith in
        ap (λ (k : ℕ). records_at k first tail) steps ∙ sym (behind_none (records_at n first tail)) ∙ ap (λ (k : ℕ). behind [] (records_at n k tail)) same

pub front_then : (first : ℕ) (a b : List Numbered) (d e : List ℕ) → IsFront first a d → IsFront (first + length a) b e → IsFront first (a ++ b) (d ++ e)
front_then first a b d e one two = record {
  count = one.count + two.count;
  few = omega (arith, one.few, two.few, length-append d e);
  reads = λ n tail.
      let steps : one.count + two.count + n ≡ one.count + (two.count + n) = omega arith in
      let next : first + length (a ++ b) ≡ first + length a + length b = omega (arith, length-append a b) in
      ap (λ (k : ℕ). records_at k first ((d ++ e) ++ tail)) steps
      ∙ ap (λ (l : List ℕ). records_at (one.count + (two.count + n)) first l) (append_assoc d e tail)
      ∙ one.reads (two.count + n) (e ++ tail)
      ∙ ap (behind a) (two.reads n tail)
      ∙ behind_both a b (records_at n (first + length a + length b) tail)
      ∙ ap (λ (k : ℕ). behind (a ++ b) (records_at n k tail)) (sym next);
}

pub front_one : (first : ℕ) (batch : List Numbered) (one : List ℕ) → 1 ≤ length one → IsRecord first batch one → IsFront first batch one
front_one first batch one long is = record {
  count = 1;
  few = long;
  reads = λ n tail.
      let steps : 1 + n ≡ suc n = omega arith in
      ap (λ (k : ℕ). records_at k first (one ++ tail)) steps
      ∙ ap (λ (r : Record). follow first (length (one ++ tail)) r (records_at n)) (is tail);
}

-- ---- one record

shut_at : (first gate : ℕ) (rest : List ℕ) → gate ≢ 1 → record_at first (gate ∷ rest) ≡ Ok None
shut_at first gate rest shut = grind (arith, nat_tests)

-- a record as it is written
pub record_again : (first : ℕ) (batch : List Numbered) → IsSpellable batch → AreNumbered first batch → length (spelling batch) < 2 ^ 32 → IsRecord first batch (1 ∷ (to_be_bytes w32 (length (spelling batch)) ++ spelling batch))
record_again first batch fits own short tail =
    let size = to_be_bytes w32 (length (spelling batch)) in
    let body = spelling batch in
    let says = from_be_bytes-to_be_bytes_4 (length body) short in
    let read : batch_in first body ≡ Ok batch = ap (placed body) (batch_again first batch fits own) in
    ap (λ (l : List ℕ). record_at first (1 ∷ l)) (append_assoc size body tail)
    ∙ ap (opened_at first (suc (length (size ++ (body ++ tail))))) (body_again size body tail refl says)
    ∙ ap (spelled (suc (length (size ++ (body ++ tail)))) tail) read

-- what was read of a record
pub record Taken (first : ℕ) (bytes : List ℕ) (x : List Numbered × List ℕ) : Type 0 where
  pub one : List ℕ
  pub some : 1 ≤ length one
  pub is : IsRecord first x.0 one
  pub split : bytes ≡ one ++ x.1

abbrev found : List Numbered × List ℕ → Record
found x = Ok (Some x)

found_is : (x y : List Numbered × List ℕ) → found x ≡ found y → x ≡ y
found_is x y e = cc

spelled_is : (left : ℕ) (rest : List ℕ) (r : Result (List Numbered) ℕ) (x : List Numbered × List ℕ) → spelled left rest r ≡ found x → (batch : List Numbered) × (r ≡ Ok batch) × ((batch, rest) ≡ x)
spelled_is left rest (Ok batch) x e = (batch, refl, found_is (batch, rest) x e)
spelled_is left rest (Err at) x e = absurd cc

opened_is : (first left : ℕ) (o : Option (List ℕ × List ℕ)) (x : List Numbered × List ℕ) → opened_at first left o ≡ found x → (y : List ℕ × List ℕ) × (o ≡ Some y) × (batch_in first y.0 ≡ Ok x.0) × (y.1 ≡ x.1)
opened_is first left None x e = absurd cc
opened_is first left (Some y) x e =
    let s = spelled_is left y.1 (batch_in first y.0) x e in
    (y, refl, s.1 ∙ ap (λ (b : List Numbered). Ok b) (ap (λ (p : List Numbered × List ℕ). p.0) s.2), ap (λ (p : List Numbered × List ℕ). p.1) s.2)

pub record_takes : (first : ℕ) (bytes : List ℕ) (x : List Numbered × List ℕ) → record_at first bytes ≡ found x → Taken first bytes x
record_takes first [] x e = absurd cc
record_takes first (gate ∷ rest) x e = elim (cases_eq gate 1) [
  | inl open_gate ↦
      let o = opened_is first (suc (length rest)) (body_at rest) x (sym (ap (λ (g : ℕ). record_at first (g ∷ rest)) open_gate) ∙ e) in
      let t = body_takes rest o.0 o.1 in
      record {
        one = 1 ∷ (t.size ++ o.0.0);
        some = omega arith;
        is = λ tail.
            ap (λ (l : List ℕ). record_at first (1 ∷ l)) (append_assoc t.size o.0.0 tail)
            ∙ ap (opened_at first (suc (length (t.size ++ (o.0.0 ++ tail))))) (body_again t.size o.0.0 tail t.four t.says)
            ∙ ap (spelled (suc (length (t.size ++ (o.0.0 ++ tail)))) tail) o.2;
        split =
            ap (λ (g : ℕ). g ∷ rest) open_gate
            ∙ ap (λ (l : List ℕ). 1 ∷ l) (t.is ∙ sym (append_assoc t.size o.0.0 o.0.1))
            ∙ ap (λ (l : List ℕ). (1 ∷ (t.size ++ o.0.0)) ++ l) o.3;
      }
  | inr shut ↦ absurd (no_record (sym (shut_at first gate rest shut) ∙ e))
]
  where
    no_record : (let r : Record = Ok None in r) ≡ found x → ⊥
    no_record same = absurd cc

no_record_open : (first left : ℕ) (o : Option (List ℕ × List ℕ)) → opened_at first left o ≡ Ok None → ⊥
no_record_open first left None e = absurd cc
no_record_open first left (Some y) e = no_spelled left y.1 (batch_in first y.0) e
  where
    no_spelled : (left : ℕ) (rest : List ℕ) (r : Result (List Numbered) ℕ) → spelled left rest r ≡ Ok None → ⊥
    no_spelled left rest (Ok batch) same = absurd cc
    no_spelled left rest (Err at) same = absurd cc

-- where no record is, a closed gate stands
pub record Shut (bytes : List ℕ) : Type 0 where
  pub gate : ℕ
  pub rest : List ℕ
  pub shut : gate ≢ 1
  pub is : bytes ≡ gate ∷ rest

pub none_is_shut : (first : ℕ) (bytes : List ℕ) → record_at first bytes ≡ Ok None → Shut bytes
none_is_shut first [] e = absurd cc
none_is_shut first (gate ∷ rest) e = elim (cases_eq gate 1) [
  | inl open_gate ↦ absurd (no_record_open first (suc (length rest)) (body_at rest) (sym (ap (λ (g : ℕ). record_at first (g ∷ rest)) open_gate) ∙ e))
  | inr shut ↦ record { gate = gate; rest = rest; shut = shut; is = refl }
]

-- ---- a closed gate behind a front

pub ends_at : (n first gate : ℕ) (rest : List ℕ) → gate ≢ 1 → records_at (suc n) first (gate ∷ rest) ≡ Ok ([], suc (length rest))
ends_at n first gate rest shut = ap (λ (r : Record). follow first (suc (length rest)) r (records_at n)) (shut_at first gate rest shut)

-- a front, and then a closed gate
pub record Closed (first : ℕ) (entries : List Numbered) (left : ℕ) (bytes : List ℕ) : Type 0 where
  pub done : List ℕ
  pub gate : ℕ
  pub rest : List ℕ
  pub front : IsFront first entries done
  pub shut : gate ≢ 1
  pub is : bytes ≡ done ++ gate ∷ rest
  pub size : left ≡ suc (length rest)

abbrev read_so : List Numbered → ℕ → Records
read_so entries left = Ok (entries, left)

abbrev fine : List Numbered × ℕ → Records
fine p = Ok p

pub read_is : (p q : List Numbered × ℕ) → fine p ≡ fine q → p ≡ q
read_is p q same = cc

behind_is : (batch entries : List Numbered) (left : ℕ) (r : Records) → behind batch r ≡ read_so entries left → (more : List Numbered) × (r ≡ read_so more left) × (batch ++ more ≡ entries)
behind_is batch entries left (Ok x) e =
    let both : (batch ++ x.0, x.1) ≡ (entries, left) = read_is (batch ++ x.0, x.1) (entries, left) e in
    (x.0, ap (λ (k : ℕ). read_so x.0 k) (ap (λ (p : List Numbered × ℕ). p.1) both), ap (λ (p : List Numbered × ℕ). p.0) both)
behind_is batch entries left (Err at) e = absurd cc

-- one step, and what is behind it by induction
step_of : (n first : ℕ) (bytes : List ℕ) (entries : List Numbered) (left : ℕ)
    → ((first : ℕ) (bytes : List ℕ) (entries : List Numbered) (left : ℕ) → records_at n first bytes ≡ read_so entries left → Closed first entries left bytes)
    → (r : Record) → record_at first bytes ≡ r → follow first (length bytes) r (records_at n) ≡ read_so entries left → Closed first entries left bytes
step_of n first bytes entries left others (Err at) is e = absurd cc
step_of n first bytes entries left others (Ok None) is e =
    let here = none_is_shut first bytes is in
    let closed : Closed first [] (length bytes) bytes = record { done = []; gate = here.gate; rest = here.rest; front = front_none first; shut = here.shut; is = here.is; size = ap length here.is } in
    subst (λ (p : List Numbered × ℕ). Closed first p.0 p.1 bytes) (read_is ([], length bytes) (entries, left) e) closed
step_of n first bytes entries left others (Ok (Some x)) is e =
    let taken = record_takes first bytes x is in
    let b = behind_is x.0 entries left (records_at n (first + length x.0) x.1) e in
    let c = others (first + length x.0) x.1 b.0 left b.1 in
    let front = front_then first x.0 b.0 taken.one c.done (front_one first x.0 taken.one taken.some taken.is) c.front in
    subst (λ (l : List Numbered). Closed first l left bytes) b.2 (record {
      done = taken.one ++ c.done;
      gate = c.gate;
      rest = c.rest;
      front = front;
      shut = c.shut;
      is = taken.split ∙ ap (λ (l : List ℕ). taken.one ++ l) c.is ∙ sym (append_assoc taken.one c.done (c.gate ∷ c.rest));
      size = c.size;
    })

-- what was read stands at the front, and then a closed gate
pub closed_of : (n first : ℕ) (bytes : List ℕ) (entries : List Numbered) (left : ℕ) → records_at n first bytes ≡ read_so entries left → Closed first entries left bytes
closed_of zero first bytes entries left e = absurd cc
closed_of (suc n) first bytes entries left e = step_of n first bytes entries left (closed_of n) (record_at first bytes) refl e
