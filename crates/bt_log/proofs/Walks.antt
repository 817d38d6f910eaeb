-- Reading record by record is reading the segment.
use Rattle.std.proofs.Common.{◌≡◌, ◌<◌, ◌≤◌, ℕ, suc, ◌+◌, ◌-◌, List, [], ◌∷◌, ◌++◌, length, Option, None, Some, Ok, refl, sym, ◌∙◌, ap, subst, arith, append_assoc, length-append}
use Rattle.std.proofs.lemmas.List.{append-nil}
use Rattle.std.specs.Prelude.{IfSome}
use Rattle.std.specs.List.{AllByRecursion}
use Rattle.bt_entry.specs.declared.numbered.Numbered.{Numbered}
use Rattle.bt_entry.specs.Grammar.{IsSpellableNumbered, AreNumbered}
use Rattle.bt_log.specs.declared.fault.Fault.{Fault}
use Rattle.bt_log.specs.declared.fault.Fault.TheVariants as fault
use Rattle.bt_log.specs.Reads.{Fails, option_map}
use Rattle.bt_log.specs.Segment.{Record, record_at, behind, follow, records_at}
use Rattle.bt_log.proofs.Fronts.{IsFront, front_none, front_then, front_one, record_takes}

-- these entries were read, and this is left
pub record Walk (first : ℕ) (entries : List Numbered) (bytes rest : List ℕ) : Type 0 where
  pub done : List ℕ
  pub front : IsFront first entries done
  pub split : bytes ≡ done ++ rest
  pub numbered : AreNumbered first entries
  pub spellable : AllByRecursion IsSpellableNumbered entries
  pub few : length entries + length rest ≤ length bytes

pub begins : (first : ℕ) (bytes : List ℕ) → Walk first [] bytes bytes
begins first bytes = record { done = []; front = front_none first; split = refl; numbered = tt; spellable = tt; few = omega arith }

pub numbered_both : (first : ℕ) (a b : List Numbered) → AreNumbered first a → AreNumbered (first + length a) b → AreNumbered first (a ++ b)
numbered_both first [] b one two =
    let same : first + 0 ≡ first = omega arith in
    subst (λ (k : ℕ). AreNumbered k b) same two
numbered_both first (x ∷ xs) b one two =
    let next : first + suc (length xs) ≡ first + 1 + length xs = omega arith in
    (one.0, numbered_both (first + 1) xs b one.1 (subst (λ (k : ℕ). AreNumbered k b) next two))

spellable_both : (a b : List Numbered) → AllByRecursion IsSpellableNumbered a → AllByRecursion IsSpellableNumbered b → AllByRecursion IsSpellableNumbered (a ++ b)
spellable_both [] b one two = two
spellable_both (x ∷ xs) b one two = (one.0, spellable_both xs b one.1 two)

module _ (first : ℕ) (entries : List Numbered) (bytes rest : List ℕ) (walk : Walk first entries bytes rest) where
  unrolled : (n : ℕ) × (records_at (suc (length bytes)) first bytes ≡ behind entries (follow (first + length entries) (length rest) (record_at (first + length entries) rest) (records_at n)))
  unrolled =
      let n = length bytes - walk.front.count in
      let steps : suc (length bytes) ≡ walk.front.count + suc (length bytes - walk.front.count) = omega (arith, walk.front.few, ap length walk.split, length-append walk.done rest) in
      (n, ap (λ (k : ℕ). records_at k first bytes) steps ∙ ap (λ (l : List ℕ). records_at (walk.front.count + suc n) first l) walk.split ∙ walk.front.reads (suc n) rest)

  pub fails : (e : Fault) → Fails e (record_at (first + length entries) rest) → Fails e (records_at (suc (length bytes)) first bytes)
  fails (fault.Bad left) at = unrolled.1 ∙ ap (λ (r : Record). behind entries (follow (first + length entries) (length rest) r (records_at unrolled.0))) at
  fails fault.OutOfMemory at = tt

  pub ends : {A : Type 0} (o : Option A) (view : A → List Numbered × List ℕ) → record_at (first + length entries) rest ≡ Ok (option_map view o) → o ≡ None → records_at (suc (length bytes)) first bytes ≡ Ok (entries, length rest)
  ends o view at none =
      unrolled.1
      ∙ ap (λ (r : Record). behind entries (follow (first + length entries) (length rest) r (records_at unrolled.0))) (at ∙ ap (λ p. Ok (option_map view p)) none)
      ∙ ap (λ (l : List Numbered). Ok (l, length rest)) (append-nil entries)

  pub goes_on : {A : Type 0} (o : Option A) (view : A → List Numbered × List ℕ) → record_at (first + length entries) rest ≡ Ok (option_map view o)
      → IfSome o (λ x. AreNumbered (first + length entries) (view x).0) → IfSome o (λ x. AllByRecursion IsSpellableNumbered (view x).0) → IfSome o (λ x. length (view x).0 + length (view x).1 < length rest) → (y : A) → o ≡ Some y → Walk first (entries ++ (view y).0) bytes (view y).1
  goes_on {A} o view at numbered spellable shorter y some =
      let taken = record_takes (first + length entries) rest (view y) (at ∙ ap (λ p. Ok (option_map view p)) some) in
      let own : AreNumbered (first + length entries) (view y).0 = subst (λ (p : Option A). IfSome p (λ x. AreNumbered (first + length entries) (view x).0)) some numbered in
      let each : AllByRecursion IsSpellableNumbered (view y).0 = subst (λ (p : Option A). IfSome p (λ x. AllByRecursion IsSpellableNumbered (view x).0)) some spellable in
      let less : length (view y).0 + length (view y).1 < length rest = subst (λ (p : Option A). IfSome p (λ x. length (view x).0 + length (view x).1 < length rest)) some shorter in
      record {
        done = walk.done ++ taken.one;
        front = front_then first entries (view y).0 walk.done taken.one walk.front (front_one (first + length entries) (view y).0 taken.one taken.some taken.is);
        split = walk.split ∙ ap (λ (l : List ℕ). walk.done ++ l) taken.split ∙ sym (append_assoc walk.done taken.one (view y).1);
        numbered = numbered_both first entries (view y).0 walk.numbered own;
        spellable = spellable_both entries (view y).0 walk.spellable each;
        few = omega (arith, walk.few, less, length-append entries (view y).0);
      }
