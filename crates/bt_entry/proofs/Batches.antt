-- The two laws of batches.
use Rattle.std.proofs.Common.{◌≡◌, ℕ, ◌+◌, ◌^◌, ◌<◌, Bool, true, cond, eqb, List, [], ◌∷◌, ◌++◌, length, Result, Ok, Err, refl, sym, ap, subst, ◌∙◌, append_assoc, arith, inl, inr}
use Rattle.std.specs.Prelude.{nat_le}
use Rattle.std.specs.List.{AllByRecursion}
use Rattle.std.specs.Int.{w32, w64, to_be_bytes}
use Rattle.std.proofs.lemmas.Bool.{eqb-true, leb-true, le-leb}
use Rattle.std.proofs.lemmas.List.{append-nil, nil_from_length}
use Rattle.bt_entry.specs.declared.numbered.Numbered.{Numbered}
use Rattle.bt_codec.specs.Lists.{AllFrom}
use Rattle.bt_entry.specs.Grammar.{last_moment, next_sequence, IsSpellableNumbered, RulesFitIn, IsSpellable, AreNumbered}
use Rattle.bt_codec.specs.Spelling.{list}
use Rattle.bt_entry.specs.Spelling.{entry, numbered, spelling}
use Rattle.bt_codec.specs.Reading.{◌>>=◌, number_with, counted_at}
use Rattle.bt_entry.specs.Reading.{entry_at, numbered_at, entries_at, batch_at}
use Rattle.bt_codec.proofs.Codecs.{IsBytes, bind_ok, chosen, ok_is, Takes, Takes-then, IsCodec, wide32}
use Rattle.bt_codec.proofs.Many.{counted_codec}
use Rattle.bt_entry.proofs.Laws.{moment_codec}
use Rattle.bt_entry.proofs.EntryLaws.{entry_codec}

abbrev some : ℕ → Bool
some n = nat_le 1 n

abbrev HasFittingRules : Numbered → Type 0
HasFittingRules n = RulesFitIn n.entry

-- an entry of that number
abbrev IsNext : ℕ → Numbered → Type 0
IsNext s n = (n.sequence ≡ s) × IsSpellableNumbered n × RulesFitIn n.entry

numbered_takes : (s : ℕ) (bytes : List ℕ) (x : Numbered) (rest : List ℕ) → IsBytes bytes → numbered_at s bytes ≡ Ok (x, rest) → Takes bytes (numbered x) rest × IsNext s x
unfolding numbered_at
numbered_takes s bytes x rest fits e =
    let a = bind_ok (number_with w64 (λ n. nat_le n last_moment) bytes) (λ m. entry_at m.1 >>= λ said. Ok (record { sequence = s; moment = m.0; entry = said.0 }, said.1)) (x, rest) e in
    let b = bind_ok (entry_at a.0.1) (λ said. Ok (record { sequence = s; moment = a.0.0; entry = said.0 }, said.1)) (x, rest) a.2 in
    let t0 = moment_codec.takes bytes a.0.0 a.0.1 fits a.1 in
    let t1 = entry_codec.takes a.0.1 b.0.0 b.0.1 t0.0.rest_fits b.1 in
    let both = Takes-then bytes (to_be_bytes w64 a.0.0) a.0.1 (entry b.0.0) b.0.1 t0.0 t1.0 in
    let made : Numbered × List ℕ = (record { sequence = s; moment = a.0.0; entry = b.0.0 }, b.0.1) in
    subst (λ (y : Numbered × List ℕ). Takes bytes (numbered y.0) y.1 × IsNext s y.0) (ok_is made (x, rest) b.2) (both, (refl, (leb-true _ _ t0.1.1, t1.1.0), t1.1.1))

numbered_again : (s : ℕ) (x : Numbered) (rest : List ℕ) → IsNext s x → numbered_at s (numbered x ++ rest) ≡ Ok (x, rest)
unfolding numbered_at
numbered_again s x rest fits =
    let parts : numbered x ++ rest ≡ to_be_bytes w64 x.moment ++ (entry x.entry ++ rest) = append_assoc (to_be_bytes w64 x.moment) (entry x.entry) rest in
    let own = fits.1 in
    ap (numbered_at s) parts ∙ rw (moment_codec.again x.moment (entry x.entry ++ rest) (omega arith, le-leb _ _ own.0), entry_codec.again x.entry rest (own.1, fits.2), ← fits.0) refl

numbered_codec : (s : ℕ) → IsCodec (numbered_at s) numbered (IsNext s)
numbered_codec s = record { takes = numbered_takes s; again = numbered_again s }

entries_codec : (first : ℕ) → IsCodec (counted_at w32 some (entries_at first)) (list w32 numbered) (λ ns. (length ns < 2 ^ 32) × (some (length ns) ≡ true) × AllFrom next_sequence IsNext first ns)
entries_codec first = counted_codec w32 (2 ^ 32) wide32 some numbered_at next_sequence numbered IsNext numbered_codec first

parted : (s : ℕ) (ns : List Numbered) → AllFrom next_sequence IsNext s ns → AreNumbered s ns × AllByRecursion IsSpellableNumbered ns × AllByRecursion HasFittingRules ns
parted s [] all = (tt, tt, tt)
parted s (n ∷ ns) all = let others = parted (s + 1) ns all.1 in ((all.0.0, others.0), (all.0.1, others.1), (all.0.2, others.2))

united : (s : ℕ) (ns : List Numbered) → AreNumbered s ns → AllByRecursion IsSpellableNumbered ns → AllByRecursion HasFittingRules ns → AllFrom next_sequence IsNext s ns
united s [] p q r = tt
united s (n ∷ ns) p q r = ((p.0, q.0, r.0), united (s + 1) ns p.1 q.1 r.1)

pub batch_takes : (first : ℕ) (bytes : List ℕ) (ns : List Numbered) → IsBytes bytes → batch_at first bytes ≡ Ok ns → IsSpellable ns × AreNumbered first ns × (bytes ≡ spelling ns)
unfolding batch_at
batch_takes first bytes ns fits e =
    let a = bind_ok (counted_at w32 some (entries_at first) bytes) (λ x. cond (eqb (length x.1) 0) (Ok x.0) (Err (length x.1))) ns e in
    elim (chosen (eqb (length a.0.1) 0) (Ok a.0.0) (Err (length a.0.1)) ns a.2) [
      | inl g ↦
          let t = (entries_codec first).takes bytes a.0.0 a.0.1 fits a.1 in
          let nothing : a.0.1 ≡ [] = nil_from_length a.0.1 (eqb-true _ _ g.0) in
          let whole : bytes ≡ spelling a.0.0 = t.0.parts ∙ ap (λ (r : List ℕ). spelling a.0.0 ++ r) nothing ∙ append-nil (spelling a.0.0) in
          let both = parted first a.0.0 t.1.2 in
          subst (λ (v : List Numbered). IsSpellable v × AreNumbered first v × (bytes ≡ spelling v)) (ok_is a.0.0 ns g.1) ((leb-true _ _ t.1.1, t.1.0, both.1, both.2), both.0, whole)
      | inr g ↦ let bad = g.1 in absurd cc
    ]

pub batch_again : (first : ℕ) (ns : List Numbered) → IsSpellable ns → AreNumbered first ns → batch_at first (spelling ns) ≡ Ok ns
unfolding batch_at
batch_again first ns fits own =
    let read : counted_at w32 some (entries_at first) (spelling ns) ≡ Ok (ns, []) = ap (counted_at w32 some (entries_at first)) (sym (append-nil (spelling ns))) ∙ (entries_codec first).again ns [] (fits.1, le-leb _ _ fits.0, united first ns own fits.2 fits.3) in
    rw read refl

abbrev answer : Result (List Numbered) ℕ → Result (List Numbered) ℕ
answer r = r

-- what is spelled is not refused
pub is_not_refused : (r : Result (List Numbered) ℕ) (ns : List Numbered) (left at : ℕ) → r ≡ Ok ns → r ≡ Err left → answer (Ok ns) ≡ Err at
is_not_refused r ns left at p q = absurd cc
