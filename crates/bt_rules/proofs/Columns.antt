-- Timestamps fall along a column, so that what a rule condemns of it is its end.
use Rattle.std.proofs.Common.{◌≡◌, ℕ, ◌+◌, ◌-◌, ◌<◌, ◌≤◌, zero, suc, Bool, true, false, List, [], ◌∷◌, ◌++◌, length, take, drop, get_or, cond, Option, Some, None, arith, refl, sym, ap, ◌∙◌, subst, inl, inr}
use Rattle.std.specs.Prelude.{All}
use Rattle.std.specs.List.{slice_get, filter}
use Rattle.std.specs.Ordering.{nat_cmp}
use Rattle.std.specs.Cmp.{ranked}
use Rattle.std.specs.Cmp.Lexicographic.{slice_cmp}
use Rattle.std.specs.declared.cmp.Ordering.TheVariants.{Less, Equal}
use Rattle.std.proofs.Math.ListN.{length-append, length-take}
use Rattle.std.proofs.lemmas.Cmp.{tied_itself, nat_list_cmp_total}
use Rattle.std.proofs.lemmas.Bool.{both_ways, cases_Bool, cases_lt}
use Rattle.std.proofs.lemmas.Option.{slice_get_cases, slice_get_within, slice_get-get_or, get_or_from_slice_get}
use Rattle.bt_types.specs.declared.cell.Cell.{Cell}
use Rattle.bt_types.specs.Cells.{cell_cmp, AreOrdered}
use Rattle.bt_rules.specs.declared.rule.Rule.{Rule}
use Rattle.bt_rules.specs.Rules.{is_condemned, IsBeside, AreOfOneColumn, IsColumn, Splits}
use Rattle.bt_rules.proofs.Grown.{condemned_later}

-- ---- timestamps

older : (c d : Cell) → IsBeside c d → cell_cmp c d ≡ Less → d.at < c.at
older c d beside less =
    let families : slice_cmp nat_cmp c.family d.family ≡ Equal = subst (λ f. slice_cmp nat_cmp c.family f ≡ Equal) (sym beside.0) (tied_itself nat_list_cmp_total c.family) in
    let qualifiers : slice_cmp nat_cmp c.qualifier d.qualifier ≡ Equal = subst (λ q. slice_cmp nat_cmp c.qualifier q ≡ Equal) (sym beside.1) (tied_itself nat_list_cmp_total c.qualifier) in
    let times : nat_cmp d.at c.at ≡ Less = rw (families, qualifiers) at less in
    ranked d.at c.at Less (sym times)

beside_rest : (c : Cell) (cs : List Cell) → All (IsBeside c) cs → AreOfOneColumn cs
beside_rest c [] h = tt
beside_rest c (d ∷ ds) h = λ j e p.
    let first : IsBeside c d = h zero e (omega arith) in
    let other : IsBeside c (get_or ds j e) = h (suc j) e (omega arith) in
    (other.0 ∙ sym first.0, other.1 ∙ sym first.1)

at_place : (cs : List Cell) (j : ℕ) (d : Cell) (P : Cell → Type 0) → All P cs → slice_get cs j ≡ Some d → P d
at_place cs j d P all e = subst P (get_or_from_slice_get cs j d d e) (all j d (slice_get_within cs j d e))

falls : (cs : List Cell) (i j : ℕ) (c d : Cell) → AreOfOneColumn cs → AreOrdered cs → slice_get cs i ≡ Some c → slice_get cs j ≡ Some d → i ≤ j → d.at ≤ c.at
falls [] i j c d beside ordered e f le = absurd (cc)
falls (x ∷ xs) zero zero c d beside ordered e f le = let same : c ≡ d = cc in rw same (omega arith)
falls (x ∷ xs) zero (suc j) c d beside ordered e f le =
    let same : x ≡ c = cc in
    let below : d.at < x.at = older x d (at_place xs j d (IsBeside x) beside f) (at_place xs j d (λ k. cell_cmp x k ≡ Less) ordered.0 f) in
    subst (λ k. d.at ≤ k.at) same (omega (arith, below))
falls (x ∷ xs) (suc i) zero c d beside ordered e f le = absurd (omega arith)
falls (x ∷ xs) (suc i) (suc j) c d beside ordered e f le = falls xs i j c d (beside_rest x xs beside) ordered.1 e f (omega arith)

-- ---- what is condemned

abbrev pub KeptBelow : Option Rule → ℕ → List Cell → ℕ → Type 0
KeptBelow rule moment cells n = (i : ℕ) (c : Cell) → slice_get cells i ≡ Some c → i < n → is_condemned rule i c.at moment ≡ false

abbrev pub CondemnedFrom : Option Rule → ℕ → List Cell → ℕ → Type 0
CondemnedFrom rule moment cells n = (i : ℕ) (c : Cell) → slice_get cells i ≡ Some c → n ≤ i → is_condemned rule i c.at moment ≡ true

pub condemned_from : (rule : Option Rule) (moment : ℕ) (cells : List Cell) (n : ℕ) (c : Cell) → IsColumn cells → slice_get cells n ≡ Some c → is_condemned rule n c.at moment ≡ true → CondemnedFrom rule moment cells n
condemned_from rule moment cells n c column e t = λ i d f le.
    condemned_later rule moment n i c.at d.at le (falls cells n i c d column.beside column.ordered e f le) t

pub kept_below : (rule : Option Rule) (moment : ℕ) (cells : List Cell) (n : ℕ) (c : Cell) → IsColumn cells → slice_get cells n ≡ Some c → is_condemned rule n c.at moment ≡ false → KeptBelow rule moment cells (n + 1)
kept_below rule moment cells n c column e t = λ i d f lt.
    elim (cases_Bool (is_condemned rule i d.at moment)) [
      | inl so ↦ absurd (both_ways _ t (condemned_later rule moment i n d.at c.at (omega arith) (falls cells i n d c column.beside column.ordered f e (omega arith)) so))
      | inr kept ↦ kept
    ]

pub splits : (rule : Option Rule) (moment : ℕ) (cells : List Cell) (n : ℕ) → n ≤ length cells → KeptBelow rule moment cells n → CondemnedFrom rule moment cells n → Splits rule moment cells n
splits rule moment cells n within kept condemned = record {
  within = within;
  exact = λ i c e. (
    λ t. elim (cases_lt i n) [
      | inl below ↦ absurd (both_ways _ (kept i c e below) t)
      | inr from ↦ from
    ],
    λ from. condemned i c e from,
  );
}

pub splits_nowhere : (moment : ℕ) (cells : List Cell) → Splits None moment cells (length cells)
splits_nowhere moment cells = splits None moment cells (length cells) (omega arith) (λ i c e p. refl) (λ i c e p. absurd (omega (arith, slice_get_within cells i c e, p)))

-- ---- a search for the first condemned cell

-- it stands from low on and not past high
pub record Between (rule : Rule) (moment : ℕ) (cells : List Cell) (low high : ℕ) : Type 0 where
  pub order : low ≤ high
  pub within : high ≤ length cells
  pub kept : KeptBelow (Some rule) moment cells low
  pub condemned : CondemnedFrom (Some rule) moment cells high

pub at_first : (rule : Rule) (moment : ℕ) (cells : List Cell) → Between rule moment cells 0 (length cells)
at_first rule moment cells = record {
  order = omega arith;
  within = omega arith;
  kept = λ i c e p. absurd (omega arith);
  condemned = λ i c e p. absurd (omega (arith, slice_get_within cells i c e));
}

-- whether the cell at that place is condemned
abbrev Answers : Rule → ℕ → List Cell → ℕ → Bool → Type 0
Answers rule moment cells place b = (c : Cell) → slice_get cells place ≡ Some c → b ≡ is_condemned (Some rule) place c.at moment

condemned_half : (rule : Rule) (moment : ℕ) (cells : List Cell) (middle : ℕ) → IsColumn cells → middle < length cells → Answers rule moment cells middle true → CondemnedFrom (Some rule) moment cells middle
condemned_half rule moment cells middle column below answers = elim (slice_get_cases cells middle).1 [
  | inl found ↦ condemned_from (Some rule) moment cells middle found.0 column found.2 (sym (answers found.0 found.2))
  | inr past ↦ absurd (omega (arith, past.0))
]

kept_half : (rule : Rule) (moment : ℕ) (cells : List Cell) (middle : ℕ) → IsColumn cells → middle < length cells → Answers rule moment cells middle false → KeptBelow (Some rule) moment cells (middle + 1)
kept_half rule moment cells middle column below answers = elim (slice_get_cases cells middle).1 [
  | inl found ↦ kept_below (Some rule) moment cells middle found.0 column found.2 (sym (answers found.0 found.2))
  | inr past ↦ absurd (omega (arith, past.0))
]

pub lower_half : (rule : Rule) (moment : ℕ) (cells : List Cell) (low high middle : ℕ) (b : Bool) → IsColumn cells → Between rule moment cells low high → low ≤ middle → middle < high →
    ((c : Cell) → slice_get cells middle ≡ Some c → b ≡ is_condemned (Some rule) middle c.at moment) → b ≡ true → Between rule moment cells low middle
lower_half rule moment cells low high middle b column between from below answers so = record {
  order = from;
  within = omega (arith, between.within);
  kept = between.kept;
  condemned = condemned_half rule moment cells middle column (omega (arith, between.within)) (subst (Answers rule moment cells middle) so answers);
}

pub upper_half : (rule : Rule) (moment : ℕ) (cells : List Cell) (low high middle : ℕ) (b : Bool) → IsColumn cells → Between rule moment cells low high → low ≤ middle → middle < high →
    ((c : Cell) → slice_get cells middle ≡ Some c → b ≡ is_condemned (Some rule) middle c.at moment) → b ≡ false → Between rule moment cells (middle + 1) high
upper_half rule moment cells low high middle b column between from below answers not_yet = record {
  order = omega arith;
  within = between.within;
  kept = kept_half rule moment cells middle column (omega (arith, between.within)) (subst (Answers rule moment cells middle) not_yet answers);
  condemned = between.condemned;
}

pub at_last : (rule : Rule) (moment : ℕ) (cells : List Cell) (low high : ℕ) → Between rule moment cells low high → high ≤ low → Splits (Some rule) moment cells low
at_last rule moment cells low high between met =
    let same : high ≡ low = omega (arith, between.order) in
    splits (Some rule) moment cells low (omega (arith, between.within)) between.kept (subst (CondemnedFrom (Some rule) moment cells) same between.condemned)

-- ---- after condemned cells were removed

front_get : (n i : ℕ) (xs ys : List Cell) → n ≤ length xs → i < n → slice_get (take n xs ++ ys) i ≡ slice_get xs i
front_get zero i xs ys h p = absurd (omega arith)
front_get (suc n) i [] ys h p = absurd (omega arith)
front_get (suc n) zero (x ∷ xs) ys h p = refl
front_get (suc n) (suc i) (x ∷ xs) ys h p = front_get n i xs ys (omega arith) (omega arith)

back_get : (n k : ℕ) (xs ys : List Cell) → n ≤ length xs → slice_get (take n xs ++ ys) (k + n) ≡ slice_get ys k
back_get zero k xs ys h = let same : k + zero ≡ k = omega arith in ap (slice_get ys) same
back_get (suc n) k [] ys h = absurd (omega arith)
back_get (suc n) k (x ∷ xs) ys h =
    let same : suc (k + n) ≡ k + suc n = omega arith in
    subst (λ z. slice_get (take (suc n) (x ∷ xs) ++ ys) z ≡ slice_get ys k) same (back_get n k xs ys (omega arith))

drop_get : (n k : ℕ) (xs : List Cell) → slice_get (drop n xs) k ≡ slice_get xs (k + n)
drop_get zero k xs = let same : k ≡ k + zero = omega arith in ap (slice_get xs) same
drop_get (suc n) k [] = refl
drop_get (suc n) k (x ∷ xs) =
    let same : suc (k + n) ≡ k + suc n = omega arith in
    subst (λ z. slice_get (drop (suc n) (x ∷ xs)) k ≡ slice_get (x ∷ xs) z) same (drop_get n k xs)

-- a cell that a filter kept stood no earlier before
abbrev StoodAt : List Cell → ℕ → Cell → Type 0
StoodAt cs k c = (j : ℕ) × (k ≤ j) × (slice_get cs j ≡ Some c)

stood_further : (x : Cell) (xs : List Cell) (k : ℕ) (c : Cell) → StoodAt xs k c → StoodAt (x ∷ xs) k c
stood_further x xs k c s = (suc s.0, omega (arith, s.1), s.2)

stood_next : (x : Cell) (xs : List Cell) (k : ℕ) (c : Cell) → StoodAt xs k c → StoodAt (x ∷ xs) (suc k) c
stood_next x xs k c s = (suc s.0, omega (arith, s.1), s.2)

chosen : (x : Cell) (xs ys : List Cell) → ((k : ℕ) (c : Cell) → slice_get ys k ≡ Some c → StoodAt xs k c) → (b : Bool) (k : ℕ) (c : Cell) → slice_get (cond b (x ∷ ys) ys) k ≡ Some c → StoodAt (x ∷ xs) k c
chosen x xs ys rest true zero c e = (zero, omega arith, e)
chosen x xs ys rest true (suc k) c e = stood_next x xs k c (rest k c e)
chosen x xs ys rest false k c e = stood_further x xs k c (rest k c e)

stood : (keeps : Cell → Bool) (cs : List Cell) (k : ℕ) (c : Cell) → slice_get (filter keeps cs) k ≡ Some c → StoodAt cs k c
stood keeps [] k c e = absurd (cc)
stood keeps (x ∷ xs) k c e = chosen x xs (filter keeps xs) (λ j d f. stood keeps xs j d f) (keeps x) k c e

behind : (rule : Option Rule) (moment : ℕ) (cells : List Cell) (n : ℕ) → IsColumn cells → Splits rule moment cells n → (keeps : Cell → Bool) (k : ℕ) (c : Cell) →
    slice_get (filter keeps (drop n cells)) k ≡ Some c → is_condemned rule (k + n) c.at moment ≡ true
behind rule moment cells n column s keeps k c e =
    let was : StoodAt (drop n cells) k c = stood keeps (drop n cells) k c e in
    let f : slice_get cells (was.0 + n) ≡ Some c = sym (drop_get n was.0 cells) ∙ was.2 in
    let room : k + n < length cells = omega (arith, was.1, slice_get_within cells (was.0 + n) c f) in
    let g : slice_get cells (k + n) ≡ Some (get_or cells (k + n) c) = slice_get-get_or cells (k + n) c room in
    let here : is_condemned rule (k + n) (get_or cells (k + n) c).at moment ≡ true = (s.exact (k + n) (get_or cells (k + n) c) g).1 (omega arith) in
    condemned_later rule moment (k + n) (k + n) (get_or cells (k + n) c).at c.at (omega arith)
    (falls cells (k + n) (was.0 + n) (get_or cells (k + n) c) c column.beside column.ordered g f (omega (arith, was.1))) here

kept_front : (rule : Option Rule) (moment : ℕ) (cells : List Cell) (n : ℕ) → Splits rule moment cells n → (keeps : Cell → Bool) → KeptBelow rule moment (take n cells ++ filter keeps (drop n cells)) n
kept_front rule moment cells n s keeps = λ i c e p.
    elim (cases_Bool (is_condemned rule i c.at moment)) [
      | inl so ↦ absurd (omega (arith, (s.exact i c (sym (front_get n i cells (filter keeps (drop n cells)) s.within p) ∙ e)).0 so))
      | inr kept ↦ kept
    ]

pub splits_again : (rule : Option Rule) (moment : ℕ) (cells : List Cell) (n : ℕ) → IsColumn cells → Splits rule moment cells n → (keeps : Cell → Bool) →
    Splits rule moment (take n cells ++ filter keeps (drop n cells)) n
splits_again rule moment cells n column s keeps =
    let rest : List Cell = filter keeps (drop n cells) in
    splits rule moment (take n cells ++ rest) n (simp (length-append, length-take) (omega (arith, s.within)))
    (kept_front rule moment cells n s keeps)
    (λ i c e p.
    let same : i ≡ i - n + n = omega (arith, p) in
    let f : slice_get rest (i - n) ≡ Some c = sym (back_get n (i - n) cells rest s.within) ∙ subst (λ z. slice_get (take n cells ++ rest) z ≡ Some c) same e in
    subst (λ z. is_condemned rule z c.at moment ≡ true) (sym same) (behind rule moment cells n column s keeps (i - n) c f))
