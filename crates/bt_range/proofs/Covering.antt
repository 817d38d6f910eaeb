-- Which parts cover a range.
use Rattle.std.proofs.Common.{◌≡◌, ◌<◌, ◌≤◌, ◌+◌, ℕ, Bool, true, false, not, List, [], ◌∷◌, length, get_or, drop, Option, Some, None, refl, sym, ap, ◌∙◌, subst, arith, ◌&&◌, ◌==◌, if◌then◌else◌, cond, eqb-true}
use Rattle.std.specs.Prelude.{IsTrue, ◌↔◌, bytes_eq, filter}
use Rattle.std.specs.List.{AllByRecursion, sum_by}
use Rattle.std.specs.List.Sorted.{IsPermutation}
use Rattle.std.specs.Ordering.{nat_cmp, is_lt, is_eq, ordering_reverse}
use Rattle.std.specs.declared.cmp.Ordering.{Ordering}
use Rattle.std.specs.declared.cmp.Ordering.TheVariants.{Less, Equal, Greater}
use Rattle.std.specs.Cmp.Lexicographic.{slice_cmp}
use Rattle.std.proofs.lemmas.Cmp.{nat_list_cmp_total}
use Rattle.std.proofs.lemmas.Map.Lookups.{exact_bytes}
use Rattle.std.proofs.lemmas.Map.Text.{is_eq-slice_cmp}
use Rattle.std.proofs.lemmas.List.{drop_all, drop_more}
use Rattle.std.proofs.lemmas.List.Sums.{sum_by-cons}
use Rattle.std.proofs.lemmas.List.Sorted.{sum_by-IsPermutation}
use Rattle.bt_types.specs.declared.row_range.RowRange.{RowRange}
use Rattle.bt_range.specs.Bounds.{is_below, is_before, is_in}
use Rattle.bt_range.specs.RowSets.{is_filled, AreAscending, AreFilled}
use Rattle.bt_range.specs.Covers.{one_if, holders, IsExactCover, is_same_end, is_chain, is_cover}
use Rattle.bt_range.proofs.Orders.{below_upto, not_below_itself, not_below_back}
use Rattle.bt_range.proofs.Selecting.{empty_holds}

-- ---- the same bytes

equal_of : (r : Ordering) → is_eq r ≡ true → r ≡ Equal
equal_of Less e = cc e
equal_of Equal e = refl
equal_of Greater e = cc e

same_bytes : (d e : List ℕ) → bytes_eq d e ≡ true → d ≡ e
same_bytes d e h = exact_bytes d e (equal_of (slice_cmp nat_cmp d e) (is_eq-slice_cmp d e ∙ h))

neither_by : (r s : Ordering) → s ≡ ordering_reverse r → is_lt r ≡ false → is_lt s ≡ false → is_eq r ≡ true
neither_by Less s e h g = cc h
neither_by Equal s e h g = refl
neither_by Greater s e h g = cc (ap is_lt e, g)

-- neither is below the other
neither_below : (d e : List ℕ) → is_below d e ≡ false → is_below e d ≡ false → bytes_eq d e ≡ true
neither_below d e h g = sym (is_eq-slice_cmp d e) ∙ neither_by (slice_cmp nat_cmp d e) (slice_cmp nat_cmp e d) (nat_list_cmp_total.antisymm e d) h g

same_end : (d e : Option (List ℕ)) → is_same_end d e ≡ true → d ≡ e
same_end None None h = refl
same_end None (Some e) h = cc h
same_end (Some d) None h = cc h
same_end (Some d) (Some e) h = ap (λ x. Some x) (same_bytes d e h)

-- ---- ends in order

-- what is before d is before e
abbrev IsUpTo : Option (List ℕ) → Option (List ℕ) → Type 0
IsUpTo d e = (k : List ℕ) → is_before d k ≡ true → is_before e k ≡ true

filled_up_to : (s : List ℕ) (e : Option (List ℕ)) → is_before e s ≡ true → IsUpTo (Some s) e
filled_up_to s None filled k h = refl
filled_up_to s (Some e) filled k h = below_upto k e s h (not_below_back s e filled)

split : (b c : Bool) → (b && c) ≡ true → (b ≡ true) × (c ≡ true)
split true c h = (refl, h)
split false c h = cc h

chain_up_to : (d e : Option (List ℕ)) (ps : List RowRange) → AreFilled ps → is_chain d ps e ≡ true → IsUpTo d e
chain_up_to d e [] filled chain k h = subst (λ x. is_before x k ≡ true) (same_end d e chain) h
chain_up_to d e (p ∷ ps) filled chain k h =
    let s = split (is_same_end d (Some p.start)) (is_chain p.end ps e) chain in
    chain_up_to p.end e ps filled.1 s.1 k (filled_up_to p.start p.end filled.0 k (subst (λ x. is_before x k ≡ true) (same_end d (Some p.start) s.0) h))

-- ---- a chain holds each once

-- from d on, and before e
abbrev is_between : Option (List ℕ) → Option (List ℕ) → List ℕ → Bool
is_between d e k = not (is_before d k) && is_before e k

between_itself : (b : Bool) → 0 ≡ one_if (not b && b)
between_itself true = refl
between_itself false = refl

-- with the tests of k against the start of the first part, its end, and the end of all
count_by : (a d e : Bool) → (a ≡ true → d ≡ true) → (d ≡ true → e ≡ true) → one_if (not a && d) + one_if (not d && e) ≡ one_if (not a && e)
count_by true true e h g = refl
count_by true false e h g = cc (h refl)
count_by false true true h g = refl
count_by false true false h g = cc (g refl)
count_by false false true h g = refl
count_by false false false h g = refl

chain_holds : (d e : Option (List ℕ)) (ps : List RowRange) → AreFilled ps → is_chain d ps e ≡ true → (k : List ℕ) → holders k ps ≡ one_if (is_between d e k)
chain_holds d e [] filled chain k = between_itself (is_before d k) ∙ ap (λ x. one_if (not (is_before d k) && is_before x k)) (same_end d e chain)
chain_holds d e (p ∷ ps) filled chain k =
    let s = split (is_same_end d (Some p.start)) (is_chain p.end ps e) chain in
    ap (λ n. one_if (is_in p k) + n) (chain_holds p.end e ps filled.1 s.1 k)
    ∙ count_by (is_below k p.start) (is_before p.end k) (is_before e k) (filled_up_to p.start p.end filled.0 k) (chain_up_to p.end e ps filled.1 s.1 k)
    ∙ ap (λ x. one_if (is_between x e k)) (sym (same_end d (Some p.start) s.0))

-- ---- what holds each once is a chain

one_true : (b : Bool) (n : ℕ) → 1 + n ≡ one_if b → b ≡ true
one_true true n h = refl
one_true false n h = absurd (omega (arith, h))

none_false : (b : Bool) → 0 ≡ one_if b → b ≡ false
none_false true h = absurd (omega (arith, h))
none_false false h = refl

and_true : (b c : Bool) → b ≡ true → c ≡ true → (b && c) ≡ true
and_true b c h g = rw (h, g) refl

not_of_false : (b : Bool) → b ≡ false → not b ≡ true
not_of_false b h = ap not h

not_true : (b : Bool) → not b ≡ true → b ≡ false
not_true true h = cc h
not_true false h = refl

-- a part holds what is from its start on and before its end
part_holds : (p : RowRange) (k : List ℕ) → is_below k p.start ≡ false → is_before p.end k ≡ true → is_in p k ≡ true
part_holds p k h g = and_true (not (is_below k p.start)) (is_before p.end k) (not_of_false (is_below k p.start) h) g

-- what a part holds is counted
held_between : (p : RowRange) (ps : List RowRange) (k : List ℕ) (b : Bool) → is_in p k ≡ true → holders k (p ∷ ps) ≡ one_if b → b ≡ true
held_between p ps k b h e = one_true b (holders k ps) (ap (λ x. one_if x + holders k ps) (sym h) ∙ e)

none_hold : (ps : List RowRange) (k : List ℕ) → AllByRecursion (λ r. is_below k r.start ≡ true) ps → 0 ≡ holders k ps
none_hold [] k all = refl
none_hold (p ∷ ps) k all = none_hold ps k all.1 ∙ omega_zero (holders k ps) ∙ ap (λ b. one_if (not b && is_before p.end k) + holders k ps) (sym all.0)
  where
    omega_zero : (n : ℕ) → n ≡ 0 + n
    omega_zero n = omega arith

start_below : (ps : List RowRange) (s k : List ℕ) → is_below k s ≡ true → AllByRecursion (λ r. is_below r.start s ≡ false) ps → AllByRecursion (λ r. is_below k r.start ≡ true) ps
start_below [] s k h all = tt
start_below (p ∷ ps) s k h all = (below_upto k p.start s h all.0, start_below ps s k h all.1)

-- nothing between d and e is left out
end_by : (d e : Option (List ℕ)) → IsUpTo d e → ((k : List ℕ) → is_between d e k ≡ false) → is_same_end d e ≡ true
end_by None None up none = refl
end_by None (Some e) up none = cc (up e refl, not_below_itself e)
end_by (Some d) None up none = cc (ap (λ b. not b && true) (not_below_itself d), none d)
end_by (Some d) (Some e) up none =
    neither_below d e (by (is_below d e) refl) (by' (is_below e d) refl)
  where
    by : (b : Bool) → is_below d e ≡ b → b ≡ false
    by true h = cc (and_true (not (is_below d d)) (is_below d e) (not_of_false (is_below d d) (not_below_itself d)) h, none d)
    by false h = refl

    by' : (b : Bool) → is_below e d ≡ b → b ≡ false
    by' true h = cc (up e h, not_below_itself e)
    by' false h = refl

-- the first part starts at d: else d itself is in no part
start_by : (d : List ℕ) (e : Option (List ℕ)) (p : RowRange) (ps : List RowRange) → AreAscending (p ∷ ps) → is_below p.start d ≡ false → is_before e p.start ≡ true → ((k : List ℕ) → holders k (p ∷ ps) ≡ one_if (is_between (Some d) e k)) → (b : Bool) → is_below d p.start ≡ b → b ≡ false
start_by d e p ps ascending from before same false h = refl
start_by d e p ps ascending from before same true h =
    let nothing : 0 ≡ holders d (p ∷ ps) = none_hold (p ∷ ps) d (h, start_below ps p.start d h ascending.0) in
    let within : is_between (Some d) e d ≡ true = and_true (not (is_below d d)) (is_before e d) (not_of_false (is_below d d) (not_below_itself d)) (sooner e before) in
    cc (none_false (is_between (Some d) e d) (nothing ∙ same d), within)
  where
    sooner : (e : Option (List ℕ)) → is_before e p.start ≡ true → is_before e d ≡ true
    sooner None g = refl
    sooner (Some e) g = below_upto d e p.start h (not_below_back p.start e g)

first_at : (d e : Option (List ℕ)) (p : RowRange) (ps : List RowRange) → AreAscending (p ∷ ps) → AreFilled (p ∷ ps) → ((k : List ℕ) → holders k (p ∷ ps) ≡ one_if (is_between d e k)) → is_same_end d (Some p.start) ≡ true
first_at None e p ps ascending filled same = cc (held_between p ps p.start false (part_holds p p.start (not_below_itself p.start) filled.0) (same p.start))
first_at (Some d) e p ps ascending filled same =
    let there = held_between p ps p.start (is_between (Some d) e p.start) (part_holds p p.start (not_below_itself p.start) filled.0) (same p.start) in
    let both = split (not (is_below p.start d)) (is_before e p.start) there in
    let from = not_true (is_below p.start d) both.0 in
    neither_below d p.start (start_by d e p ps ascending from both.1 same (is_below d p.start) refl) from

-- the first part ends no later than all
part_up_to : (e : Option (List ℕ)) (p : RowRange) (ps : List RowRange) → AreFilled (p ∷ ps) → ((k : List ℕ) → holders k (p ∷ ps) ≡ one_if (is_between (Some p.start) e k)) → IsUpTo p.end e
part_up_to None p ps filled same k h = refl
part_up_to (Some e) p ps filled same k h = by (is_below k e) refl
  where
    there : is_between (Some p.start) (Some e) p.start ≡ true
    there = held_between p ps p.start (is_between (Some p.start) (Some e) p.start) (part_holds p p.start (not_below_itself p.start) filled.0) (same p.start)

    before : is_below p.start e ≡ true
    before = (split (not (is_below p.start p.start)) (is_below p.start e) there).1

    further : (d : Option (List ℕ)) → is_before d k ≡ true → is_below k e ≡ false → is_before d e ≡ true
    further None g f = refl
    further (Some d) g f = below_back k d e g f
      where
        below_back : (k d e : List ℕ) → is_below k d ≡ true → is_below k e ≡ false → is_below e d ≡ true
        below_back k d e g f = last (is_below e d) refl
          where
            last : (b : Bool) → is_below e d ≡ b → b ≡ true
            last true q = refl
            last false q = cc (below_upto k e d g q, f)

    by : (b : Bool) → is_below k e ≡ b → b ≡ true
    by true f = refl
    by false f =
        let inside : is_in p e ≡ true = part_holds p e (not_below_back p.start e before) (further p.end h f) in
        let between = held_between p ps e (is_between (Some p.start) (Some e) e) inside (same e) in
        cc ((split (not (is_below e p.start)) (is_below e e) between).1, not_below_itself e)

rest_by : (a d e : Bool) (n : ℕ) → (a ≡ true → d ≡ true) → (d ≡ true → e ≡ true) → one_if (not a && d) + n ≡ one_if (not a && e) → n ≡ one_if (not d && e)
rest_by true true e n h g s = omega (arith, s)
rest_by true false e n h g s = cc (h refl)
rest_by false true true n h g s = omega (arith, s)
rest_by false true false n h g s = cc (g refl)
rest_by false false true n h g s = omega (arith, s)
rest_by false false false n h g s = omega (arith, s)

chain_from : (d e : Option (List ℕ)) (ps : List RowRange) → AreAscending ps → AreFilled ps → IsUpTo d e → ((k : List ℕ) → holders k ps ≡ one_if (is_between d e k)) → is_chain d ps e ≡ true
chain_from d e [] ascending filled up same = end_by d e up (λ k. none_false (is_between d e k) (same k))
chain_from d e (p ∷ ps) ascending filled up same =
    let first = first_at d e p ps ascending filled same in
    let here : (k : List ℕ) → holders k (p ∷ ps) ≡ one_if (is_between (Some p.start) e k) = λ k. same k ∙ ap (λ x. one_if (is_between x e k)) (same_end d (Some p.start) first) in
    let up' : IsUpTo p.end e = part_up_to e p ps filled here in
    and_true (is_same_end d (Some p.start)) (is_chain p.end ps e) first
    (chain_from p.end e ps ascending.1 filled.1 up' (λ k. rest_by (is_below k p.start) (is_before p.end k) (is_before e k) (holders k ps) (filled_up_to p.start p.end filled.0 k) (up' k) (here k)))

-- ---- the whole

cover_by : (parts : List RowRange) (whole : RowRange) (b : Bool) → AreAscending parts → AreFilled parts → is_filled whole ≡ b
    → IsTrue (if b then is_chain (Some whole.start) parts whole.end else length parts == 0) ↔ IsExactCover parts whole
cover_by parts whole true ascending filled is =
    (λ chain. chain_holds (Some whole.start) whole.end parts filled chain, λ same. chain_from (Some whole.start) whole.end parts ascending filled (filled_up_to whole.start whole.end is) same)
cover_by [] whole false ascending filled is = (λ h k. ap one_if (sym (empty_holds whole.end whole.start k is)), λ same. refl)
cover_by (p ∷ ps) whole false ascending filled is =
    (λ h k. absurd (omega (arith, eqb-true (length (p ∷ ps)) 0 h)), λ same. cc (held_between p ps p.start false (part_holds p p.start (not_below_itself p.start) filled.0) (same p.start ∙ ap one_if (empty_holds whole.end whole.start p.start is))))

-- ---- parts in order, without the empty ones

as_sum : (k : List ℕ) (rs : List RowRange) → holders k rs ≡ sum_by (λ r. one_if (is_in r k)) rs
as_sum k [] = refl
as_sum k (r ∷ rs) = ap (λ n. one_if (is_in r k) + n) (as_sum k rs) ∙ sym (sum_by-cons (λ r. one_if (is_in r k)) r rs)

holders_by : (k : List ℕ) (r : RowRange) (rs : List RowRange) (b : Bool) → is_filled r ≡ b → holders k (filter is_filled rs) ≡ holders k rs → holders k (cond b (r ∷ filter is_filled rs) (filter is_filled rs)) ≡ holders k (r ∷ rs)
holders_by k r rs true is h = ap (λ n. one_if (is_in r k) + n) h
holders_by k r rs false is h = h ∙ more (holders k rs) ∙ ap (λ b. one_if b + holders k rs) (sym (empty_holds r.end r.start k is))
  where
    more : (n : ℕ) → n ≡ 0 + n
    more n = omega arith

holders_filled : (k : List ℕ) (rs : List RowRange) → holders k (filter is_filled rs) ≡ holders k rs
holders_filled k [] = refl
holders_filled k (r ∷ rs) = holders_by k r rs (is_filled r) refl (holders_filled k rs)

holders_sorted : (k : List ℕ) (rs all : List RowRange) → IsPermutation (filter is_filled rs) all → holders k all ≡ holders k rs
holders_sorted k rs all same = as_sum k all ∙ sum_by-IsPermutation (λ r. one_if (is_in r k)) (filter is_filled rs) all same ∙ sym (as_sum k (filter is_filled rs)) ∙ holders_filled k rs

pub covers : (parts copies all : List RowRange) (whole : RowRange) (b : Bool) → copies ≡ parts → IsPermutation (filter is_filled copies) all → AreAscending all → AreFilled all → b ≡ is_cover all whole → IsTrue b ↔ IsExactCover parts whole
covers parts copies all whole b copy same ascending filled is =
    let c = cover_by all whole (is_filled whole) ascending filled refl in
    let moved : (k : List ℕ) → holders k all ≡ holders k parts = λ k. holders_sorted k copies all same ∙ ap (holders k) copy in
    (λ h k. sym (moved k) ∙ c.0 (sym is ∙ h) k, λ exact. is ∙ c.1 (λ k. moved k ∙ exact k))

-- ---- the loop

pub chain_step : (ps : List RowRange) (i : ℕ) (d e : Option (List ℕ)) (p : RowRange) (b : Bool) → drop i ps ≡ p ∷ drop (i + 1) ps → b ≡ is_same_end d (Some p.start) → b ≡ true → is_chain p.end (drop (i + 1) ps) e ≡ is_chain d (drop i ps) e
chain_step ps i d e p b at is holds = ap (λ x. x && is_chain p.end (drop (i + 1) ps) e) (sym holds ∙ is) ∙ ap (λ qs. is_chain d qs e) (sym at)

pub chain_breaks : (ps : List RowRange) (i : ℕ) (d e : Option (List ℕ)) (p : RowRange) (b : Bool) → drop i ps ≡ p ∷ drop (i + 1) ps → b ≡ is_same_end d (Some p.start) → b ≡ false → false ≡ is_chain d (drop i ps) e
chain_breaks ps i d e p b at is breaks = ap (λ x. x && is_chain p.end (drop (i + 1) ps) e) (sym breaks ∙ is) ∙ ap (λ qs. is_chain d qs e) (sym at)

-- the part at hand and those behind it
pub at_part : (ps : List RowRange) (i : ℕ) (p : RowRange) → i < length ps → p ≡ get_or ps i p → drop i ps ≡ p ∷ drop (i + 1) ps
at_part ps i p lt is = drop_more ps i p lt ∙ ap (λ x. x ∷ drop (i + 1) ps) (sym is)

pub chain_end : (ps : List RowRange) (i : ℕ) (d e : Option (List ℕ)) → length ps ≤ i → is_same_end d e ≡ is_chain d (drop i ps) e
chain_end ps i d e past = ap (λ qs. is_chain d qs e) (sym (drop_all i ps past))
