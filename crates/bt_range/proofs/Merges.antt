-- Ranges that stand apart, and the merging of one more.
use Rattle.std.proofs.Common.{◌≡◌, ℕ, length, Bool, true, false, not, List, [], ◌∷◌, ◌++◌, Option, Some, None, refl, sym, ap, ◌∙◌, subst, arith, ◌&&◌, ◌||◌, if◌then◌else◌}
use Rattle.std.specs.List.{AllByRecursion}
use Rattle.std.proofs.lemmas.List.Folds.{list_any-append}
use Rattle.bt_types.specs.declared.row_range.RowRange.{RowRange}
use Rattle.bt_range.specs.Bounds.{is_below, is_before, is_in}
use Rattle.bt_range.specs.RowSets.{is_filled, stops_before, AreApart, is_in_any, later_end, joined, AreAscending, StartBy, StartFirst, AreFilled}
use Rattle.bt_range.proofs.Orders.{below_upto, not_below_back}

-- t is no further than s, and s no further than k
pub upto_chain : (t s k : List ℕ) → is_below s t ≡ false → is_below k s ≡ false → is_below k t ≡ false
upto_chain t s k h g = by (is_below k t) refl
  where
    by : (b : Bool) → is_below k t ≡ b → b ≡ false
    by true e = cc (below_upto k s t e h, g)
    by false e = refl

-- ---- one more at the end

all_push : {X : Type 0} (P : X → Type 0) (xs : List X) (x : X) → AllByRecursion P xs → P x → AllByRecursion P (xs ++ x ∷ [])
all_push P [] x all p = (p, tt)
all_push P (y ∷ ys) x all p = (all.0, all_push P ys x all.1 p)

all_front : {X : Type 0} (P : X → Type 0) (xs : List X) (x : X) → AllByRecursion P (xs ++ x ∷ []) → AllByRecursion P xs
all_front P [] x all = tt
all_front P (y ∷ ys) x all = (all.0, all_front P ys x all.1)

all_last : {X : Type 0} (P : X → Type 0) (xs : List X) (x : X) → AllByRecursion P (xs ++ x ∷ []) → P x
all_last P [] x all = all.0
all_last P (y ∷ ys) x all = all_last P ys x all.1

-- all of them stop short of k
abbrev pub StopBefore : List ℕ → List RowRange → Type 0
StopBefore k rs = AllByRecursion (λ r. stops_before r.end k ≡ true) rs

pub apart_push : (rs : List RowRange) (s : RowRange) → AreApart rs → StopBefore s.start rs → is_filled s ≡ true → AreApart (rs ++ s ∷ [])
apart_push [] s apart before filled = (filled, tt, tt)
apart_push (r ∷ rs) s apart before filled = (apart.0, all_push (λ x. stops_before r.end x.start ≡ true) rs s apart.1 before.0, apart_push rs s apart.2 before.1 filled)

pub apart_front : (rs : List RowRange) (s : RowRange) → AreApart (rs ++ s ∷ []) → AreApart rs
apart_front [] s apart = tt
apart_front (r ∷ rs) s apart = (apart.0, all_front (λ x. stops_before r.end x.start ≡ true) rs s apart.1, apart_front rs s apart.2)

pub last_filled : (rs : List RowRange) (s : RowRange) → AreApart (rs ++ s ∷ []) → is_filled s ≡ true
last_filled [] s apart = apart.0
last_filled (r ∷ rs) s apart = last_filled rs s apart.2

pub last_behind : (rs : List RowRange) (s : RowRange) → AreApart (rs ++ s ∷ []) → StopBefore s.start rs
last_behind [] s apart = tt
last_behind (r ∷ rs) s apart = (all_last (λ x. stops_before r.end x.start ≡ true) rs s apart.1, last_behind rs s apart.2)

-- what stops short of s stops short of what is no nearer
stops_further : (e : Option (List ℕ)) (s t : List ℕ) → is_below t s ≡ false → stops_before e s ≡ true → stops_before e t ≡ true
stops_further None s t h g = g
stops_further (Some e) s t h g = below_upto e t s g h

pub stop_further : (rs : List RowRange) (s t : List ℕ) → is_below t s ≡ false → StopBefore s rs → StopBefore t rs
stop_further [] s t h all = tt
stop_further (r ∷ rs) s t h all = (stops_further r.end s t h all.0, stop_further rs s t h all.1)

-- ---- two ranges that touch

or_by : (d e : List ℕ) (k : List ℕ) (b : Bool) → is_below d e ≡ b → is_before (if b then Some e else Some d) k ≡ (is_below k d || is_below k e)
or_by d e k true h = by (is_below k d) (is_below k e) (λ p. below_upto k e d p (not_below_back d e h))
  where
    by : (p q : Bool) → (p ≡ true → q ≡ true) → q ≡ (p || q)
    by true q h = h refl
    by false q h = refl
or_by d e k false h = by (is_below k d) (is_below k e) (λ q. below_upto k d e q h)
  where
    by : (p q : Bool) → (q ≡ true → p ≡ true) → p ≡ (p || q)
    by true q h = refl
    by false true h = h refl
    by false false h = refl

or_true : (b : Bool) → true ≡ (b || true)
or_true true = refl
or_true false = refl

-- before the later end is before one of the two
pub before_later : (d e : Option (List ℕ)) (k : List ℕ) → is_before (later_end d e) k ≡ (is_before d k || is_before e k)
before_later None e k = refl
before_later (Some d) None k = or_true (is_below k d)
before_later (Some d) (Some e) k = or_by d e k (is_below d e) refl

-- what is below the start of a range that touches is before the end
pub before_touching : (e : Option (List ℕ)) (s k : List ℕ) → stops_before e s ≡ false → is_below k s ≡ true → is_before e k ≡ true
before_touching None s k h g = refl
before_touching (Some e) s k h g = below_upto k e s g h

-- with the tests of k against both starts and both ends
either_by : (a b d e : Bool) → (a ≡ true → b ≡ true) → (b ≡ true → d ≡ true) → (not a && (d || e)) ≡ ((not a && d) || (not b && e))
either_by true true d e h g = refl
either_by true false d e h g = cc (h refl)
either_by false true true e h g = refl
either_by false true false e h g = cc (g refl)
either_by false false d e h g = refl

-- joined ranges hold what either holds
pub in_joined : (r s : RowRange) (k : List ℕ) → is_below s.start r.start ≡ false → stops_before r.end s.start ≡ false → is_in (joined r s) k ≡ (is_in r k || is_in s k)
in_joined r s k order touch =
    ap (λ b. not (is_below k r.start) && b) (before_later r.end s.end k)
    ∙ either_by (is_below k r.start) (is_below k s.start) (is_before r.end k) (is_before s.end k) (λ h. below_upto k s.start r.start h order) (λ h. before_touching r.end s.start k touch h)

or_left : (p q : Bool) → p ≡ true → (p || q) ≡ true
or_left p q h = ap (λ b. b || q) h

pub joined_filled : (r s : RowRange) → is_filled r ≡ true → is_filled (joined r s) ≡ true
joined_filled r s filled = before_later r.end s.end r.start ∙ or_left (is_before r.end r.start) (is_before s.end r.start) filled

-- ---- one more range is merged

or_assoc : (p q r : Bool) → ((p || q) || r) ≡ (p || (q || r))
or_assoc true q r = refl
or_assoc false q r = refl

or_none : (p : Bool) → (p || false) ≡ p
or_none true = refl
or_none false = refl

-- the last of them, and the others
pub in_any_push : (rs : List RowRange) (s : RowRange) (k : List ℕ) → is_in_any (rs ++ s ∷ []) k ≡ (is_in_any rs k || is_in s k)
in_any_push rs s k = list_any-append (λ r. is_in r k) rs (s ∷ []) ∙ ap (λ b. is_in_any rs k || b) (or_none (is_in s k))

pub join_apart : (rs : List RowRange) (r s : RowRange) → AreApart (rs ++ r ∷ []) → AreApart (rs ++ joined r s ∷ [])
join_apart rs r s apart = apart_push rs (joined r s) (apart_front rs r apart) (last_behind rs r apart) (joined_filled r s (last_filled rs r apart))

pub join_union : (rs : List RowRange) (r s : RowRange) (k : List ℕ) → is_below s.start r.start ≡ false → stops_before r.end s.start ≡ false
    → is_in_any (rs ++ joined r s ∷ []) k ≡ (is_in_any (rs ++ r ∷ []) k || is_in s k)
join_union rs r s k order touch =
    in_any_push rs (joined r s) k ∙ ap (λ b. is_in_any rs k || b) (in_joined r s k order touch) ∙ sym (or_assoc (is_in_any rs k) (is_in r k) (is_in s k)) ∙ ap (λ b. b || is_in s k) (sym (in_any_push rs r k))

pub join_starts : (rs : List RowRange) (r s : RowRange) (k : List ℕ) → StartBy k (rs ++ r ∷ []) → StartBy k (rs ++ joined r s ∷ [])
join_starts rs r s k all = all_push (λ x. is_below k x.start ≡ false) rs (joined r s) (all_front (λ x. is_below k x.start ≡ false) rs r all) (all_last (λ x. is_below k x.start ≡ false) rs r all)

pub next_apart : (rs : List RowRange) (r s : RowRange) → AreApart (rs ++ r ∷ []) → is_below s.start r.start ≡ false → stops_before r.end s.start ≡ true → is_filled s ≡ true → AreApart ((rs ++ r ∷ []) ++ s ∷ [])
next_apart rs r s apart order gap filled =
    apart_push (rs ++ r ∷ []) s apart (all_push (λ x. stops_before x.end s.start ≡ true) rs r (stop_further rs r.start s.start order (last_behind rs r apart)) gap) filled

pub next_starts : (rs : List RowRange) (s : RowRange) (k : List ℕ) → StartBy k rs → is_below k s.start ≡ false → StartBy k (rs ++ s ∷ [])
next_starts rs s k all h = all_push (λ x. is_below k x.start ≡ false) rs s all h

pub starts_last : (rs : List RowRange) (r : RowRange) (k : List ℕ) → StartBy k (rs ++ r ∷ []) → is_below k r.start ≡ false
starts_last rs r k all = all_last (λ x. is_below k x.start ≡ false) rs r all

-- what starts by s starts by what is no nearer
pub start_further : (rs : List RowRange) (s t : List ℕ) → is_below t s ≡ false → StartBy s rs → StartBy t rs
start_further [] s t h all = tt
start_further (r ∷ rs) s t h all = (upto_chain r.start s t all.0 h, start_further rs s t h all.1)

-- the ranges that are left start no sooner than what is merged so far
pub start_first : (new rest : List RowRange) (s : List ℕ) → ((k : List ℕ) → is_below k s ≡ false → StartBy k new) → AllByRecursion (λ x. is_below x.start s ≡ false) rest → StartFirst new rest
start_first new [] s starts all = tt
start_first new (x ∷ xs) s starts all = (starts x.start all.0, start_first new xs s starts all.1)

-- the next range has been merged
pub merge_step : (done new all rest : List RowRange) (r : RowRange) (P : List ℕ → Bool) → all ≡ r ∷ rest → AreFilled all → AreAscending all → ((k : List ℕ) → (is_in_any done k || is_in_any all k) ≡ P k)
    → ((k : List ℕ) → is_in_any new k ≡ (is_in_any done k || is_in r k)) → ((k : List ℕ) → is_below k r.start ≡ false → StartBy k new)
    → AreFilled rest × AreAscending rest × StartFirst new rest × ((k : List ℕ) → (is_in_any new k || is_in_any rest k) ≡ P k)
merge_step done new all rest r P e filled ascending union same starts =
    let f : AreFilled (r ∷ rest) = subst AreFilled e filled in
    let a : AreAscending (r ∷ rest) = subst AreAscending e ascending in
    (f.1, a.1, start_first new rest r.start starts a.0, λ k. ap (λ b. b || is_in_any rest k) (same k) ∙ or_assoc (is_in_any done k) (is_in r k) (is_in_any rest k) ∙ ap (λ xs. is_in_any done k || is_in_any xs k) (sym e) ∙ union k)

no_gap : (t b : Bool) → t ≡ not b → t ≡ true → b ≡ false
no_gap t true e h = cc (e, h)
no_gap t false e h = refl

a_gap : (t b : Bool) → t ≡ not b → t ≡ false → b ≡ true
a_gap t true e h = refl
a_gap t false e h = cc (e, h)

-- the last was taken, and the range of it and of the next was put in its place
module _ (old front new : List RowRange) (r s j : RowRange) (was : old ≡ front ++ r ∷ []) (put : new ≡ front ++ j ∷ []) (made : j ≡ joined r s) where
  abbrev is : new ≡ front ++ joined r s ∷ []
  is = put ∙ ap (λ x. front ++ x ∷ []) made

  pub joins_apart : AreApart old → AreApart new
  joins_apart apart = subst AreApart (sym is) (join_apart front r s (subst AreApart was apart))

  pub joins_same : (t : Bool) → StartBy s.start old → t ≡ not (stops_before r.end s.start) → t ≡ true → (k : List ℕ) → is_in_any new k ≡ (is_in_any old k || is_in s k)
  joins_same t starts touch closes k =
      ap (λ rs. is_in_any rs k) is
      ∙ join_union front r s k (starts_last front r s.start (subst (StartBy s.start) was starts)) (no_gap t (stops_before r.end s.start) touch closes)
      ∙ ap (λ rs. is_in_any rs k || is_in s k) (sym was)

  pub joins_starts : StartBy s.start old → (k : List ℕ) → is_below k s.start ≡ false → StartBy k new
  joins_starts starts k h = subst (StartBy k) (sym is) (join_starts front r s k (subst (StartBy k) was (start_further old s.start k h starts)))

-- the last was put back, and the next behind it
module _ (old front mid new : List RowRange) (r s : RowRange) (was : old ≡ front ++ r ∷ []) (back : mid ≡ front ++ r ∷ []) (put : new ≡ mid ++ s ∷ []) where
  abbrev longer : new ≡ (front ++ r ∷ []) ++ s ∷ []
  longer = put ∙ ap (λ rs. rs ++ s ∷ []) back

  pub nexts_apart : (t : Bool) → AreApart old → StartBy s.start old → is_filled s ≡ true → t ≡ not (stops_before r.end s.start) → t ≡ false → AreApart new
  nexts_apart t apart starts filled touch opens =
      subst AreApart (sym longer) (next_apart front r s (subst AreApart was apart) (starts_last front r s.start (subst (StartBy s.start) was starts)) (a_gap t (stops_before r.end s.start) touch opens) filled)

  pub nexts_same : (k : List ℕ) → is_in_any new k ≡ (is_in_any old k || is_in s k)
  nexts_same k = ap (λ rs. is_in_any rs k) longer ∙ in_any_push (front ++ r ∷ []) s k ∙ ap (λ rs. is_in_any rs k || is_in s k) (sym was)

  pub nexts_starts : StartBy s.start old → (k : List ℕ) → is_below k s.start ≡ false → StartBy k new
  nexts_starts starts k h = subst (StartBy k) (sym longer) (next_starts (front ++ r ∷ []) s k (subst (StartBy k) was (start_further old s.start k h starts)) h)

pub step_starts : (done all rest : List RowRange) (r : RowRange) → all ≡ r ∷ rest → StartFirst done all → StartBy r.start done
step_starts done all rest r e first = let f : StartFirst done (r ∷ rest) = subst (StartFirst done) e first in f.0

pub step_filled : (all rest : List RowRange) (r : RowRange) → all ≡ r ∷ rest → AreFilled all → is_filled r ≡ true
step_filled all rest r e filled = let f : AreFilled (r ∷ rest) = subst AreFilled e filled in f.0

-- nothing is merged yet
pub none_first : (others : List RowRange) → StartFirst [] others
none_first [] = tt
none_first (s ∷ ss) = (tt, none_first ss)

-- nothing is left
pub merge_end : (done all : List RowRange) (P : List ℕ → Bool) → length all ≡ 0 → ((k : List ℕ) → (is_in_any done k || is_in_any all k) ≡ P k) → (k : List ℕ) → is_in_any done k ≡ P k
merge_end done [] P e union k = sym (or_none (is_in_any done k)) ∙ union k
merge_end done (x ∷ xs) P e union k = absurd (omega (arith, e))
