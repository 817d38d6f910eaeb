-- Cells in order, merged.
use Rattle.std.proofs.Common.{◌≡◌, ℕ, zero, suc, ◌-◌, Bool, true, false, true≢false, List, [], ◌∷◌, ◌++◌, take, drop, length, append_assoc, reverse, Some, None, slice_get, arith, refl, sym, ap, ◌∙◌, subst}
use Rattle.std.proofs.lemmas.List.{append-nil, reverse-append}
use Rattle.std.specs.List.{AllByRecursion}
use Rattle.std.specs.Ordering.{is_gt, match_ordering, ordering_reverse}
use Rattle.std.specs.Cmp.{IsTotalOrder}
use Rattle.std.specs.declared.cmp.Ordering.{Ordering}
use Rattle.std.specs.declared.cmp.Ordering.TheVariants.{Less, Equal, Greater}
use Rattle.std.proofs.lemmas.Cmp.{nat_cmp_total, nat_list_cmp_total, on_total, then_total, back_total, tied_itself, upto}
use Rattle.bt_types.specs.declared.cell.Cell.{Cell}
use Rattle.bt_types.specs.Cells.{cell_cmp, put_in_order, in_order, merge, IsPastNone, AreInOrder}
use Rattle.bt_filter.proofs.InOrder.{merge_in_order}

pub cell_total : IsTotalOrder cell_cmp
cell_total =
    then_total (on_total (λ (c : Cell). c.family) nat_list_cmp_total) (then_total (on_total (λ (c : Cell). c.qualifier) nat_list_cmp_total) (back_total (on_total (λ (c : Cell). c.at) nat_cmp_total)))

abbrev pub is_past : Cell → Cell → Bool
is_past c d = is_gt (cell_cmp c d)

-- ---- where a cell is put

here_by : (c d : Cell) (ds : List Cell) (r : Ordering) → is_gt r ≡ false → match_ordering r (c ∷ d ∷ ds) (c ∷ d ∷ ds) (d ∷ put_in_order c ds) ≡ c ∷ d ∷ ds
here_by c d ds Less h = refl
here_by c d ds Equal h = refl
here_by c d ds Greater h = absurd (true≢false h)

put_here : (c d : Cell) (ds : List Cell) → is_past c d ≡ false → put_in_order c (d ∷ ds) ≡ c ∷ d ∷ ds
put_here c d ds h = here_by c d ds (cell_cmp c d) h

behind_by : (c d : Cell) (ds : List Cell) (r : Ordering) → is_gt r ≡ true → match_ordering r (c ∷ d ∷ ds) (c ∷ d ∷ ds) (d ∷ put_in_order c ds) ≡ d ∷ put_in_order c ds
behind_by c d ds Less h = absurd (true≢false (sym h))
behind_by c d ds Equal h = absurd (true≢false (sym h))
behind_by c d ds Greater h = refl

put_behind : (c d : Cell) (ds : List Cell) → is_past c d ≡ true → put_in_order c (d ∷ ds) ≡ d ∷ put_in_order c ds
put_behind c d ds h = behind_by c d ds (cell_cmp c d) h

put_first : (c : Cell) (cs : List Cell) → IsPastNone c cs → put_in_order c cs ≡ c ∷ cs
put_first c [] n = refl
put_first c (d ∷ ds) n = put_here c d ds n.0

-- cells in order stay as they are
pub in_order_same : (cs : List Cell) → AreInOrder cs → in_order cs ≡ cs
in_order_same [] o = refl
in_order_same (c ∷ cs) o = ap (put_in_order c) (in_order_same cs o.1) ∙ put_first c cs o.0

pub merge_with_none : (cs : List Cell) → AreInOrder cs → merge cs [] ≡ cs
merge_with_none cs o = ap in_order (append-nil cs) ∙ in_order_same cs o

-- ---- three lists

along : (c d e : Cell) (b : Bool) → is_past c e ≡ b → is_past d c ≡ false → is_past d e ≡ true → b ≡ true
along c d e true at h k = refl
along c d e false at h k = absurd (true≢false (sym k ∙ upto cell_total d c e h at))

-- a cell that stands before another may be put first or last
swapped_by : (c d e : Cell) (es : List Cell) (p q : Bool) → is_past d e ≡ p → is_past c e ≡ q → is_past c d ≡ true → is_past d c ≡ false →
    put_in_order d (put_in_order c es) ≡ put_in_order c (put_in_order d es) → put_in_order d (put_in_order c (e ∷ es)) ≡ put_in_order c (put_in_order d (e ∷ es))
swapped_by c d e es true q h k past not rest =
    let both : is_past c e ≡ true = k ∙ along c d e q k not h in
    ap (put_in_order d) (put_behind c e es both) ∙ put_behind d e (put_in_order c es) h ∙ ap (λ l. e ∷ l) rest
    ∙ sym (put_behind c e (put_in_order d es) both) ∙ sym (ap (put_in_order c) (put_behind d e es h))
swapped_by c d e es false true h k past not rest =
    ap (put_in_order d) (put_behind c e es k) ∙ put_here d e (put_in_order c es) h ∙ ap (λ l. d ∷ l) (sym (put_behind c e es k))
    ∙ sym (put_behind c d (e ∷ es) past) ∙ sym (ap (put_in_order c) (put_here d e es h))
swapped_by c d e es false false h k past not rest =
    ap (put_in_order d) (put_here c e es k) ∙ put_here d c (e ∷ es) not ∙ ap (λ l. d ∷ l) (sym (put_here c e es k))
    ∙ sym (put_behind c d (e ∷ es) past) ∙ sym (ap (put_in_order c) (put_here d e es h))

itself : (c : Cell) → is_past c c ≡ false
itself c = ap is_gt (tied_itself cell_total c)

not_past : (c d : Cell) → cell_cmp c d ≡ Greater → is_past d c ≡ false
not_past c d h = ap is_gt (cell_total.antisymm d c ∙ ap ordering_reverse h)

swapped : (c d : Cell) (cs : List Cell) → cell_cmp c d ≡ Greater → put_in_order d (put_in_order c cs) ≡ put_in_order c (put_in_order d cs)
swapped c d [] h = put_here d c [] (not_past c d h) ∙ sym (put_behind c d [] (ap is_gt h))
swapped c d (e ∷ es) h = swapped_by c d e es (is_past d e) (is_past c e) refl refl (ap is_gt h) (not_past c d h) (swapped c d es h)

-- each of the first cells put among the others
abbrev put_all : List Cell → List Cell → List Cell
put_all [] ds = ds
put_all (c ∷ cs) ds = put_in_order c (put_all cs ds)

merge_is : (cs ds : List Cell) → merge cs ds ≡ put_all cs (in_order ds)
merge_is [] ds = refl
merge_is (c ∷ cs) ds = ap (put_in_order c) (merge_is cs ds)

all_put_by : (c d : Cell) (ds es : List Cell) (r : Ordering) → cell_cmp c d ≡ r → put_all (put_in_order c ds) es ≡ put_in_order c (put_all ds es) →
    put_all (match_ordering r (c ∷ d ∷ ds) (c ∷ d ∷ ds) (d ∷ put_in_order c ds)) es ≡ put_in_order c (put_all (d ∷ ds) es)
all_put_by c d ds es Less h rest = refl
all_put_by c d ds es Equal h rest = refl
all_put_by c d ds es Greater h rest = ap (put_in_order d) rest ∙ swapped c d (put_all ds es) h

all_put : (c : Cell) (ds es : List Cell) → put_all (put_in_order c ds) es ≡ put_in_order c (put_all ds es)
all_put c [] es = refl
all_put c (d ∷ ds) es = all_put_by c d ds es (cell_cmp c d) refl (all_put c ds es)

all_in_order : (cs es : List Cell) → put_all (in_order cs) es ≡ put_all cs es
all_in_order [] es = refl
all_in_order (c ∷ cs) es = all_put c (in_order cs) es ∙ ap (put_in_order c) (all_in_order cs es)

put_append : (cs ds es : List Cell) → put_all (cs ++ ds) es ≡ put_all cs (put_all ds es)
put_append [] ds es = refl
put_append (c ∷ cs) ds es = ap (put_in_order c) (put_append cs ds es)

pub merge_assoc : (cs ds es : List Cell) → merge cs (merge ds es) ≡ merge (merge cs ds) es
merge_assoc cs ds es =
    merge_is cs (merge ds es) ∙ ap (put_all cs) (in_order_same (merge ds es) (merge_in_order ds es) ∙ merge_is ds es)
    ∙ sym (put_append cs ds (in_order es)) ∙ sym (all_in_order (cs ++ ds) (in_order es)) ∙ sym (merge_is (merge cs ds) es)

-- ---- the last cell

-- none of these stands past the cell
abbrev pub StandBy : List Cell → Cell → Type 0
StandBy cs c = AllByRecursion (λ d. is_past d c ≡ false) cs

pub stand_append : (cs ds : List Cell) (c : Cell) → StandBy cs c → StandBy ds c → StandBy (cs ++ ds) c
stand_append [] ds c h k = k
stand_append (d ∷ more) ds c h k = (h.0, stand_append more ds c h.1 k)

stand_along : (cs : List Cell) (c d : Cell) → StandBy cs c → is_past c d ≡ false → StandBy cs d
stand_along [] c d h k = tt
stand_along (e ∷ es) c d h k = (upto cell_total e c d h.0 k, stand_along es c d h.1 k)

past_none_front : (c : Cell) (cs : List Cell) (d : Cell) → IsPastNone c (cs ++ d ∷ []) → IsPastNone c cs × (is_past c d ≡ false)
past_none_front c [] d h = (tt, h.0)
past_none_front c (e ∷ es) d h = let rest = past_none_front c es d h.1 in ((h.0, rest.0), rest.1)

pub in_order_front : (cs : List Cell) (c : Cell) → AreInOrder (cs ++ c ∷ []) → AreInOrder cs × StandBy cs c
in_order_front [] c o = (tt, tt)
in_order_front (d ∷ ds) c o =
    let here = past_none_front d ds c o.0 in
    let rest = in_order_front ds c o.1 in
    ((here.0, rest.0), (here.1, rest.1))

put_before_by : (c d b : Cell) (ds : List Cell) (r : Ordering) → put_in_order c (ds ++ b ∷ []) ≡ put_in_order c ds ++ b ∷ [] →
    match_ordering r (c ∷ d ∷ (ds ++ b ∷ [])) (c ∷ d ∷ (ds ++ b ∷ [])) (d ∷ put_in_order c (ds ++ b ∷ [])) ≡ match_ordering r (c ∷ d ∷ ds) (c ∷ d ∷ ds) (d ∷ put_in_order c ds) ++ b ∷ []
put_before_by c d b ds Less rest = refl
put_before_by c d b ds Equal rest = refl
put_before_by c d b ds Greater rest = ap (λ l. d ∷ l) rest

put_before : (c b : Cell) (cs : List Cell) → is_past c b ≡ false → put_in_order c (cs ++ b ∷ []) ≡ put_in_order c cs ++ b ∷ []
put_before c b [] h = put_here c b [] h
put_before c b (d ∷ ds) h = put_before_by c d b ds (cell_cmp c d) (put_before c b ds h)

last_stays : (cs : List Cell) (b : Cell) → StandBy cs b → in_order (cs ++ b ∷ []) ≡ in_order cs ++ b ∷ []
last_stays [] b h = refl
last_stays (c ∷ cs) b h = ap (put_in_order c) (last_stays cs b h.1) ∙ put_before c b (in_order cs) h.0

put_last : (a : Cell) (ds : List Cell) → AllByRecursion (λ d. is_past a d ≡ true) ds → put_in_order a ds ≡ ds ++ a ∷ []
put_last a [] h = refl
put_last a (d ∷ ds) h = put_behind a d ds h.0 ∙ ap (λ l. d ∷ l) (put_last a ds h.1)

first_last : (cs ds : List Cell) (a : Cell) → StandBy cs a → AreInOrder ds → AllByRecursion (λ d. is_past a d ≡ true) ds → merge (cs ++ a ∷ []) ds ≡ merge cs ds ++ a ∷ []
first_last [] ds a h o all = ap (put_in_order a) (in_order_same ds o) ∙ put_last a ds all ∙ sym (ap (λ l. l ++ a ∷ []) (in_order_same ds o))
first_last (c ∷ cs) ds a h o all = ap (put_in_order c) (first_last cs ds a h.1 o all) ∙ put_before c a (merge cs ds) h.0

second_last : (cs ds : List Cell) (b : Cell) → StandBy (cs ++ ds) b → merge cs (ds ++ b ∷ []) ≡ merge cs ds ++ b ∷ []
second_last cs ds b h = ap in_order (sym (append_assoc cs ds (b ∷ []))) ∙ last_stays (cs ++ ds) b h

all_before : (ds : List Cell) (a b : Cell) → StandBy ds b → is_past a b ≡ true → AllByRecursion (λ d. is_past a d ≡ true) ds
all_before [] a b h k = tt
all_before (d ∷ ds) a b h k = (before (is_past a d) refl, all_before ds a b h.1 k) where
  before : (p : Bool) → is_past a d ≡ p → is_past a d ≡ true
  before true e = e
  before false e = absurd (true≢false (sym k ∙ upto cell_total a d b e h.0))

-- ---- merged from behind

ends : (cs : List Cell) (n : ℕ) (c : Cell) → n ≡ length cs - 1 → slice_get cs n ≡ Some c → (cs ≡ take n cs ++ c ∷ []) × (drop n cs ≡ c ∷ [])
ends [] n c len at = absurd (cc)
ends (d ∷ []) zero c len at = let same : d ≡ c = cc in (ap (λ x. x ∷ []) same, ap (λ x. x ∷ []) same)
ends (d ∷ e ∷ es) zero c len at = absurd (omega (arith, len))
ends (d ∷ ds) (suc n) c len at = let rest = ends ds n c (omega (arith, len)) at in (ap (λ l. d ∷ l) rest.0, rest.1)

first_moved : (cs ds bs : List Cell) (a b : Cell) → is_past a b ≡ true → AreInOrder (cs ++ a ∷ []) → AreInOrder (ds ++ b ∷ []) →
    merge cs (ds ++ b ∷ []) ++ reverse (bs ++ a ∷ []) ≡ merge (cs ++ a ∷ []) (ds ++ b ∷ []) ++ reverse bs
first_moved cs ds bs a b h o p =
    let before = all_before (ds ++ b ∷ []) a b (stand_append ds (b ∷ []) b (in_order_front ds b p).1 (itself b, tt)) h in
    ap (λ l. merge cs (ds ++ b ∷ []) ++ l) (reverse-append bs (a ∷ [])) ∙ sym (append_assoc (merge cs (ds ++ b ∷ [])) (a ∷ []) (reverse bs))
    ∙ ap (λ l. l ++ reverse bs) (sym (first_last cs (ds ++ b ∷ []) a (in_order_front cs a o).1 p before))

second_moved : (cs ds bs : List Cell) (a b : Cell) → is_past a b ≡ false → AreInOrder (cs ++ a ∷ []) → AreInOrder (ds ++ b ∷ []) →
    merge (cs ++ a ∷ []) ds ++ reverse (bs ++ b ∷ []) ≡ merge (cs ++ a ∷ []) (ds ++ b ∷ []) ++ reverse bs
second_moved cs ds bs a b h o p =
    let firsts : StandBy (cs ++ a ∷ []) b = stand_append cs (a ∷ []) b (stand_along cs a b (in_order_front cs a o).1 h) (h, tt) in
    ap (λ l. merge (cs ++ a ∷ []) ds ++ l) (reverse-append bs (b ∷ [])) ∙ sym (append_assoc (merge (cs ++ a ∷ []) ds) (b ∷ []) (reverse bs))
    ∙ ap (λ l. l ++ reverse bs) (sym (second_last (cs ++ a ∷ []) ds b (stand_append (cs ++ a ∷ []) ds b firsts (in_order_front ds b p).1)))

-- what is left of both lists, and behind it what was moved, the last cell first
pub record IsMerging (all cs ds bs : List Cell) : Type 0 where
  pub same : merge cs ds ++ reverse bs ≡ all
  pub first : AreInOrder cs
  pub second : AreInOrder ds

pub first_step : (all cs ds bs cs' bs' : List Cell) (n m : ℕ) (a b : Cell) → n ≡ length cs - 1 → slice_get cs n ≡ Some a → m ≡ length ds - 1 → slice_get ds m ≡ Some b → is_past a b ≡ true →
    cs' ≡ take n cs → bs' ≡ bs ++ drop n cs → IsMerging all cs ds bs → IsMerging all cs' ds bs'
first_step all cs ds bs cs' bs' n m a b ln an lm bm past front moved h =
    let c = ends cs n a ln an in
    let d = ends ds m b lm bm in
    let o = subst AreInOrder c.0 h.first in
    let step : merge (take n cs) ds ++ reverse (bs ++ a ∷ []) ≡ merge cs ds ++ reverse bs =
    subst (λ l. merge (take n cs) l ++ reverse (bs ++ a ∷ []) ≡ merge cs l ++ reverse bs) (sym d.0)
    (subst (λ l. merge (take n cs) (take m ds ++ b ∷ []) ++ reverse (bs ++ a ∷ []) ≡ merge l (take m ds ++ b ∷ []) ++ reverse bs) (sym c.0)
    (first_moved (take n cs) (take m ds) bs a b past o (subst AreInOrder d.0 h.second))) in
    record {
      same = ap (λ l. merge l ds ++ reverse bs') front ∙ ap (λ l. merge (take n cs) ds ++ reverse l) (moved ∙ ap (λ l. bs ++ l) c.1) ∙ step ∙ h.same;
      first = subst AreInOrder (sym front) (in_order_front (take n cs) a o).0;
      second = h.second;
    }

pub second_step : (all cs ds bs ds' bs' : List Cell) (n m : ℕ) (a b : Cell) → n ≡ length cs - 1 → slice_get cs n ≡ Some a → m ≡ length ds - 1 → slice_get ds m ≡ Some b → is_past a b ≡ false →
    ds' ≡ take m ds → bs' ≡ bs ++ drop m ds → IsMerging all cs ds bs → IsMerging all cs ds' bs'
second_step all cs ds bs ds' bs' n m a b ln an lm bm past front moved h =
    let c = ends cs n a ln an in
    let d = ends ds m b lm bm in
    let p = subst AreInOrder d.0 h.second in
    let step : merge cs (take m ds) ++ reverse (bs ++ b ∷ []) ≡ merge cs ds ++ reverse bs =
    subst (λ l. merge cs (take m ds) ++ reverse (bs ++ b ∷ []) ≡ merge cs l ++ reverse bs) (sym d.0)
    (subst (λ l. merge l (take m ds) ++ reverse (bs ++ b ∷ []) ≡ merge l (take m ds ++ b ∷ []) ++ reverse bs) (sym c.0)
    (second_moved (take n cs) (take m ds) bs a b past (subst AreInOrder c.0 h.first) p)) in
    record {
      same = ap (λ l. merge cs l ++ reverse bs') front ∙ ap (λ l. merge cs (take m ds) ++ reverse l) (moved ∙ ap (λ l. bs ++ l) d.1) ∙ step ∙ h.same;
      first = h.first;
      second = subst AreInOrder (sym front) (in_order_front (take m ds) b p).0;
    }

-- a list without a last cell is empty
pub none_left : (cs : List Cell) (n : ℕ) → n ≡ length cs - 1 → slice_get cs n ≡ None → length cs ≡ 0
none_left [] n len at = refl
none_left (d ∷ []) zero len at = absurd (cc)
none_left (d ∷ e ∷ es) zero len at = absurd (omega (arith, len))
none_left (d ∷ ds) (suc n) len at = absurd (omega (arith, len, none_left ds n (omega (arith, len)) at))

-- the first list is at its end
pub second_left : (all cs ds bs out : List Cell) → length cs ≡ 0 → out ≡ ds ++ reverse bs → IsMerging all cs ds bs → out ≡ all
second_left all [] ds bs out len is h = is ∙ ap (λ l. l ++ reverse bs) (sym (in_order_same ds h.second)) ∙ h.same
second_left all (c ∷ cs) ds bs out len is h = absurd (omega (arith, len))

-- the second list is at its end
pub first_left : (all cs ds bs out : List Cell) (n : ℕ) → n ≡ length ds - 1 → slice_get ds n ≡ None → out ≡ cs ++ reverse bs → IsMerging all cs ds bs → out ≡ all
first_left all cs [] bs out n len at is h = is ∙ ap (λ l. l ++ reverse bs) (sym (merge_with_none cs h.first)) ∙ h.same
first_left all cs (d ∷ ds) bs out n len at is h = absurd (omega (arith, none_left (d ∷ ds) n len at))
