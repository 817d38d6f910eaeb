-- The rows that a set of ranges holds are those of its ranges, one range after another.
use Rattle.std.proofs.Common.{◌≡◌, ◌<◌, ◌+◌, ℕ, zero, suc, Bool, true, false, not, List, [], ◌∷◌, ◌++◌, Option, Some, None, cond, length, drop, get_or, refl, sym, ap, ◌∙◌, subst, ◌&&◌, ◌||◌}
use Rattle.std.specs.Prelude.{filter}
use Rattle.std.specs.Ordering.{nat_cmp, is_le, is_lt, is_gt, ordering_reverse}
use Rattle.std.specs.declared.cmp.Ordering.{Ordering}
use Rattle.std.specs.declared.cmp.Ordering.TheVariants.{Less, Equal, Greater}
use Rattle.std.specs.Cmp.Lexicographic.{slice_cmp}
use Rattle.std.specs.List.{AllByRecursion}
use Rattle.std.specs.Map.{keys_of}
use Rattle.std.proofs.lemmas.Cmp.{nat_list_cmp_total}
use Rattle.std.proofs.lemmas.List.{drop_more}
use Rattle.std.proofs.lemmas.Map.Keys.{sorted_head, sorted_tail}
use Rattle.bt_types.specs.declared.cell.Cell.{Cell}
use Rattle.bt_types.specs.declared.row_range.RowRange.{RowRange}
use Rattle.bt_range.specs.Bounds.{is_before, is_below, is_in}
use Rattle.bt_range.specs.RowSets.{AreApart, is_in_any, stops_before}
use Rattle.bt_range.proofs.Orders.{below_upto, not_below_back}
use Rattle.bt_contents.specs.Contents.{Contents}
use Rattle.bt_contents.specs.Ranges as contents
use Rattle.bt_scan.specs.Selection.{AreSorted, selected}

-- ---- what a range holds

le_by : (r s : Ordering) → s ≡ ordering_reverse r → is_le r ≡ not (is_lt s)
le_by Less s e = rw e refl
le_by Equal s e = rw e refl
le_by Greater s e = rw e refl

gt_by : (r s : Ordering) → s ≡ ordering_reverse r → is_gt r ≡ is_lt s
gt_by Less s e = rw e refl
gt_by Equal s e = rw e refl
gt_by Greater s e = rw e refl

same_end : (e : Option (List ℕ)) (k : List ℕ) → contents.is_before e k ≡ is_before e k
same_end None k = refl
same_end (Some e) k = gt_by (slice_cmp nat_cmp e k) (slice_cmp nat_cmp k e) (nat_list_cmp_total.antisymm k e)

-- both tests of it agree
same_range : (r : RowRange) (k : List ℕ) → contents.is_in r k ≡ is_in r k
same_range r k =
    ap (λ b. b && contents.is_before r.end k) (le_by (slice_cmp nat_cmp r.start k) (slice_cmp nat_cmp k r.start) (nat_list_cmp_total.antisymm k r.start))
    ∙ ap (λ b. not (is_below k r.start) && b) (same_end r.end k)

same_filter : {X : Type 0} (p q : List ℕ → Bool) (same : (k : List ℕ) → p k ≡ q k) (rows : List (List ℕ × X)) → filter (λ r. p r.0) rows ≡ filter (λ r. q r.0) rows
same_filter p q same [] = refl
same_filter p q same (r ∷ rs) = rw (same r.0, same_filter p q same rs) refl

-- ---- two tests, of which the one passes rows first

module _ {X : Type 0} (p q : List ℕ → Bool) where
  -- no row that q passes stands before one that p passes
  abbrev Parted : List (List ℕ × X) → Type 0
  Parted [] = Unit {0}
  Parted (r ∷ rs) = (q r.0 ≡ true → AllByRecursion (λ k. p k ≡ false) (keys_of (r ∷ rs))) × Parted rs

  none_pass : (rows : List (List ℕ × X)) → AllByRecursion (λ k. p k ≡ false) (keys_of rows) → filter (λ r. p r.0) rows ≡ []
  none_pass [] all = refl
  none_pass (r ∷ rs) all = rw all.0 (none_pass rs all.1)

  one_by_one : (rows : List (List ℕ × X)) → Parted rows → filter (λ r. p r.0 || q r.0) rows ≡ filter (λ r. p r.0) rows ++ filter (λ r. q r.0) rows
  one_by_one [] parted = refl
  one_by_one (r ∷ rs) parted = by (p r.0) (q r.0) refl refl (one_by_one rs parted.1)
    where
      by : (s t : Bool) → p r.0 ≡ s → q r.0 ≡ t → filter (λ r. p r.0 || q r.0) rs ≡ filter (λ r. p r.0) rs ++ filter (λ r. q r.0) rs
          → cond (s || t) (r ∷ filter (λ r. p r.0 || q r.0) rs) (filter (λ r. p r.0 || q r.0) rs) ≡ cond s (r ∷ filter (λ r. p r.0) rs) (filter (λ r. p r.0) rs) ++ cond t (r ∷ filter (λ r. q r.0) rs) (filter (λ r. q r.0) rs)
      by true true e g rest = cc ((parted.0 g).0, e)
      by true false e g rest = ap (λ xs. r ∷ xs) rest
      by false true e g rest =
          let none : filter (λ r. p r.0) rs ≡ [] = none_pass rs (parted.0 g).1 in
          ap (λ xs. r ∷ xs) (rest ∙ ap (λ xs. xs ++ filter (λ r. q r.0) rs) none) ∙ sym (ap (λ xs. xs ++ r ∷ filter (λ r. q r.0) rs) none)
      by false false e g rest = rest

-- ---- ranges that stand apart

stops_further : (e : Option (List ℕ)) (s t : List ℕ) → is_below t s ≡ false → stops_before e s ≡ true → stops_before e t ≡ true
stops_further None s t h g = g
stops_further (Some e) s t h g = below_upto e t s g h

past_end : (b : Bool) (e : Option (List ℕ)) (k : List ℕ) → stops_before e k ≡ true → (b && is_before e k) ≡ false
past_end b None k h = cc h
past_end true (Some e) k h = not_below_back e k h
past_end false (Some e) k h = refl

-- a range that stops short of a key holds neither it nor a later one
past : (r : RowRange) (k : List ℕ) → stops_before r.end k ≡ true → is_in r k ≡ false
past r k h = past_end (not (is_below k r.start)) r.end k h

all_past : (r : RowRange) (k : List ℕ) (ks : List (List ℕ)) → stops_before r.end k ≡ true → AllByRecursion (λ q. slice_cmp nat_cmp k q ≡ Less) ks → AllByRecursion (λ q. is_in r q ≡ false) ks
all_past r k [] h later = tt
all_past r k (q ∷ qs) h later = (past r q (stops_further r.end k q (not_below_back k q (ap is_lt later.0)) h), all_past r k qs h later.1)

start_by : (b c : Bool) → (not b && c) ≡ true → b ≡ false
start_by true c h = cc h
start_by false c h = refl

-- it stops short of what a later one holds
stops : (r : RowRange) (rs : List RowRange) (k : List ℕ) → AllByRecursion (λ s. stops_before r.end s.start ≡ true) rs → is_in_any rs k ≡ true → stops_before r.end k ≡ true
stops r [] k apart h = cc h
stops r (s ∷ ss) k apart h = by (is_in s k) refl h (stops r ss k apart.1)
  where
    by : (b : Bool) → is_in s k ≡ b → (b || is_in_any ss k) ≡ true → (is_in_any ss k ≡ true → stops_before r.end k ≡ true) → stops_before r.end k ≡ true
    by true e h rest = stops_further r.end s.start k (start_by (is_below k s.start) (is_before s.end k) e) apart.0
    by false e h rest = rest h

parted : (r : RowRange) (rs : List RowRange) → AllByRecursion (λ s. stops_before r.end s.start ≡ true) rs → (rows : Contents) → AreSorted rows → Parted (is_in r) (is_in_any rs) rows
parted r rs apart [] sorted = tt
parted r rs apart (row ∷ rows) sorted = (
  λ h. let stop : stops_before r.end row.0 ≡ true = stops r rs row.0 apart h in (past r row.0 stop, all_past r row.0 (keys_of rows) stop (sorted_head (slice_cmp nat_cmp) row.0 (keys_of rows) sorted)),
  parted r rs apart rows (sorted_tail (slice_cmp nat_cmp) row.0 (keys_of rows) sorted),
)

-- the rows of the first range stand before those of the others
pub first_range : (r : RowRange) (rs : List RowRange) (rows : Contents) → AllByRecursion (λ s. stops_before r.end s.start ≡ true) rs → AreSorted rows
    → selected (r ∷ rs) rows ≡ contents.rows_within r rows ++ selected rs rows
first_range r rs rows apart sorted =
    one_by_one (is_in r) (is_in_any rs) rows (parted r rs apart rows sorted)
    ∙ ap (λ xs. xs ++ selected rs rows) (sym (same_filter (contents.is_in r) (is_in r) (same_range r) rows))

apart_drop : (n : ℕ) (rs : List RowRange) → AreApart rs → AreApart (drop n rs)
apart_drop zero rs apart = apart
apart_drop (suc n) [] apart = tt
apart_drop (suc n) (r ∷ rs) apart = apart_drop n rs apart.2

-- those of the range at a place stand before those of the later ones
pub next_range : (n : ℕ) (rs : List RowRange) (r : RowRange) (rows : Contents) → n < length rs → get_or rs n r ≡ r → AreApart rs → AreSorted rows
    → selected (drop n rs) rows ≡ contents.rows_within r rows ++ selected (drop (n + 1) rs) rows
next_range n rs r rows lt is apart sorted =
    let cut : drop n rs ≡ r ∷ drop (n + 1) rs = drop_more rs n r lt ∙ ap (λ x. x ∷ drop (n + 1) rs) is in
    ap (λ xs. selected xs rows) cut ∙ first_range r (drop (n + 1) rs) rows (subst AreApart cut (apart_drop n rs apart)).1 sorted

-- no range has no rows
pub none_selected : (rows : Contents) → selected [] rows ≡ []
none_selected [] = refl
none_selected (r ∷ rs) = none_selected rs

-- where the range at a place has no rows, those of the later ones are left
pub range_skipped : (n : ℕ) (rs : List RowRange) (r : RowRange) (rows : Contents) → n < length rs → get_or rs n r ≡ r → AreApart rs → AreSorted rows
    → contents.rows_within r rows ≡ [] → selected (drop (n + 1) rs) rows ≡ selected (drop n rs) rows
range_skipped n rs r rows lt is apart sorted none =
    sym (next_range n rs r rows lt is apart sorted ∙ ap (λ xs. xs ++ selected (drop (n + 1) rs) rows) none)

-- where it has, they stand behind these
pub range_begun : (n : ℕ) (rs : List RowRange) (r : RowRange) (rows : Contents) → n < length rs → get_or rs n r ≡ r → AreApart rs → AreSorted rows
    → (row : List ℕ × List Cell) (rest : Contents) → contents.rows_within r rows ≡ row ∷ rest → selected (drop n rs) rows ≡ row ∷ (rest ++ selected (drop (n + 1) rs) rows)
range_begun n rs r rows lt is apart sorted row rest some =
    next_range n rs r rows lt is apart sorted ∙ ap (λ xs. xs ++ selected (drop (n + 1) rs) rows) some
