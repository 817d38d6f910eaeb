-- The first cells of each column, counted in one pass.
use Rattle.std.proofs.Common.{◌≡◌, ℕ, zero, suc, ◌+◌, ◌-◌, ◌<◌, ◌≤◌, min, Bool, true, false, true≢false, not, cond, ◌&&◌, bytes_eq, nat_lt, List, [], ◌∷◌, ◌++◌, length, length-append, get_or, take, drop, append_assoc, Some, slice_get, arith, refl, sym, ap, ◌∙◌, subst}
use Rattle.std.specs.List.{filter, SwappedAt}
use Rattle.std.specs.Ordering.{is_gt, nat_cmp, ordering_then, ordering_reverse}
use Rattle.std.specs.Cmp.Lexicographic.{slice_cmp}
use Rattle.std.specs.declared.cmp.Ordering.{Ordering}
use Rattle.std.specs.declared.cmp.Ordering.TheVariants.{Less, Equal, Greater}
use Rattle.std.proofs.lemmas.Bool.{lt-ltb, le-ltb}
use Rattle.std.proofs.lemmas.Cmp.{nat_list_cmp_total}
use Rattle.std.proofs.lemmas.Slice.Eq.{bytes_eq-Decides}
use Rattle.std.proofs.lemmas.Map.Text.{is_eq-slice_cmp}
use Rattle.std.proofs.lemmas.List.{append-nil, length-set, take_all, take_more, take-set-le, drop_more, drop-set-lt}
use Rattle.std.proofs.lemmas.List.Elements.{filter-append}
use Rattle.bt_types.specs.declared.cell.Cell.{Cell}
use Rattle.bt_types.specs.Cells.{IsPastNone, AreInOrder}
use Rattle.bt_filter.specs.Meaning.{is_of_column, first_of_columns}
use Rattle.bt_filter_run.specs.Columns.{continues}
use Rattle.bt_filter_run.proofs.Merges.{StandBy, is_past, in_order_front}

-- ---- the column of the last cell

pub continues_last : (cs : List Cell) (n : ℕ) (b c : Cell) → n ≡ length cs - 1 → slice_get cs n ≡ Some b → continues cs c ≡ is_of_column c b
continues_last [] n b c len at = absurd (cc)
continues_last (d ∷ []) zero b c len at = let same : d ≡ b = cc in ap (is_of_column c) same
continues_last (d ∷ []) (suc n) b c len at = absurd (cc)
continues_last (d ∷ e ∷ es) zero b c len at = absurd (omega (arith, len))
continues_last (d ∷ e ∷ es) (suc n) b c len at = continues_last (e ∷ es) n b c (omega (arith, len)) at

continues_more : (cs : List Cell) (b c : Cell) → continues (cs ++ b ∷ []) c ≡ is_of_column c b
continues_more [] b c = refl
continues_more (d ∷ []) b c = refl
continues_more (d ∷ e ∷ es) b c = continues_more (e ∷ es) b c

-- ---- cells of one column

and_first : (p q : Bool) → p && q ≡ true → p ≡ true
and_first true q h = refl
and_first false q h = h

and_second : (p q : Bool) → p && q ≡ true → q ≡ true
and_second true q h = h
and_second false q h = absurd (true≢false (sym h))

same_family : (c d : Cell) → is_of_column c d ≡ true → d.family ≡ c.family
same_family c d h = (bytes_eq-Decides d.family c.family).0 (and_first (bytes_eq d.family c.family) (bytes_eq d.qualifier c.qualifier) h)

same_qualifier : (c d : Cell) → is_of_column c d ≡ true → d.qualifier ≡ c.qualifier
same_qualifier c d h = (bytes_eq-Decides d.qualifier c.qualifier).0 (and_second (bytes_eq d.family c.family) (bytes_eq d.qualifier c.qualifier) h)

-- d is of one column with c if it is with b, which is of one with c
same_column : (b c d : Cell) → is_of_column b c ≡ true → is_of_column b d ≡ is_of_column c d
same_column b c d h =
    ap (λ f. bytes_eq d.family f && bytes_eq d.qualifier b.qualifier) (sym (same_family b c h)) ∙ ap (λ q. bytes_eq d.family c.family && bytes_eq d.qualifier q) (sym (same_qualifier b c h))

same_filter : (b c : Cell) (ds : List Cell) → is_of_column b c ≡ true → filter (is_of_column b) ds ≡ filter (is_of_column c) ds
same_filter b c [] h = refl
same_filter b c (d ∷ ds) h =
    ap (λ p. cond p (d ∷ filter (is_of_column b) ds) (filter (is_of_column b) ds)) (same_column b c d h) ∙ ap (λ l. cond (is_of_column c d) (d ∷ l) l) (same_filter b c ds h)

continues_same : (cs : List Cell) (b c : Cell) → continues cs c ≡ true → continues cs b ≡ is_of_column b c
continues_same [] b c h = absurd (true≢false (sym h))
continues_same (d ∷ []) b c h =
    ap (λ f. bytes_eq f b.family && bytes_eq d.qualifier b.qualifier) (same_family c d h) ∙ ap (λ q. bytes_eq c.family b.family && bytes_eq q b.qualifier) (same_qualifier c d h)
continues_same (d ∷ e ∷ es) b c h = continues_same (e ∷ es) b c h

-- ---- a cell between two of one column

equal_by : (r : Ordering) → is_gt r ≡ false → is_gt (ordering_reverse r) ≡ false → r ≡ Equal
equal_by Less h k = absurd (true≢false k)
equal_by Equal h k = refl
equal_by Greater h k = absurd (true≢false h)

between : (a b : List ℕ) → is_gt (slice_cmp nat_cmp a b) ≡ false → is_gt (slice_cmp nat_cmp b a) ≡ false → slice_cmp nat_cmp a b ≡ Equal
between a b h k = equal_by (slice_cmp nat_cmp a b) h (ap is_gt (sym (nat_list_cmp_total.antisymm b a)) ∙ k)

first_not_past : (r s : Ordering) → is_gt (ordering_then r s) ≡ false → is_gt r ≡ false
first_not_past Less s h = refl
first_not_past Equal s h = refl
first_not_past Greater s h = h

equal_bytes : (a b : List ℕ) → slice_cmp nat_cmp a b ≡ Equal → bytes_eq a b ≡ true
equal_bytes a b h = sym (is_eq-slice_cmp a b) ∙ ap Rattle.std.specs.Ordering.is_eq h

then_second : (r s : Ordering) → r ≡ Equal → is_gt (ordering_then r s) ≡ false → is_gt s ≡ false
then_second r s e h = ap (λ o. is_gt (ordering_then o s)) (sym e) ∙ h

-- how two cells of one family compare
abbrev in_family : Cell → Cell → Ordering
in_family a b = ordering_then (slice_cmp nat_cmp a.qualifier b.qualifier) (nat_cmp b.at a.at)

squeezed : (c d x : Cell) → is_of_column c d ≡ true → is_past d x ≡ false → is_past x c ≡ false → is_of_column c x ≡ true
squeezed c d x h before after =
    let first : is_gt (slice_cmp nat_cmp c.family x.family) ≡ false =
    ap (λ f. is_gt (slice_cmp nat_cmp f x.family)) (sym (same_family c d h)) ∙ first_not_past (slice_cmp nat_cmp d.family x.family) (in_family d x) before in
    let family : slice_cmp nat_cmp x.family c.family ≡ Equal = between x.family c.family (first_not_past (slice_cmp nat_cmp x.family c.family) (in_family x c) after) first in
    let turned : slice_cmp nat_cmp d.family x.family ≡ Equal =
    ap (λ f. slice_cmp nat_cmp f x.family) (same_family c d h) ∙ nat_list_cmp_total.antisymm c.family x.family ∙ ap ordering_reverse family in
    let second : is_gt (slice_cmp nat_cmp c.qualifier x.qualifier) ≡ false =
    ap (λ q. is_gt (slice_cmp nat_cmp q x.qualifier)) (sym (same_qualifier c d h))
    ∙ first_not_past (slice_cmp nat_cmp d.qualifier x.qualifier) (nat_cmp x.at d.at) (then_second (slice_cmp nat_cmp d.family x.family) (in_family d x) turned before) in
    let third : is_gt (slice_cmp nat_cmp x.qualifier c.qualifier) ≡ false =
    first_not_past (slice_cmp nat_cmp x.qualifier c.qualifier) (nat_cmp c.at x.at) (then_second (slice_cmp nat_cmp x.family c.family) (in_family x c) family after) in
    ap (λ p. p && bytes_eq x.qualifier c.qualifier) (equal_bytes x.family c.family family) ∙ equal_bytes x.qualifier c.qualifier (between x.qualifier c.qualifier third second)

none_at : (c d : Cell) (ds : List Cell) (p : Bool) → p ≡ false → filter (is_of_column c) ds ≡ [] → cond p (d ∷ filter (is_of_column c) ds) (filter (is_of_column c) ds) ≡ []
none_at c d ds true h rest = absurd (true≢false h)
none_at c d ds false h rest = rest

not_of_column : (c d x : Cell) (p : Bool) → is_of_column c d ≡ p → is_of_column c x ≡ false → is_past d x ≡ false → is_past x c ≡ false → p ≡ false
not_of_column c d x true h other before after = absurd (true≢false (sym (squeezed c d x h before after) ∙ other))
not_of_column c d x false h other before after = refl

-- no cell before x is of the column of c, if x stands between them and is not
none_before : (c x : Cell) (ds : List Cell) → is_of_column c x ≡ false → StandBy ds x → is_past x c ≡ false → filter (is_of_column c) ds ≡ []
none_before c x [] other h after = refl
none_before c x (d ∷ ds) other h after =
    none_at c d ds (is_of_column c d) (not_of_column c d x (is_of_column c d) refl other h.0 after) (none_before c x ds other h.1 after)

-- ---- one more cell

first_at : (n : ℕ) (c : Cell) (a b es : List Cell) (p : Bool) → a ≡ b ++ es → cond p (c ∷ a) a ≡ cond p (c ∷ b) b ++ es
first_at n c a b es true h = ap (λ l. c ∷ l) h
first_at n c a b es false h = h

first_more : (n : ℕ) (before cs : List Cell) (x : Cell) →
    first_of_columns n before (cs ++ x ∷ []) ≡ first_of_columns n before cs ++ cond (nat_lt (length (filter (is_of_column x) (before ++ cs))) n) (x ∷ []) []
first_more n before [] x = ap (λ l. cond (nat_lt (length (filter (is_of_column x) l)) n) (x ∷ []) []) (sym (append-nil before))
first_more n before (c ∷ cs) x =
    first_at n c (first_of_columns n (before ++ c ∷ []) (cs ++ x ∷ [])) (first_of_columns n (before ++ c ∷ []) cs) _ (nat_lt (length (filter (is_of_column c) before)) n)
    (first_more n (before ++ c ∷ []) cs x ∙ ap (λ l. first_of_columns n (before ++ c ∷ []) cs ++ cond (nat_lt (length (filter (is_of_column x) l)) n) (x ∷ []) []) (append_assoc before (c ∷ []) cs))

-- ys began as xs. The first count of each column of the first i of xs stand in the first k places of ys, and count of them are of the column of the last one
pub record ColumnsInPlace (n : ℕ) (xs ys : List Cell) (k count i : ℕ) : Type 0 where
  pub front : take k ys ≡ first_of_columns n [] (take i xs)
  pub rest : drop i ys ≡ drop i xs
  pub behind : k ≤ i
  pub within : i ≤ length xs
  pub long : length ys ≡ length xs
  pub few : count ≤ n
  pub counted : (c : Cell) → StandBy (take i xs) c → min (length (filter (is_of_column c) (take i xs))) n ≡ cond (continues (take k ys) c) count 0

pub columns_begin : (n : ℕ) (xs : List Cell) → ColumnsInPlace n xs xs 0 0 0
columns_begin n xs = record {
  front = refl;
  rest = refl;
  behind = omega arith;
  within = omega arith;
  long = refl;
  few = omega arith;
  counted = λ c h. omega arith;
}

-- ---- a turn of the loop

length_at : (x : Cell) (p : Bool) → length (cond p (x ∷ []) []) ≡ cond p 1 0
length_at x true = refl
length_at x false = refl

filter_count : (c x : Cell) (ds : List Cell) → length (filter (is_of_column c) (ds ++ x ∷ [])) ≡ length (filter (is_of_column c) ds) + cond (is_of_column c x) 1 0
filter_count c x ds =
    ap length (filter-append (is_of_column c) ds (x ∷ [])) ∙ length-append (filter (is_of_column c) ds) (cond (is_of_column c x) (x ∷ []) [])
    ∙ ap (λ m. length (filter (is_of_column c) ds) + m) (length_at x (is_of_column c x))

push_count : (n now : ℕ) (ds : List Cell) (x c : Cell) (p : Bool) → is_of_column c x ≡ p → StandBy ds x → is_past x c ≡ false → min (length (filter (is_of_column x) ds)) n ≡ now → now < n →
    min (length (filter (is_of_column c) ds) + cond p 1 0) n ≡ cond p (now + 1) 0
push_count n now ds x c true e stand after is lt = ap (λ l. min (length l + 1) n) (same_filter c x ds e) ∙ omega (arith, is, lt)
push_count n now ds x c false e stand after is lt = ap (λ l. min (length l + 0) n) (none_before c x ds e stand after) ∙ omega arith

none_counted : (p : Bool) (now : ℕ) → now ≡ 0 → cond p now 0 ≡ 0
none_counted true now h = h
none_counted false now h = refl

skip_count : (n now count : ℕ) (ds kept : List Cell) (x c : Cell) (p q : Bool) → is_of_column c x ≡ p → continues kept x ≡ q → StandBy ds x → is_past x c ≡ false →
    min (length (filter (is_of_column x) ds)) n ≡ now → n ≤ now → now ≡ cond q count 0 → min (length (filter (is_of_column c) ds) + cond p 1 0) n ≡ cond (continues kept c) now 0
skip_count n now count ds kept x c true true e f stand after is le at =
    ap (λ l. min (length l + 1) n) (same_filter c x ds e) ∙ omega (arith, is, le) ∙ ap (λ b. cond b now 0) (sym (continues_same kept c x f ∙ e))
skip_count n now count ds kept x c false true e f stand after is le at =
    ap (λ l. min (length l + 0) n) (none_before c x ds e stand after) ∙ omega arith ∙ ap (λ b. cond b now 0) (sym (continues_same kept c x f ∙ e))
skip_count n now count ds kept x c true false e f stand after is le at = omega (arith, le, at) ∙ sym (none_counted (continues kept c) now at)
skip_count n now count ds kept x c false false e f stand after is le at =
    ap (λ l. min (length l + 0) n) (none_before c x ds e stand after) ∙ omega arith ∙ sym (none_counted (continues kept c) now at)

take_past_none : (n : ℕ) (c : Cell) (cs : List Cell) → IsPastNone c cs → IsPastNone c (take n cs)
take_past_none zero c cs h = tt
take_past_none (suc n) c [] h = tt
take_past_none (suc n) c (d ∷ ds) h = (h.0, take_past_none n c ds h.1)

take_in_order : (n : ℕ) (cs : List Cell) → AreInOrder cs → AreInOrder (take n cs)
take_in_order zero cs o = tt
take_in_order (suc n) [] o = tt
take_in_order (suc n) (c ∷ cs) o = (take_past_none n c cs o.0, take_in_order n cs o.1)

-- the next cell, which is of this column as often as counted
record Turn (n : ℕ) (xs ys : List Cell) (k now i : ℕ) (x : Cell) : Type 0 where
  more : take (i + 1) xs ≡ take i xs ++ x ∷ []
  rest : drop (i + 1) ys ≡ drop (i + 1) xs
  stand : StandBy (take i xs) x
  count : min (length (filter (is_of_column x) (take i xs))) n ≡ now
  first : first_of_columns n [] (take (i + 1) xs) ≡ take k ys ++ cond (nat_lt (length (filter (is_of_column x) (take i xs))) n) (x ∷ []) []

turn : (n : ℕ) (xs ys : List Cell) (k count now i : ℕ) (x : Cell) → AreInOrder xs → ColumnsInPlace n xs ys k count i → i < length ys → x ≡ get_or ys i x → now ≡ cond (continues (take k ys) x) count 0 → Turn n xs ys k now i x
turn n xs ys k count now i x o h lt is at =
    let both : x ∷ drop (i + 1) ys ≡ get_or xs i x ∷ drop (i + 1) xs =
    ap (λ y. y ∷ drop (i + 1) ys) is ∙ sym (drop_more ys i x lt) ∙ h.rest ∙ drop_more xs i x (omega (arith, lt, h.long)) in
    let read : get_or xs i x ≡ x = sym (ap (λ l. get_or l 0 x) both) in
    let more : take (i + 1) xs ≡ take i xs ++ x ∷ [] = take_more xs i x (omega (arith, lt, h.long)) ∙ ap (λ y. take i xs ++ y ∷ []) read in
    let stand : StandBy (take i xs) x = (in_order_front (take i xs) x (subst AreInOrder more (take_in_order (i + 1) xs o))).1 in
    record {
      more = more;
      rest = ap (drop 1) both;
      stand = stand;
      count = h.counted x stand ∙ sym at;
      first = ap (first_of_columns n []) more ∙ first_more n [] (take i xs) x ∙ ap (λ l. l ++ cond (nat_lt (length (filter (is_of_column x) (take i xs))) n) (x ∷ []) []) (sym h.front);
    }

-- the cells before the last, and the last one
stand_split : (cs : List Cell) (x c : Cell) → StandBy (cs ++ x ∷ []) c → is_past x c ≡ false
stand_split [] x c h = h.0
stand_split (d ∷ ds) x c h = stand_split ds x c h.1

pub columns_push : (n : ℕ) (xs ys zs : List Cell) (k count now i : ℕ) (x : Cell) → AreInOrder xs → ColumnsInPlace n xs ys k count i → i < length ys → x ≡ get_or ys i x →
    now ≡ cond (continues (take k ys) x) count 0 → now < n → SwappedAt ys zs k i → ColumnsInPlace n xs zs (k + 1) (now + 1) (i + 1)
columns_push n xs ys zs k count now i x o h lt is at less swap =
    let t = turn n xs ys k count now i x o h lt is at in
    let sets = swap.3 x in
    let long : length zs ≡ length ys = ap length sets ∙ length-set _ i _ ∙ length-set ys k _ in
    let kept : take (k + 1) zs ≡ take k ys ++ x ∷ [] =
    take_more zs k x (omega (arith, long, lt, h.behind)) ∙ ap (λ y. take k zs ++ y ∷ []) (swap.0 x ∙ sym is)
    ∙ ap (λ l. l ++ x ∷ []) (ap (take k) sets ∙ take-set-le k _ i _ h.behind ∙ take-set-le k ys k _ (omega arith)) in
    record {
      front = kept ∙ sym (t.first ∙ ap (λ p. take k ys ++ cond p (x ∷ []) []) (lt-ltb (length (filter (is_of_column x) (take i xs))) n (omega (arith, t.count, less))));
      rest = ap (drop (i + 1)) sets ∙ drop-set-lt (i + 1) _ i _ (omega arith) ∙ drop-set-lt (i + 1) ys k _ (omega (arith, h.behind)) ∙ t.rest;
      behind = omega (arith, h.behind);
      within = omega (arith, lt, h.long);
      long = long ∙ h.long;
      few = omega (arith, less);
      counted = λ c stand.
          let after = stand_split (take i xs) x c (subst (λ l. StandBy l c) t.more stand) in
          ap (λ l. min (length (filter (is_of_column c) l)) n) t.more ∙ ap (λ m. min m n) (filter_count c x (take i xs))
          ∙ push_count n now (take i xs) x c (is_of_column c x) refl t.stand after t.count less
          ∙ ap (λ p. cond p (now + 1) 0) (sym (continues_more (take k ys) x c)) ∙ ap (λ l. cond (continues l c) (now + 1) 0) (sym kept);
    }

pub columns_skip : (n : ℕ) (xs ys : List Cell) (k count now i : ℕ) (x : Cell) → AreInOrder xs → ColumnsInPlace n xs ys k count i → i < length ys → x ≡ get_or ys i x →
    now ≡ cond (continues (take k ys) x) count 0 → n ≤ now → ColumnsInPlace n xs ys k now (i + 1)
columns_skip n xs ys k count now i x o h lt is at most =
    let t = turn n xs ys k count now i x o h lt is at in
    record {
      front = sym (t.first ∙ ap (λ p. take k ys ++ cond p (x ∷ []) []) (le-ltb (length (filter (is_of_column x) (take i xs))) n (omega (arith, t.count, most))) ∙ append-nil (take k ys));
      rest = t.rest;
      behind = omega (arith, h.behind);
      within = omega (arith, lt, h.long);
      long = h.long;
      few = omega (arith, t.count);
      counted = λ c stand.
          let after = stand_split (take i xs) x c (subst (λ l. StandBy l c) t.more stand) in
          ap (λ l. min (length (filter (is_of_column c) l)) n) t.more ∙ ap (λ m. min m n) (filter_count c x (take i xs))
          ∙ skip_count n now count (take i xs) (take k ys) x c (is_of_column c x) (continues (take k ys) x) refl refl t.stand after t.count most at;
    }

pub columns_all : (n : ℕ) (xs ys : List Cell) (k count i : ℕ) → ColumnsInPlace n xs ys k count i → length xs ≤ i → take k ys ≡ first_of_columns n [] xs
columns_all n xs ys k count i h le = h.front ∙ ap (first_of_columns n []) (take_all i xs le)

pub counted_anew : (b : Bool) (now count : ℕ) → b ≡ false → now ≡ 0 → now ≡ cond b count 0
counted_anew true now count h is = absurd (true≢false h)
counted_anew false now count h is = is

pub counted_on : (b : Bool) (now count : ℕ) → b ≡ true → now ≡ count → now ≡ cond b count 0
counted_on true now count h is = is
counted_on false now count h is = absurd (true≢false (sym h))
