-- What a filter gives of cells in order is in order.
use Rattle.std.proofs.Common.{◌≡◌, ℕ, zero, suc, Bool, true, false, List, [], ◌∷◌, ◌++◌, map, take, drop, length, Option, Some, None, option_map, refl, sym, ap, ◌∙◌, subst, cond, nat_lt}
use Rattle.std.specs.Prelude.{All}
use Rattle.std.specs.List.{filter}
use Rattle.std.specs.Ordering.{match_ordering, is_gt, ordering_reverse}
use Rattle.std.specs.Cmp.{IsTotalOrder}
use Rattle.std.specs.declared.cmp.Ordering.{Ordering}
use Rattle.std.specs.declared.cmp.Ordering.TheVariants.{Less, Equal, Greater}
use Rattle.std.proofs.lemmas.Cmp.{nat_cmp_total, nat_list_cmp_total, on_total, then_total, back_total, upto}
use Rattle.std.proofs.lemmas.List.Elements.{All-head, All-tail}
use Rattle.bt_types.specs.declared.cell.Cell.{Cell}
use Rattle.bt_types.specs.Cells.{cell_cmp, put_in_order, in_order, merge, AreOrdered, IsRow, IsPastNone, AreInOrder}
use Rattle.bt_pattern.specs.Patterns.{matches}
use Rattle.bt_filter.specs.declared.filter.Filter.{Filter}
use Rattle.bt_filter.specs.declared.filter.Filter.TheOpen.{Filter-F}
use Rattle.bt_filter.specs.declared.filter.Filter.TheFolds.{fold-roll-Filter, ind-Filter, map-Filter}
use Rattle.bt_filter.specs.Meaning.{Given, Gives, chain_gives, interleave_gives, predicate_out, branch_out, chosen, condition_gives, first_of_columns, is_of_column, without_value, with_label, node_gives, filter_meaning, final_cells}

cell_total : IsTotalOrder cell_cmp
cell_total =
    then_total (on_total (λ (c : Cell). c.family) nat_list_cmp_total) (then_total (on_total (λ (c : Cell). c.qualifier) nat_list_cmp_total) (back_total (on_total (λ (c : Cell). c.at) nat_cmp_total)))

-- ---- rows, and cells that are merged

strictly : (c : Cell) (cs : List Cell) → All (λ d. cell_cmp c d ≡ Less) cs → IsPastNone c cs
strictly c [] h = tt
strictly c (d ∷ ds) h = (ap is_gt (All-head (λ x. cell_cmp c x ≡ Less) d ds h), strictly c ds (All-tail (λ x. cell_cmp c x ≡ Less) d ds h))

pub ordered_in_order : (cs : List Cell) → AreOrdered cs → AreInOrder cs
ordered_in_order [] o = tt
ordered_in_order (c ∷ cs) o = (strictly c cs o.0, ordered_in_order cs o.1)

past_none_along : (c d : Cell) (cs : List Cell) → is_gt (cell_cmp c d) ≡ false → IsPastNone d cs → IsPastNone c cs
past_none_along c d [] h n = tt
past_none_along c d (e ∷ es) h n = (upto cell_total c d e h n.0, past_none_along c d es h n.1)

past_none_by : (x c d : Cell) (ds : List Cell) (r : Ordering) → is_gt (cell_cmp x c) ≡ false → IsPastNone x (d ∷ ds) → IsPastNone x (put_in_order c ds) →
    IsPastNone x (match_ordering r (c ∷ d ∷ ds) (c ∷ d ∷ ds) (d ∷ put_in_order c ds))
past_none_by x c d ds Less h n rest = (h, n)
past_none_by x c d ds Equal h n rest = (h, n)
past_none_by x c d ds Greater h n rest = (n.0, rest)

past_none_put : (x c : Cell) (cs : List Cell) → is_gt (cell_cmp x c) ≡ false → IsPastNone x cs → IsPastNone x (put_in_order c cs)
past_none_put x c [] h n = (h, tt)
past_none_put x c (d ∷ ds) h n = past_none_by x c d ds (cell_cmp c d) h n (past_none_put x c ds h n.1)

in_order_by : (c d : Cell) (ds : List Cell) (r : Ordering) → cell_cmp c d ≡ r → AreInOrder (d ∷ ds) → AreInOrder (put_in_order c ds) →
    AreInOrder (match_ordering r (c ∷ d ∷ ds) (c ∷ d ∷ ds) (d ∷ put_in_order c ds))
in_order_by c d ds Less e o rest = ((ap is_gt e, past_none_along c d ds (ap is_gt e) o.0), o)
in_order_by c d ds Equal e o rest = ((ap is_gt e, past_none_along c d ds (ap is_gt e) o.0), o)
in_order_by c d ds Greater e o rest = (past_none_put d c ds (ap is_gt (cell_total.antisymm d c ∙ ap ordering_reverse e)) o.0, rest)

put_keeps : (c : Cell) (cs : List Cell) → AreInOrder cs → AreInOrder (put_in_order c cs)
put_keeps c [] o = (tt, tt)
put_keeps c (d ∷ ds) o = in_order_by c d ds (cell_cmp c d) refl o (put_keeps c ds o.1)

all_in_order : (cs : List Cell) → AreInOrder (in_order cs)
all_in_order [] = tt
all_in_order (c ∷ cs) = put_keeps c (in_order cs) (all_in_order cs)

pub merge_in_order : (cs ds : List Cell) → AreInOrder (merge cs ds)
merge_in_order cs ds = all_in_order (cs ++ ds)

-- ---- cells that are left out or changed

past_none_at : (x c : Cell) (b : Bool) (cs : List Cell) → is_gt (cell_cmp x c) ≡ false → IsPastNone x cs → IsPastNone x (cond b (c ∷ cs) cs)
past_none_at x c true cs h n = (h, n)
past_none_at x c false cs h n = n

in_order_at : (c : Cell) (b : Bool) (cs : List Cell) → IsPastNone c cs → AreInOrder cs → AreInOrder (cond b (c ∷ cs) cs)
in_order_at c true cs n o = (n, o)
in_order_at c false cs n o = o

filter_past_none : (p : Cell → Bool) (x : Cell) (cs : List Cell) → IsPastNone x cs → IsPastNone x (filter p cs)
filter_past_none p x [] n = tt
filter_past_none p x (c ∷ cs) n = past_none_at x c (p c) (filter p cs) n.0 (filter_past_none p x cs n.1)

filter_in_order : (p : Cell → Bool) (cs : List Cell) → AreInOrder cs → AreInOrder (filter p cs)
filter_in_order p [] o = tt
filter_in_order p (c ∷ cs) o = in_order_at c (p c) (filter p cs) (filter_past_none p c cs o.0) (filter_in_order p cs o.1)

columns_past_none : (n : ℕ) (x : Cell) (before cs : List Cell) → IsPastNone x cs → IsPastNone x (first_of_columns n before cs)
columns_past_none n x before [] h = tt
columns_past_none n x before (c ∷ cs) h =
    past_none_at x c (nat_lt (length (filter (is_of_column c) before)) n) (first_of_columns n (before ++ c ∷ []) cs) h.0 (columns_past_none n x (before ++ c ∷ []) cs h.1)

columns_in_order : (n : ℕ) (before cs : List Cell) → AreInOrder cs → AreInOrder (first_of_columns n before cs)
columns_in_order n before [] o = tt
columns_in_order n before (c ∷ cs) o =
    in_order_at c (nat_lt (length (filter (is_of_column c) before)) n) (first_of_columns n (before ++ c ∷ []) cs) (columns_past_none n c (before ++ c ∷ []) cs o.0)
    (columns_in_order n (before ++ c ∷ []) cs o.1)

drop_in_order : (n : ℕ) (cs : List Cell) → AreInOrder cs → AreInOrder (drop n cs)
drop_in_order zero cs o = o
drop_in_order (suc n) [] o = tt
drop_in_order (suc n) (c ∷ cs) o = drop_in_order n cs o.1

take_past_none : (n : ℕ) (x : Cell) (cs : List Cell) → IsPastNone x cs → IsPastNone x (take n cs)
take_past_none zero x cs h = tt
take_past_none (suc n) x [] h = tt
take_past_none (suc n) x (c ∷ cs) h = (h.0, take_past_none n x cs h.1)

take_in_order : (n : ℕ) (cs : List Cell) → AreInOrder cs → AreInOrder (take n cs)
take_in_order zero cs o = tt
take_in_order (suc n) [] o = tt
take_in_order (suc n) (c ∷ cs) o = (take_past_none n c cs o.0, take_in_order n cs o.1)

-- the change leaves keys as they are
abbrev KeepsKeys : (Cell → Cell) → Type 0
KeepsKeys f = (c d : Cell) → cell_cmp (f c) (f d) ≡ cell_cmp c d

map_past_none : (f : Cell → Cell) → KeepsKeys f → (x : Cell) (cs : List Cell) → IsPastNone x cs → IsPastNone (f x) (map f cs)
map_past_none f k x [] h = tt
map_past_none f k x (c ∷ cs) h = (ap is_gt (k x c) ∙ h.0, map_past_none f k x cs h.1)

map_in_order : (f : Cell → Cell) → KeepsKeys f → (cs : List Cell) → AreInOrder cs → AreInOrder (map f cs)
map_in_order f k [] o = tt
map_in_order f k (c ∷ cs) o = (map_past_none f k c cs o.0, map_in_order f k cs o.1)

if_in_order : (b : Bool) (cs : List Cell) → AreInOrder cs → AreInOrder (cond b cs [])
if_in_order true cs o = o
if_in_order false cs o = tt

-- ---- filters

abbrev GivesInOrder : Gives → Type 0
GivesInOrder g = (key : List ℕ) (cells : List Cell) → AreInOrder cells → AreInOrder (g key cells).out × AreInOrder (g key cells).sunk

abbrev IsInOrder : Filter → Type 0
IsInOrder f = GivesInOrder (filter_meaning f)

abbrev Shown : Type 0
Shown = (f : Filter) × IsInOrder f

abbrev shown : Shown → Filter
shown s = s.0

abbrev meanings : List Shown → List Gives
meanings parts = map filter_meaning (map shown parts)

chain_in_order : (parts : List Shown) → GivesInOrder (chain_gives (meanings parts))
chain_in_order [] key cells o = (o, tt)
chain_in_order (p ∷ ps) key cells o =
    let first : Given = filter_meaning (shown p) key cells in
    ((chain_in_order ps key first.out (p.1 key cells o).0).0, merge_in_order first.sunk (chain_gives (meanings ps) key first.out).sunk)

interleave_in_order : (parts : List Shown) → GivesInOrder (interleave_gives (meanings parts))
interleave_in_order [] key cells o = (tt, tt)
interleave_in_order (p ∷ ps) key cells o =
    let first : Given = filter_meaning (shown p) key cells in
    let rest : Given = interleave_gives (meanings ps) key cells in
    (merge_in_order first.out rest.out, merge_in_order first.sunk rest.sunk)

abbrev part : Option Shown → Option Gives
part p = option_map filter_meaning (option_map shown p)

branch_in_order : (p : Option Shown) (key : List ℕ) (cells : List Cell) → AreInOrder cells → AreInOrder (branch_out (part p) key cells)
branch_in_order None key cells o = tt
branch_in_order (Some p) key cells o = (p.1 key cells o).0

chosen_in_order : (cs m u : List Cell) → AreInOrder m → AreInOrder u → AreInOrder (chosen cs m u)
chosen_in_order [] m u o p = p
chosen_in_order (c ∷ cs) m u o p = o

condition_in_order : (p m u : Option Shown) → GivesInOrder (condition_gives (part p) (part m) (part u))
condition_in_order p m u key cells o =
    (chosen_in_order (predicate_out (part p) key cells) (branch_out (part m) key cells) (branch_out (part u) key cells) (branch_in_order m key cells o) (branch_in_order u key cells o), tt)

node_in_order : (y : Filter-F Shown) → GivesInOrder (node_gives (map-Filter Filter Gives filter_meaning (map-Filter Shown Filter shown y)))
node_in_order Filter-F.Unset key cells o = (o, tt)
node_in_order Filter-F.Pass key cells o = (o, tt)
node_in_order Filter-F.Block key cells o = (tt, tt)
node_in_order Filter-F.Sink key cells o = (tt, o)
node_in_order Filter-F.Strip key cells o = (map_in_order without_value (λ c d. refl) cells o, tt)
node_in_order (Filter-F.Chain parts) key cells o = chain_in_order parts key cells o
node_in_order (Filter-F.Interleave parts) key cells o = interleave_in_order parts key cells o
node_in_order (Filter-F.Condition None None None) key cells o = condition_in_order None None None key cells o
node_in_order (Filter-F.Condition (Some p) None None) key cells o = condition_in_order (Some p) None None key cells o
node_in_order (Filter-F.Condition None (Some m) None) key cells o = condition_in_order None (Some m) None key cells o
node_in_order (Filter-F.Condition (Some p) (Some m) None) key cells o = condition_in_order (Some p) (Some m) None key cells o
node_in_order (Filter-F.Condition None None (Some u)) key cells o = condition_in_order None None (Some u) key cells o
node_in_order (Filter-F.Condition (Some p) None (Some u)) key cells o = condition_in_order (Some p) None (Some u) key cells o
node_in_order (Filter-F.Condition None (Some m) (Some u)) key cells o = condition_in_order None (Some m) (Some u) key cells o
node_in_order (Filter-F.Condition (Some p) (Some m) (Some u)) key cells o = condition_in_order (Some p) (Some m) (Some u) key cells o
node_in_order (Filter-F.RowKey pattern) key cells o = (if_in_order (matches pattern key) cells o, tt)
node_in_order (Filter-F.Family pattern) key cells o = (filter_in_order _ cells o, tt)
node_in_order (Filter-F.Qualifier pattern) key cells o = (filter_in_order _ cells o, tt)
node_in_order (Filter-F.Value pattern) key cells o = (filter_in_order _ cells o, tt)
node_in_order (Filter-F.ColumnRange family range) key cells o = (filter_in_order _ cells o, tt)
node_in_order (Filter-F.ValueRange range) key cells o = (filter_in_order _ cells o, tt)
node_in_order (Filter-F.Times range) key cells o = (filter_in_order _ cells o, tt)
node_in_order (Filter-F.RowOffset n) key cells o = (drop_in_order n cells o, tt)
node_in_order (Filter-F.RowLimit n) key cells o = (take_in_order n cells o, tt)
node_in_order (Filter-F.ColumnLimit n) key cells o = (columns_in_order n [] cells o, tt)
node_in_order (Filter-F.Label label) key cells o = (map_in_order (with_label label) (λ c d. refl) cells o, tt)

-- both lists are in order
pub gives_in_order : (f : Filter) (key : List ℕ) (cells : List Cell) → AreInOrder cells → AreInOrder (filter_meaning f key cells).out × AreInOrder (filter_meaning f key cells).sunk
gives_in_order = ind-Filter IsInOrder (λ x y is.
    subst GivesInOrder (sym (fold-roll-Filter Gives node_gives x)) (subst (λ z. GivesInOrder (node_gives (map-Filter Filter Gives filter_meaning z))) is (node_in_order y)))

pub out_of_row : (f : Filter) (key : List ℕ) (row : List Cell) → IsRow row → AreInOrder (filter_meaning f key row).out
out_of_row f key row is = (gives_in_order f key row (ordered_in_order row is.ordered)).0

pub sunk_of_row : (f : Filter) (key : List ℕ) (row : List Cell) → IsRow row → AreInOrder (filter_meaning f key row).sunk
sunk_of_row f key row is = (gives_in_order f key row (ordered_in_order row is.ordered)).1

pub final_in_order : (f : Filter) (key : List ℕ) (cells : List Cell) → AreInOrder (final_cells f key cells)
final_in_order f key cells = merge_in_order (filter_meaning f key cells).out (filter_meaning f key cells).sunk
