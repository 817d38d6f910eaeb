-- What a filter gives of short cells is short.
use Rattle.std.proofs.Common.{◌≡◌, ℕ, ◌≤◌, zero, suc, Bool, true, false, List, [], ◌∷◌, ◌++◌, map, take, drop, length, Option, Some, None, option_map, sym, subst, cond, nat_lt, arith}
use Rattle.std.specs.List.{filter, AllByRecursion}
use Rattle.std.specs.Ordering.{match_ordering}
use Rattle.std.specs.declared.cmp.Ordering.{Ordering}
use Rattle.std.specs.declared.cmp.Ordering.TheVariants.{Less, Equal, Greater}
use Rattle.std.proofs.lemmas.List.Elements.{All-from_recursion, recursion_from_All}
use Rattle.bt_types.specs.declared.cell.Cell.{Cell}
use Rattle.bt_types.specs.Cells.{cell_cmp, put_in_order, in_order, merge, AreShort}
use Rattle.bt_pattern.specs.Patterns.{matches}
use Rattle.bt_filter.specs.declared.filter.Filter.{Filter}
use Rattle.bt_filter.specs.declared.filter.Filter.TheOpen.{Filter-F}
use Rattle.bt_filter.specs.declared.filter.Filter.TheFolds.{fold-roll-Filter, ind-Filter, map-Filter}
use Rattle.bt_filter.specs.Meaning.{Given, Gives, chain_gives, interleave_gives, predicate_out, branch_out, chosen, condition_gives, first_of_columns, is_of_column, without_value, with_label, node_gives, filter_meaning, final_cells}

abbrev IsShort : Cell → Type 0
IsShort c = length c.value ≤ 4194304

abbrev AllShort : List Cell → Type 0
AllShort cs = AllByRecursion IsShort cs

-- ---- cells that are merged

put_by : (c d : Cell) (ds : List Cell) (r : Ordering) → IsShort c → AllShort (d ∷ ds) → AllShort (put_in_order c ds) →
    AllShort (match_ordering r (c ∷ d ∷ ds) (c ∷ d ∷ ds) (d ∷ put_in_order c ds))
put_by c d ds Less h all rest = (h, all)
put_by c d ds Equal h all rest = (h, all)
put_by c d ds Greater h all rest = (all.0, rest)

put_short : (c : Cell) (cs : List Cell) → IsShort c → AllShort cs → AllShort (put_in_order c cs)
put_short c [] h all = (h, tt)
put_short c (d ∷ ds) h all = put_by c d ds (cell_cmp c d) h all (put_short c ds h all.1)

in_order_short : (cs : List Cell) → AllShort cs → AllShort (in_order cs)
in_order_short [] all = tt
in_order_short (c ∷ cs) all = put_short c (in_order cs) all.0 (in_order_short cs all.1)

both_short : (cs ds : List Cell) → AllShort cs → AllShort ds → AllShort (cs ++ ds)
both_short [] ds h k = k
both_short (c ∷ cs) ds h k = (h.0, both_short cs ds h.1 k)

merge_short : (cs ds : List Cell) → AllShort cs → AllShort ds → AllShort (merge cs ds)
merge_short cs ds h k = in_order_short (cs ++ ds) (both_short cs ds h k)

-- ---- cells that are left out or changed

short_at : (c : Cell) (b : Bool) (cs : List Cell) → IsShort c → AllShort cs → AllShort (cond b (c ∷ cs) cs)
short_at c true cs h all = (h, all)
short_at c false cs h all = all

filter_short : (p : Cell → Bool) (cs : List Cell) → AllShort cs → AllShort (filter p cs)
filter_short p [] all = tt
filter_short p (c ∷ cs) all = short_at c (p c) (filter p cs) all.0 (filter_short p cs all.1)

columns_short : (n : ℕ) (before cs : List Cell) → AllShort cs → AllShort (first_of_columns n before cs)
columns_short n before [] all = tt
columns_short n before (c ∷ cs) all =
    short_at c (nat_lt (length (filter (is_of_column c) before)) n) (first_of_columns n (before ++ c ∷ []) cs) all.0 (columns_short n (before ++ c ∷ []) cs all.1)

drop_short : (n : ℕ) (cs : List Cell) → AllShort cs → AllShort (drop n cs)
drop_short zero cs all = all
drop_short (suc n) [] all = tt
drop_short (suc n) (c ∷ cs) all = drop_short n cs all.1

take_short : (n : ℕ) (cs : List Cell) → AllShort cs → AllShort (take n cs)
take_short zero cs all = tt
take_short (suc n) [] all = tt
take_short (suc n) (c ∷ cs) all = (all.0, take_short n cs all.1)

-- the change leaves short cells short
abbrev KeepsShort : (Cell → Cell) → Type 0
KeepsShort f = (c : Cell) → IsShort c → IsShort (f c)

map_short : (f : Cell → Cell) → KeepsShort f → (cs : List Cell) → AllShort cs → AllShort (map f cs)
map_short f k [] all = tt
map_short f k (c ∷ cs) all = (k c all.0, map_short f k cs all.1)

stripped : KeepsShort without_value
stripped c h = omega arith

labelled : (label : List ℕ) → KeepsShort (with_label label)
labelled label c h = h

if_short : (b : Bool) (cs : List Cell) → AllShort cs → AllShort (cond b cs [])
if_short true cs all = all
if_short false cs all = tt

-- ---- filters

abbrev GivesShort : Gives → Type 0
GivesShort g = (key : List ℕ) (cells : List Cell) → AllShort cells → AllShort (g key cells).out × AllShort (g key cells).sunk

abbrev LeavesShort : Filter → Type 0
LeavesShort f = GivesShort (filter_meaning f)

abbrev Shown : Type 0
Shown = (f : Filter) × LeavesShort f

abbrev shown : Shown → Filter
shown s = s.0

abbrev meanings : List Shown → List Gives
meanings parts = map filter_meaning (map shown parts)

chain_short : (parts : List Shown) → GivesShort (chain_gives (meanings parts))
chain_short [] key cells all = (all, tt)
chain_short (p ∷ ps) key cells all =
    let first : Given = filter_meaning (shown p) key cells in
    let here : AllShort first.out × AllShort first.sunk = p.1 key cells all in
    let rest = chain_short ps key first.out here.0 in
    (rest.0, merge_short first.sunk (chain_gives (meanings ps) key first.out).sunk here.1 rest.1)

interleave_short : (parts : List Shown) → GivesShort (interleave_gives (meanings parts))
interleave_short [] key cells all = (tt, tt)
interleave_short (p ∷ ps) key cells all =
    let first : Given = filter_meaning (shown p) key cells in
    let others : Given = interleave_gives (meanings ps) key cells in
    let here : AllShort first.out × AllShort first.sunk = p.1 key cells all in
    let rest : AllShort others.out × AllShort others.sunk = interleave_short ps key cells all in
    (merge_short first.out others.out here.0 rest.0, merge_short first.sunk others.sunk here.1 rest.1)

abbrev part : Option Shown → Option Gives
part p = option_map filter_meaning (option_map shown p)

branch_short : (p : Option Shown) (key : List ℕ) (cells : List Cell) → AllShort cells → AllShort (branch_out (part p) key cells)
branch_short None key cells all = tt
branch_short (Some p) key cells all = (p.1 key cells all).0

chosen_short : (cs m u : List Cell) → AllShort m → AllShort u → AllShort (chosen cs m u)
chosen_short [] m u h k = k
chosen_short (c ∷ cs) m u h k = h

condition_short : (p m u : Option Shown) → GivesShort (condition_gives (part p) (part m) (part u))
condition_short p m u key cells all =
    (chosen_short (predicate_out (part p) key cells) (branch_out (part m) key cells) (branch_out (part u) key cells) (branch_short m key cells all) (branch_short u key cells all), tt)

node_short : (y : Filter-F Shown) → GivesShort (node_gives (map-Filter Filter Gives filter_meaning (map-Filter Shown Filter shown y)))
node_short Filter-F.Unset key cells all = (all, tt)
node_short Filter-F.Pass key cells all = (all, tt)
node_short Filter-F.Block key cells all = (tt, tt)
node_short Filter-F.Sink key cells all = (tt, all)
node_short Filter-F.Strip key cells all = (map_short without_value stripped cells all, tt)
node_short (Filter-F.Chain parts) key cells all = chain_short parts key cells all
node_short (Filter-F.Interleave parts) key cells all = interleave_short parts key cells all
node_short (Filter-F.Condition None None None) key cells all = condition_short None None None key cells all
node_short (Filter-F.Condition (Some p) None None) key cells all = condition_short (Some p) None None key cells all
node_short (Filter-F.Condition None (Some m) None) key cells all = condition_short None (Some m) None key cells all
node_short (Filter-F.Condition (Some p) (Some m) None) key cells all = condition_short (Some p) (Some m) None key cells all
node_short (Filter-F.Condition None None (Some u)) key cells all = condition_short None None (Some u) key cells all
node_short (Filter-F.Condition (Some p) None (Some u)) key cells all = condition_short (Some p) None (Some u) key cells all
node_short (Filter-F.Condition None (Some m) (Some u)) key cells all = condition_short None (Some m) (Some u) key cells all
node_short (Filter-F.Condition (Some p) (Some m) (Some u)) key cells all = condition_short (Some p) (Some m) (Some u) key cells all
node_short (Filter-F.RowKey pattern) key cells all = (if_short (matches pattern key) cells all, tt)
node_short (Filter-F.Family pattern) key cells all = (filter_short _ cells all, tt)
node_short (Filter-F.Qualifier pattern) key cells all = (filter_short _ cells all, tt)
node_short (Filter-F.Value pattern) key cells all = (filter_short _ cells all, tt)
node_short (Filter-F.ColumnRange family range) key cells all = (filter_short _ cells all, tt)
node_short (Filter-F.ValueRange range) key cells all = (filter_short _ cells all, tt)
node_short (Filter-F.Times range) key cells all = (filter_short _ cells all, tt)
node_short (Filter-F.RowOffset n) key cells all = (drop_short n cells all, tt)
node_short (Filter-F.RowLimit n) key cells all = (take_short n cells all, tt)
node_short (Filter-F.ColumnLimit n) key cells all = (columns_short n [] cells all, tt)
node_short (Filter-F.Label label) key cells all = (map_short (with_label label) (labelled label) cells all, tt)

gives_short : (f : Filter) → LeavesShort f
gives_short = ind-Filter LeavesShort (λ x y is.
    subst GivesShort (sym (fold-roll-Filter Gives node_gives x)) (subst (λ z. GivesShort (node_gives (map-Filter Filter Gives filter_meaning z))) is (node_short y)))

pub final_short : (f : Filter) (key : List ℕ) (cells : List Cell) → AreShort cells → AreShort (final_cells f key cells)
final_short f key cells all =
    let given : AllShort (filter_meaning f key cells).out × AllShort (filter_meaning f key cells).sunk = gives_short f key cells (recursion_from_All IsShort cells all) in
    All-from_recursion IsShort (final_cells f key cells) (merge_short (filter_meaning f key cells).out (filter_meaning f key cells).sunk given.0 given.1)
