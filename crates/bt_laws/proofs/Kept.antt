-- What is true of each cell stays so where cells are merged, left out or changed.
use Rattle.std.proofs.Common.{ℕ, zero, suc, Bool, true, false, List, [], ◌∷◌, ◌++◌, map, take, drop, length, Option, Some, None, cond, nat_lt}
use Rattle.std.specs.Prelude.{IfSome}
use Rattle.std.specs.List.{filter, AllByRecursion}
use Rattle.std.specs.Ordering.{match_ordering}
use Rattle.std.specs.declared.cmp.Ordering.{Ordering}
use Rattle.std.specs.declared.cmp.Ordering.TheVariants.{Less, Equal, Greater}
use Rattle.bt_types.specs.declared.cell.Cell.{Cell}
use Rattle.bt_types.specs.Cells.{cell_cmp, put_in_order, in_order, merge}
use Rattle.bt_filter.specs.Meaning.{Given, Gives, chain_gives, interleave_gives, predicate_out, branch_out, chosen, condition_gives, first_of_columns, is_of_column}

-- ---- lists

pub all_both : {X : Type 0} (P : X → Type 0) (xs ys : List X) → AllByRecursion P xs → AllByRecursion P ys → AllByRecursion P (xs ++ ys)
all_both P [] ys h k = k
all_both P (x ∷ xs) ys h k = (h.0, all_both P xs ys h.1 k)

pub all_apart : {X : Type 0} (P : X → Type 0) (xs ys : List X) → AllByRecursion P (xs ++ ys) → AllByRecursion P xs × AllByRecursion P ys
all_apart P [] ys h = (tt, h)
all_apart P (x ∷ xs) ys h = let rest = all_apart P xs ys h.1 in ((h.0, rest.0), rest.1)

all_at : {X : Type 0} (P : X → Type 0) (x : X) (b : Bool) (xs : List X) → P x → AllByRecursion P xs → AllByRecursion P (cond b (x ∷ xs) xs)
all_at P x true xs h all = (h, all)
all_at P x false xs h all = all

pub all_filter : {X : Type 0} (P : X → Type 0) (p : X → Bool) (xs : List X) → AllByRecursion P xs → AllByRecursion P (filter p xs)
all_filter P p [] all = tt
all_filter P p (x ∷ xs) all = all_at P x (p x) (filter p xs) all.0 (all_filter P p xs all.1)

pub all_take : {X : Type 0} (P : X → Type 0) (n : ℕ) (xs : List X) → AllByRecursion P xs → AllByRecursion P (take n xs)
all_take P zero xs all = tt
all_take P (suc n) [] all = tt
all_take P (suc n) (x ∷ xs) all = (all.0, all_take P n xs all.1)

pub all_drop : {X : Type 0} (P : X → Type 0) (n : ℕ) (xs : List X) → AllByRecursion P xs → AllByRecursion P (drop n xs)
all_drop P zero xs all = all
all_drop P (suc n) [] all = tt
all_drop P (suc n) (x ∷ xs) all = all_drop P n xs all.1

pub all_map : {X : Type 0} (P Q : X → Type 0) (f : X → X) → ((x : X) → P x → Q (f x)) → (xs : List X) → AllByRecursion P xs → AllByRecursion Q (map f xs)
all_map P Q f k [] all = tt
all_map P Q f k (x ∷ xs) all = (k x all.0, all_map P Q f k xs all.1)

pub all_if : {X : Type 0} (P : X → Type 0) (b : Bool) (xs : List X) → AllByRecursion P xs → AllByRecursion P (cond b xs [])
all_if P true xs all = all
all_if P false xs all = tt

-- ---- cells

abbrev pub AllCells : (Cell → Type 0) → List Cell → Type 0
AllCells P cs = AllByRecursion P cs

put_by : (P : Cell → Type 0) (c d : Cell) (ds : List Cell) (r : Ordering) → P c → AllCells P (d ∷ ds) → AllCells P (put_in_order c ds) →
    AllCells P (match_ordering r (c ∷ d ∷ ds) (c ∷ d ∷ ds) (d ∷ put_in_order c ds))
put_by P c d ds Less h all rest = (h, all)
put_by P c d ds Equal h all rest = (h, all)
put_by P c d ds Greater h all rest = (all.0, rest)

all_put : (P : Cell → Type 0) (c : Cell) (cs : List Cell) → P c → AllCells P cs → AllCells P (put_in_order c cs)
all_put P c [] h all = (h, tt)
all_put P c (d ∷ ds) h all = put_by P c d ds (cell_cmp c d) h all (all_put P c ds h all.1)

all_in_order : (P : Cell → Type 0) (cs : List Cell) → AllCells P cs → AllCells P (in_order cs)
all_in_order P [] all = tt
all_in_order P (c ∷ cs) all = all_put P c (in_order cs) all.0 (all_in_order P cs all.1)

pub all_merge : (P : Cell → Type 0) (cs ds : List Cell) → AllCells P cs → AllCells P ds → AllCells P (merge cs ds)
all_merge P cs ds h k = all_in_order P (cs ++ ds) (all_both P cs ds h k)

pub all_columns : (P : Cell → Type 0) (n : ℕ) (before cs : List Cell) → AllCells P cs → AllCells P (first_of_columns n before cs)
all_columns P n before [] all = tt
all_columns P n before (c ∷ cs) all =
    all_at P c (nat_lt (length (filter (is_of_column c) before)) n) (first_of_columns n (before ++ c ∷ []) cs) all.0 (all_columns P n (before ++ c ∷ []) cs all.1)

-- ---- what filters give

-- of cells that are all so it gives such
abbrev pub Keeps : (Cell → Type 0) → Gives → Type 0
Keeps P g = (key : List ℕ) (cells : List Cell) → AllCells P cells → AllCells P (g key cells).out × AllCells P (g key cells).sunk

pub chain_keeps : (P : Cell → Type 0) (gs : List Gives) → AllByRecursion (Keeps P) gs → Keeps P (chain_gives gs)
chain_keeps P [] each key cells all = (all, tt)
chain_keeps P (g ∷ gs) each key cells all =
    let first : Given = g key cells in
    let here : AllCells P first.out × AllCells P first.sunk = each.0 key cells all in
    let rest = chain_keeps P gs each.1 key first.out here.0 in
    (rest.0, all_merge P first.sunk (chain_gives gs key first.out).sunk here.1 rest.1)

pub interleave_keeps : (P : Cell → Type 0) (gs : List Gives) → AllByRecursion (Keeps P) gs → Keeps P (interleave_gives gs)
interleave_keeps P [] each key cells all = (tt, tt)
interleave_keeps P (g ∷ gs) each key cells all =
    let first : Given = g key cells in
    let others : Given = interleave_gives gs key cells in
    let here : AllCells P first.out × AllCells P first.sunk = each.0 key cells all in
    let rest : AllCells P others.out × AllCells P others.sunk = interleave_keeps P gs each.1 key cells all in
    (all_merge P first.out others.out here.0 rest.0, all_merge P first.sunk others.sunk here.1 rest.1)

branch_keeps : (P : Cell → Type 0) (g : Option Gives) → IfSome g (Keeps P) → (key : List ℕ) (cells : List Cell) → AllCells P cells → AllCells P (branch_out g key cells)
branch_keeps P None is key cells all = tt
branch_keeps P (Some g) is key cells all = (is key cells all).0

chosen_keeps : (P : Cell → Type 0) (cs m u : List Cell) → AllCells P m → AllCells P u → AllCells P (chosen cs m u)
chosen_keeps P [] m u h k = k
chosen_keeps P (c ∷ cs) m u h k = h

pub condition_keeps : (P : Cell → Type 0) (p m u : Option Gives) → IfSome m (Keeps P) → IfSome u (Keeps P) → Keeps P (condition_gives p m u)
condition_keeps P p m u h k key cells all =
    (chosen_keeps P (predicate_out p key cells) (branch_out m key cells) (branch_out u key cells) (branch_keeps P m h key cells all) (branch_keeps P u k key cells all), tt)
