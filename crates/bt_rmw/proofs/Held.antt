-- What columns have, as it is looked up and put in.
use Rattle.std.proofs.Common.{◌≡◌, Bool, true, false, List, [], ◌∷◌, ◌++◌, append_assoc, Option, Some, None, cond, refl, sym, ap, ◌∙◌}
use Rattle.std.specs.Prelude.{option_map, is_some, map}
use Rattle.std.specs.Option.{option_or}
use Rattle.std.specs.List.{AllByRecursion}
use Rattle.std.specs.List.Sorted.{IsStrictlySortedBy}
use Rattle.std.specs.Map.{keys_of, remove_entry}
use Rattle.std.specs.BTreeMap.{insert_entry, is_at}
use Rattle.std.specs.Ordering.{is_eq, match_ordering}
use Rattle.std.specs.declared.cmp.Ordering.{Ordering}
use Rattle.std.specs.declared.cmp.Ordering.TheVariants.{Less, Equal, Greater}
use Rattle.std.proofs.lemmas.Map.Keys.{sorted_head, sorted_tail}
use Rattle.bt_types.specs.declared.cell.Cell.{Cell}
use Rattle.std.proofs.lemmas.List.{map-append}
use Rattle.bt_types.specs.declared.mutation.Mutation.{Mutation}
use Rattle.bt_types.specs.Mutations.{is_in_column}
use Rattle.bt_rmw.specs.declared.column.Column.{Column}
use Rattle.bt_rmw.specs.Columns.{column_order, column_total}
use Rattle.bt_rmw.specs.Held.{Held, Stamped, cell_in, cells_of, held_at, latest_stamped, stamped}
use Rattle.bt_rmw.specs.Modified.{latest_in, put_cell, set_of}
use Rattle.bt_rmw.proofs.Keys.{column_in, exact, in_column, same_turned}

eq_is : (r : Ordering) → is_eq r ≡ true → r ≡ Equal
eq_is Less e = cc e
eq_is Equal e = refl
eq_is Greater e = cc e

-- ---- cells as they are looked up

later_added : (t : Bool) (o : Option Stamped) (c : Cell) (rest : Option Cell) → (t ≡ true → o ≡ None) → option_or (cond t (Some (stamped c)) o) (option_map stamped rest) ≡ option_or o (option_map stamped (cond t (Some c) rest))
later_added true o c rest none = rw (none refl) refl
later_added false o c rest none = refl

later_kept : (t : Bool) (o : Option Stamped) (c : Cell) (rest : Option Cell) → (t ≡ true → is_some o ≡ true) → option_or o (option_map stamped rest) ≡ option_or o (option_map stamped (cond t (Some c) rest))
later_kept true None c rest some = cc (some refl)
later_kept true (Some s) c rest some = refl
later_kept false o c rest some = refl

nothing : (o : Option Stamped) → is_some o ≡ false → o ≡ None
nothing None e = refl
nothing (Some s) e = cc e

-- a cell whose column had nothing yet
pub added : (c : Cell) (old new : Held) → ((k : Column) → held_at new k ≡ cond (is_at (column_order (column_in c)) k) (Some (stamped c)) (held_at old k)) → is_some (held_at old (column_in c)) ≡ false
    → (k : Column) (rest : List Cell) → option_or (held_at new k) (latest_stamped rest k) ≡ option_or (held_at old k) (latest_stamped (c ∷ rest) k)
added c old new put none k rest =
    rw (put k, in_column k c) (later_added (is_in_column k.family k.qualifier 0 0 c) (held_at old k) c (latest_in k.family k.qualifier rest) (λ same.
    let tie : column_order (column_in c) k ≡ Equal = eq_is _ (in_column k c ∙ same) in
    ap (held_at old) (sym (exact (column_in c) k tie)) ∙ nothing (held_at old (column_in c)) none))

-- a cell whose column had one
pub kept : (c : Cell) (old : Held) → is_some (held_at old (column_in c)) ≡ true
    → (k : Column) (rest : List Cell) → option_or (held_at old k) (latest_stamped rest k) ≡ option_or (held_at old k) (latest_stamped (c ∷ rest) k)
kept c old some k rest =
    later_kept (is_in_column k.family k.qualifier 0 0 c) (held_at old k) c (latest_in k.family k.qualifier rest) (λ same.
    let tie : column_order (column_in c) k ≡ Equal = eq_is _ (in_column k c ∙ same) in
    ap (λ q. is_some (held_at old q)) (sym (exact (column_in c) k tie)) ∙ some)

-- the cells of columns are found by their columns
pub cells_found : (es : Held) (k : Column) → option_map stamped (latest_in k.family k.qualifier (cells_of es)) ≡ held_at es k
cells_found [] k = refl
cells_found (e ∷ es) k =
    let c = cell_in e.0 e.1 in
    let test : is_in_column k.family k.qualifier 0 0 c ≡ is_at (column_order k) e.0 = sym (in_column k c) ∙ same_turned (column_in c) k in
    rw test (by (is_at (column_order k) e.0) (cells_found es k))
  where
    by : (t : Bool) → option_map stamped (latest_in k.family k.qualifier (cells_of es)) ≡ held_at es k → option_map stamped (cond t (Some (cell_in e.0 e.1)) (latest_in k.family k.qualifier (cells_of es))) ≡ cond t (Some e.1) (held_at es k)
    by true same = refl
    by false same = same

-- ---- a cell put in anew

-- what is below all keys is none of them, and goes before them
gone : (k : Column) (es : Held) → AllByRecursion (λ q. column_order k q ≡ Less) (keys_of es) → remove_entry (is_at (column_order k)) es ≡ es
gone k [] below = refl
gone k (e ∷ es) below = rw below.0 (ap (λ xs. e ∷ xs) (gone k es below.1))

goes_first : (k : Column) (s : Stamped) (es : Held) → AllByRecursion (λ q. column_order k q ≡ Less) (keys_of es) → insert_entry column_order es k s ≡ (k, s) ∷ es
goes_first k s [] below = refl
goes_first k s (e ∷ es) below = rw below.0 refl

all_below : (k x : Column) (ys : List Column) → column_order k x ≡ Less → AllByRecursion (λ y. column_order x y ≡ Less) ys → AllByRecursion (λ y. column_order k y ≡ Less) ys
all_below k x [] less below = tt
all_below k x (y ∷ ys) less below = (column_total.trans k x y less below.0, all_below k x ys less below.1)

-- an entry that is taken out and put in is put in its place
pub put_again : (k : Column) (s : Stamped) (es : Held) → IsStrictlySortedBy column_order (keys_of es) → cells_of (insert_entry column_order (remove_entry (is_at (column_order k)) es) k s) ≡ put_cell (cell_in k s) (cells_of es)
put_again k s [] sorted = refl
put_again k s (e ∷ es) sorted = by (column_order k e.0) refl (put_again k s es (sorted_tail column_order e.0 (keys_of es) sorted))
  where
    below : AllByRecursion (λ y. column_order e.0 y ≡ Less) (keys_of es)
    below = sorted_head column_order e.0 (keys_of es) sorted

    by : (r : Ordering) → column_order k e.0 ≡ r → cells_of (insert_entry column_order (remove_entry (is_at (column_order k)) es) k s) ≡ put_cell (cell_in k s) (cells_of es)
        → cells_of (insert_entry column_order (cond (is_eq (column_order k e.0)) es (e ∷ remove_entry (is_at (column_order k)) es)) k s)
        ≡ match_ordering (column_order k e.0) (cell_in k s ∷ cells_of (e ∷ es)) (cell_in k s ∷ cells_of es) (cell_in e.0 e.1 ∷ put_cell (cell_in k s) (cells_of es))
    by Less is rest =
        let all : AllByRecursion (λ y. column_order k y ≡ Less) (keys_of (e ∷ es)) = (is, all_below k e.0 (keys_of es) is below) in
        ap (λ xs. cells_of (insert_entry column_order xs k s)) (gone k (e ∷ es) all) ∙ ap cells_of (goes_first k s (e ∷ es) all) ∙ rw is refl
    by Equal is rest =
        let same : k ≡ e.0 = exact k e.0 is in
        rw is (ap cells_of (goes_first k s es (rw (sym same) at below)))
    by Greater is rest =
        ap (λ r. cells_of (insert_entry column_order (cond (is_eq r) es (e ∷ remove_entry (is_at (column_order k)) es)) k s)) is
        ∙ rw is (ap (λ cs. cell_in e.0 e.1 ∷ cs) rest)

-- ---- cells written one after another

pub all_push : {X : Type 0} (P : X → Type 0) (xs : List X) (x : X) → AllByRecursion P xs → P x → AllByRecursion P (xs ++ x ∷ [])
all_push P [] x all one = (one, tt)
all_push P (y ∷ xs) x all one = (all.0, all_push P xs x all.1 one)

pub cells_pushed : (e : Column × Stamped) (es rest : Held) (cs new all : List Cell) (c : Cell) → es ≡ e ∷ rest → c ≡ cell_in e.0 e.1 → new ≡ cs ++ c ∷ [] → cs ++ cells_of es ≡ all → new ++ cells_of rest ≡ all
cells_pushed e es rest cs new all c step is push so = rw (push, is) (append_assoc cs (cell_in e.0 e.1 ∷ []) (cells_of rest)) ∙ rw step at so

pub settings_pushed : (m : Mutation) (c : Cell) (cs new : List Cell) (ms more : List Mutation) → m ≡ set_of c → more ≡ ms ++ m ∷ [] → new ≡ cs ++ c ∷ [] → ms ≡ map set_of cs → more ≡ map set_of new
settings_pushed m c cs new ms more is push pushed so = rw (push, pushed, so, is) (sym (map-append set_of cs (c ∷ [])))
