-- What mutations leave of the cells of a row.
use Rattle.std.proofs.Common.{◌≡◌, Bool, true, false, List, [], ◌∷◌, cond, refl, ap, ◌∙◌}
use Rattle.std.specs.Prelude.{All, None, filter}
use Rattle.std.specs.List.{AllByRecursion, list_all}
use Rattle.std.specs.Ordering.{match_ordering, ordering_reverse}
use Rattle.std.specs.declared.cmp.Ordering.{Ordering}
use Rattle.std.specs.declared.cmp.Ordering.TheVariants.{Less, Equal, Greater}
use Rattle.std.specs.Cmp.{IsTotalOrder}
use Rattle.std.proofs.lemmas.Bool.{and_parts}
use Rattle.std.proofs.lemmas.Cmp.{then_total, on_total, back_total, nat_cmp_total, nat_list_cmp_total}
use Rattle.std.proofs.lemmas.List.Elements.{All-nil, All-cons, All-head, All-tail, All-weaker, All-filter, All-from_recursion}
use Rattle.bt_types.specs.declared.cell.Cell.{Cell}
use Rattle.bt_types.specs.declared.mutation.Mutation.{Mutation}
use Rattle.bt_types.specs.declared.mutation.Mutation.TheVariants.{SetCell, DeleteColumn, DeleteFamily, DeleteRow}
use Rattle.bt_types.specs.Cells.{AreOrdered, IsRow, cell_cmp, plain}
use Rattle.bt_types.specs.Mutations.{applied, mutated, set_cell}
use Rattle.bt_entry.specs.declared.table_info.TableInfo.{TableInfo}
use Rattle.bt_entry.specs.Grammar.{IsSpellableMutation}
use Rattle.bt_schema.specs.Schema.{is_of_family}
use Rattle.bt_laws.specs.States.{IsCellOf}
use Rattle.bt_laws.specs.Tables.{HasLawfulNames}

by_recursion : {X : Type 0} (P : X → Type 0) (xs : List X) → All P xs → AllByRecursion P xs
by_recursion P [] all = tt
by_recursion P (x ∷ xs) all = (All-head P x xs all, by_recursion P xs (All-tail P x xs all))

module _ (P : Cell → Type 0) where
  set_by : (c d : Cell) (ds : List Cell) (r : Ordering) → P c → AllByRecursion P (d ∷ ds) → AllByRecursion P (set_cell c ds) → AllByRecursion P (match_ordering r (c ∷ d ∷ ds) (c ∷ ds) (d ∷ set_cell c ds))
  set_by c d ds Less new all rest = (new, all)
  set_by c d ds Equal new all rest = (new, all.1)
  set_by c d ds Greater new all rest = (all.0, rest)

  all_set : (c : Cell) (ds : List Cell) → P c → AllByRecursion P ds → AllByRecursion P (set_cell c ds)
  all_set c [] new all = (new, tt)
  all_set c (d ∷ ds) new all = set_by c d ds (cell_cmp c d) new all (all_set c ds new all.1)

  kept_by : (c : Cell) (cs : List Cell) (b : Bool) → P c → AllByRecursion P cs → AllByRecursion P (cond b (c ∷ cs) cs)
  kept_by c cs true here all = (here, all)
  kept_by c cs false here all = all

  all_kept : (p : Cell → Bool) (cs : List Cell) → AllByRecursion P cs → AllByRecursion P (filter p cs)
  all_kept p [] all = tt
  all_kept p (c ∷ cs) all = kept_by c (filter p cs) (p c) all.0 (all_kept p cs all.1)

  -- what the mutation sets is such a cell
  abbrev pub Sets : Mutation → Type 0
  Sets (SetCell family qualifier at value) = P (plain family qualifier at value)
  Sets (DeleteColumn family qualifier start end) = Unit {0}
  Sets (DeleteFamily family) = Unit {0}
  Sets DeleteRow = Unit {0}

  all_mutated : (m : Mutation) (cs : List Cell) → Sets m → AllByRecursion P cs → AllByRecursion P (mutated m cs)
  all_mutated (SetCell family qualifier at value) cs new all = all_set (plain family qualifier at value) cs new all
  all_mutated (DeleteColumn family qualifier start end) cs new all = all_kept _ cs all
  all_mutated (DeleteFamily family) cs new all = all_kept _ cs all
  all_mutated DeleteRow cs new all = tt

  -- what holds of the cells and of those that are set holds of what mutations leave
  pub all_applied : (ms : List Mutation) (cs : List Cell) → AllByRecursion Sets ms → AllByRecursion P cs → AllByRecursion P (applied ms cs)
  all_applied [] cs new all = all
  all_applied (m ∷ ms) cs new all = all_applied ms (mutated m cs) new.1 (all_mutated m cs new.0 all)

-- ---- rows stay rows

cell_total : IsTotalOrder cell_cmp
cell_total =
    then_total (on_total (λ (c : Cell). c.family) nat_list_cmp_total) (then_total (on_total (λ (c : Cell). c.qualifier) nat_list_cmp_total) (back_total (on_total (λ (c : Cell). c.at) nat_cmp_total)))

ordered_by : (c d : Cell) (ds : List Cell) (r : Ordering) → cell_cmp c d ≡ r → AreOrdered (d ∷ ds) → AreOrdered (set_cell c ds) → AreOrdered (match_ordering r (c ∷ d ∷ ds) (c ∷ ds) (d ∷ set_cell c ds))
ordered_by c d ds Less is ordered rest =
    (All-cons (λ e. cell_cmp c e ≡ Less) d ds is (All-weaker (λ e. cell_cmp d e ≡ Less) (λ e. cell_cmp c e ≡ Less) (λ e less. cell_total.trans c d e is less) ds ordered.0), ordered)
ordered_by c d ds Equal is ordered rest =
    (All-weaker (λ e. cell_cmp d e ≡ Less) (λ e. cell_cmp c e ≡ Less) (λ e less. cell_total.congr c d e is ∙ less) ds ordered.0, ordered.1)
ordered_by c d ds Greater is ordered rest =
    let below : cell_cmp d c ≡ Less = cell_total.antisymm d c ∙ ap ordering_reverse is in
    (All-from_recursion (λ e. cell_cmp d e ≡ Less) (set_cell c ds) (all_set (λ e. cell_cmp d e ≡ Less) c ds below (by_recursion (λ e. cell_cmp d e ≡ Less) ds ordered.0)), rest)

ordered_set : (c : Cell) (ds : List Cell) → AreOrdered ds → AreOrdered (set_cell c ds)
ordered_set c [] ordered = (All-nil (λ e. cell_cmp c e ≡ Less), tt)
ordered_set c (d ∷ ds) ordered = ordered_by c d ds (cell_cmp c d) refl ordered (ordered_set c ds ordered.1)

filter_by : (p : Cell → Bool) (c : Cell) (cs : List Cell) (b : Bool) → AreOrdered (c ∷ cs) → AreOrdered (filter p cs) → AreOrdered (cond b (c ∷ filter p cs) (filter p cs))
filter_by p c cs true ordered rest = (All-filter p (λ e. cell_cmp c e ≡ Less) cs ordered.0, rest)
filter_by p c cs false ordered rest = rest

ordered_kept : (p : Cell → Bool) (cs : List Cell) → AreOrdered cs → AreOrdered (filter p cs)
ordered_kept p [] ordered = tt
ordered_kept p (c ∷ cs) ordered = filter_by p c cs (p c) ordered (ordered_kept p cs ordered.1)

ordered_mutated : (m : Mutation) (cs : List Cell) → AreOrdered cs → AreOrdered (mutated m cs)
ordered_mutated (SetCell family qualifier at value) cs ordered = ordered_set (plain family qualifier at value) cs ordered
ordered_mutated (DeleteColumn family qualifier start end) cs ordered = ordered_kept _ cs ordered
ordered_mutated (DeleteFamily family) cs ordered = ordered_kept _ cs ordered
ordered_mutated DeleteRow cs ordered = tt

ordered_applied : (ms : List Mutation) (cs : List Cell) → AreOrdered cs → AreOrdered (applied ms cs)
ordered_applied [] cs ordered = ordered
ordered_applied (m ∷ ms) cs ordered = ordered_applied ms (mutated m cs) (ordered_mutated m cs ordered)

unlabelled_by : (m : Mutation) → Sets (λ c. c.label ≡ None) m
unlabelled_by (SetCell family qualifier at value) = refl
unlabelled_by (DeleteColumn family qualifier start end) = tt
unlabelled_by (DeleteFamily family) = tt
unlabelled_by DeleteRow = tt

unlabelled_all : (ms : List Mutation) → AllByRecursion (Sets (λ c. c.label ≡ None)) ms
unlabelled_all [] = tt
unlabelled_all (m ∷ ms) = (unlabelled_by m, unlabelled_all ms)

pub row_applied : (ms : List Mutation) (cs : List Cell) → IsRow cs → IsRow (applied ms cs)
row_applied ms cs row = record {
  ordered = ordered_applied ms cs row.ordered;
  unlabelled =
      All-from_recursion (λ (c : Cell). c.label ≡ None) (applied ms cs) (all_applied (λ (c : Cell). c.label ≡ None) ms cs (unlabelled_all ms) (by_recursion (λ (c : Cell). c.label ≡ None) cs row.unlabelled));
}

-- ---- what mutations that can be written set

names_by : (m : Mutation) → IsSpellableMutation m → Sets HasLawfulNames m
names_by (SetCell family qualifier at value) is = record { family = is.0; qualifier = is.1; at = is.2 }
names_by (DeleteColumn family qualifier start end) is = tt
names_by (DeleteFamily family) is = tt
names_by DeleteRow is = tt

pub set_names : (ms : List Mutation) → AllByRecursion IsSpellableMutation ms → AllByRecursion (Sets HasLawfulNames) ms
set_names [] is = tt
set_names (m ∷ ms) is = (names_by m is.0, set_names ms is.1)

module _ (t : TableInfo) where
  cells_by : (m : Mutation) → IsSpellableMutation m → is_of_family t m ≡ true → Sets (IsCellOf t.families) m
  cells_by (SetCell family qualifier at value) is of = record { family = of; short = is.3 }
  cells_by (DeleteColumn family qualifier start end) is of = tt
  cells_by (DeleteFamily family) is of = tt
  cells_by DeleteRow is of = tt

  -- of families of the table
  pub set_cells : (ms : List Mutation) → AllByRecursion IsSpellableMutation ms → list_all (is_of_family t) ms ≡ true → AllByRecursion (Sets (IsCellOf t.families)) ms
  set_cells [] is of = tt
  set_cells (m ∷ ms) is of =
      let parts = and_parts (is_of_family t m) (list_all (is_of_family t) ms) of in
      (cells_by m is.0 parts.0, set_cells ms is.1 parts.1)
