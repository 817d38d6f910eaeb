-- Columns as keys.
use Rattle.std.proofs.Common.{◌≡◌, Bool, List, Result, Ok, Err, cond, true, false, refl, ◌∙◌, arith}
use Rattle.std.specs.Prelude.{◌&&◌, bytes_eq, IfOk}
use Rattle.std.specs.Ordering.{is_eq, nat_cmp, ordering_then}
use Rattle.std.specs.declared.cmp.Ordering.{Ordering}
use Rattle.std.specs.declared.cmp.Ordering.TheVariants.{Less, Equal, Greater}
use Rattle.std.specs.BTreeMap.{is_at}
use Rattle.std.specs.Cmp.Lexicographic.{slice_cmp}
use Rattle.std.proofs.lemmas.Bool.{le-leb}
use Rattle.std.proofs.lemmas.Cmp.{eq_by_cmp_equiv}
use Rattle.std.proofs.lemmas.Map.Lookups.{CmpEqualImpliesEq, exact_bytes}
use Rattle.std.proofs.lemmas.Map.Text.{is_eq-slice_cmp}
use Rattle.bt_types.specs.declared.cell.Cell.{Cell}
use Rattle.bt_types.specs.Mutations.{is_in_column}
use Rattle.bt_rmw.specs.declared.column.Column.{Column}
use Rattle.bt_rmw.specs.Columns.{column_order, column_total, has_column}

pub same_turned : (a b : Column) → is_at (column_order a) b ≡ is_at (column_order b) a
same_turned a b = (eq_by_cmp_equiv column_total).symm a b

then_equal : (r s : Ordering) → ordering_then r s ≡ Equal → (r ≡ Equal) × (s ≡ Equal)
then_equal Less s e = cc e
then_equal Equal s e = (refl, e)
then_equal Greater s e = cc e

-- columns that tie are the same
pub exact : CmpEqualImpliesEq column_order
exact a b tie =
    let both = then_equal (slice_cmp nat_cmp a.family b.family) (slice_cmp nat_cmp a.qualifier b.qualifier) tie in
    let families : a.family ≡ b.family = exact_bytes a.family b.family both.0 in
    let qualifiers : a.qualifier ≡ b.qualifier = exact_bytes a.qualifier b.qualifier both.1 in
    λ i. record { family = families i; qualifier = qualifiers i }

eq_both : (r s : Ordering) → is_eq (ordering_then r s) ≡ (is_eq r && is_eq s)
eq_both Less s = refl
eq_both Equal s = refl
eq_both Greater s = refl

-- the column of a cell
abbrev pub column_in : Cell → Column
column_in c = record { family = c.family; qualifier = c.qualifier }

-- a cell is one of the column that ties with its own
pub in_column : (k : Column) (c : Cell) → is_at (column_order (column_in c)) k ≡ is_in_column k.family k.qualifier 0 0 c
in_column k c =
    eq_both (slice_cmp nat_cmp c.family k.family) (slice_cmp nat_cmp c.qualifier k.qualifier)
    ∙ rw (is_eq-slice_cmp c.family k.family, is_eq-slice_cmp c.qualifier k.qualifier, le-leb 0 c.at (omega arith)) (by (bytes_eq c.family k.family) (bytes_eq c.qualifier k.qualifier))
  where
    by : (x y : Bool) → (x && y) ≡ (x && y && true && true)
    by true true = refl
    by true false = refl
    by false y = refl

-- a further column leaves the others among them
pub still_has : (key : Column) (old new : List Column) → ((q : Column) → has_column new q ≡ cond (is_at (column_order key) q) true (has_column old q)) → (q : Column) → has_column old q ≡ true → has_column new q ≡ true
still_has key old new put q has = put q ∙ rw has (by (is_at (column_order key) q))
  where
    by : (t : Bool) → cond t true true ≡ true
    by true = refl
    by false = refl

-- what holds of columns holds of the list that is made of them
pub of_list : {E : Type 0} (P : List Column → Type 0) (columns : List Column) (r : Result (List Column) E) → IfOk r (λ list. list ≡ columns) → P columns → IfOk r P
of_list P columns (Ok list) same holds = rw same holds
of_list P columns (Err e) same holds = tt
