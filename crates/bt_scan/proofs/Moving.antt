-- What is left of the rows of a set of ranges once a row was given.
use Rattle.std.proofs.Common.{◌≡◌, ◌<◌, ◌≤◌, ◌+◌, ℕ, suc, List, [], ◌∷◌, ◌++◌, Option, Some, None, Ok, length, refl, sym, ap, ◌∙◌, subst, arith}
use Rattle.std.specs.Prelude.{IfSome, filter}
use Rattle.std.specs.Ordering.{nat_cmp}
use Rattle.std.specs.declared.cmp.Ordering.TheVariants.{Less}
use Rattle.std.specs.Cmp.Lexicographic.{slice_cmp}
use Rattle.std.specs.List.Sorted.{IsStrictlySortedBy}
use Rattle.std.specs.Map.{keys_of}
use Rattle.std.proofs.lemmas.List.Kept.{IsStrictlySortedBy-filter}
use Rattle.std.proofs.lemmas.Map.Keys.{sorted_head, sorted_tail}
use Rattle.bt_types.specs.declared.cell.Cell.{Cell}
use Rattle.bt_types.specs.Sources.{Falls, GivesRow, GoesOnRow}
use Rattle.bt_types.specs.declared.row_range.RowRange.{RowRange}
use Rattle.bt_range.specs.RowSets.{is_in_any}
use Rattle.bt_contents.specs.Contents.{Contents}
use Rattle.bt_contents.specs.Ranges.{Unread, answers_of}
use Rattle.bt_row.proofs.Covering.{keys_filter}
use Rattle.bt_scan.specs.Selection.{AreBehind, AreSorted, GoOn, Moves, selected}

-- no rows are in order
pub none_sorted : AreSorted []
unfolding IsStrictlySortedBy
none_sorted = tt

none_behind : (key : Option (List ℕ)) → AreBehind key []
none_behind None = tt
none_behind (Some k) = tt

-- no row is at hand yet
pub fresh : (ranges : List RowRange) (table : Contents) → AreSorted table → GoOn None (selected ranges table) table
fresh ranges table sorted = record {
  ordered = sorted;
  sorted = rw (keys_filter (is_in_any ranges) table) (IsStrictlySortedBy-filter (slice_cmp nat_cmp) (is_in_any ranges) (keys_of table) sorted);
  behind = tt;
}

-- nothing is left
pub ended : (key : Option (List ℕ)) (table : Contents) → AreSorted table → GoOn key [] table
ended key table sorted = record { ordered = sorted; sorted = none_sorted; behind = none_behind key }

-- the next row is at hand
pub went_on : (key : Option (List ℕ)) (k : List ℕ) (cells : List Cell) (left rest table : Contents) → left ≡ (k, cells) ∷ rest → GoOn key left table → GoOn (Some k) rest table
went_on key k cells left rest table is g =
    let sorted = subst AreSorted is g.sorted in
    record {
      ordered = g.ordered;
      sorted = sorted_tail (slice_cmp nat_cmp) k (keys_of rest) sorted;
      behind = sorted_head (slice_cmp nat_cmp) k (keys_of rest) sorted;
    }

follows_by : (key : Option (List ℕ)) (k : List ℕ) (cells : List Cell) (rest : Contents) → AreBehind key ((k, cells) ∷ rest) → IfSome key (λ before. slice_cmp nat_cmp before k ≡ Less)
follows_by None k cells rest behind = tt
follows_by (Some before) k cells rest behind = behind.0

-- its key is past that of the row before
follows : (key : Option (List ℕ)) (k : List ℕ) (cells : List Cell) (left rest table : Contents) → left ≡ (k, cells) ∷ rest → GoOn key left table → IfSome key (λ before. slice_cmp nat_cmp before k ≡ Less)
follows key k cells left rest table is g = follows_by key k cells rest (subst (AreBehind key) is g.behind)

-- ---- once the next row is at hand, or none is left

module _ (old : Unread) (later : Contents) (new : Unread) (new_later : Contents) where
  pub still_go_on : (o : Option (List ℕ)) (table : Contents) → Moves o old later new new_later → GoOn old.key (old.rows ++ later) table → GoOn new.key (new.rows ++ new_later) table
  still_go_on None table m g = rw (m.1, m.2) (ended new.key table g.ordered)
  still_go_on (Some k) table m g = rw m.1 (went_on old.key k new.cells (old.rows ++ later) (new.rows ++ new_later) table m.0 g)

  pub row_given : (o : Option (List ℕ)) → Moves o old later new new_later → GivesRow o (record { cells = old.cells; rows = old.rows ++ later }) (record { cells = new.cells; rows = new.rows ++ new_later })
  row_given None m = (m.0, rw (m.1, m.2, m.3) refl)
  row_given (Some k) m = m.0

  pub in_order : (o : Option (List ℕ)) (table : Contents) → Moves o old later new new_later → GoOn old.key (old.rows ++ later) table → GoesOnRow o old.key new.key old.last new.last
  in_order None table m g = m.4
  in_order (Some k) table m g = (follows old.key k new.cells (old.rows ++ later) (new.rows ++ new_later) table m.0 g, m.1, m.2)

  -- fewer answers are left
  pub fewer : (o : Option (List ℕ)) → Moves o old later new new_later → Falls (Ok o) (length old.cells + answers_of (old.rows ++ later)) (length new.cells + answers_of (new.rows ++ new_later))
  fewer None m = rw (m.1, m.2, m.3) (omega arith)
  fewer (Some k) m = rw m.0 (omega arith)

pub answers_append : (xs ys : Contents) → answers_of (xs ++ ys) ≡ answers_of xs + answers_of ys
answers_append [] ys = omega arith
answers_append (x ∷ xs) ys = omega (arith, answers_append xs ys)
