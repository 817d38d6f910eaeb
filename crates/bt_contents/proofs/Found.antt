-- A row alone.
use Rattle.std.proofs.Common.{◌≡◌, ◌<◌, ℕ, Bool, true, false, List, [], ◌∷◌, Some, cond, length, refl, arith}
use Rattle.std.specs.Prelude.{◌&&◌, not, filter, unwrap_or}
use Rattle.std.specs.Ordering.{is_eq, is_le, is_lt, nat_cmp}
use Rattle.std.specs.declared.cmp.Ordering.{Ordering}
use Rattle.std.specs.declared.cmp.Ordering.TheVariants.{Less, Equal, Greater}
use Rattle.std.specs.Cmp.Lexicographic.{slice_cmp}
use Rattle.std.specs.List.{AllByRecursion}
use Rattle.std.specs.List.Sorted.{IsStrictlySortedBy}
use Rattle.std.specs.Map.{keys_of, lookup, values_of}
use Rattle.std.proofs.lemmas.List.Elements.{All-head, All-tail}
use Rattle.std.proofs.lemmas.Map.Keys.{sorted_head, sorted_tail}
use Rattle.std.proofs.lemmas.Map.Lookups.{exact_bytes}
use Rattle.bt_types.specs.declared.cell.Cell.{Cell}
use Rattle.bt_contents.specs.Contents.{Contents, HaveCells, IsTable, key_is, row_at}
use Rattle.bt_contents.specs.Ranges.{one_row, row_with}

at_or_past : (r : Ordering) → (is_le r && not (is_lt r)) ≡ is_eq r
at_or_past Less = refl
at_or_past Equal = refl
at_or_past Greater = refl

-- the rows from a key up to it are the row at the key
pub from_to : {X : Type 0} (k : List ℕ) (rows : List (List ℕ × X)) → filter (λ r. is_le (slice_cmp nat_cmp k r.0) && not (is_lt (slice_cmp nat_cmp k r.0))) rows ≡ row_with k rows
from_to k [] = refl
from_to k (r ∷ rs) = rw (at_or_past (slice_cmp nat_cmp k r.0), from_to k rs) refl

is_equal : (r : Ordering) → is_eq r ≡ true → r ≡ Equal
is_equal Less e = cc e
is_equal Equal e = refl
is_equal Greater e = cc e

none_later : (k : List ℕ) (rows : Contents) → AllByRecursion (λ q. slice_cmp nat_cmp k q ≡ Less) (keys_of rows) → row_with k rows ≡ []
none_later k [] later = refl
none_later k (r ∷ rs) later = rw (later.0) (none_later k rs later.1)

filled_row : (k : List ℕ) (cs : List Cell) → 0 < length cs → (k, cs) ∷ [] ≡ one_row k cs
filled_row k [] filled = absurd (omega (arith, filled))
filled_row k (c ∷ cs) filled = refl

sorted_alone : (k : List ℕ) (rows : Contents) → IsStrictlySortedBy (slice_cmp nat_cmp) (keys_of rows) → HaveCells rows → row_with k rows ≡ one_row k (row_at k rows)
sorted_alone k [] sorted filled = refl
sorted_alone k (r ∷ rs) sorted filled = by (key_is k r.0) refl (sorted_alone k rs (sorted_tail (slice_cmp nat_cmp) r.0 (keys_of rs) sorted) (All-tail (λ (cs : List Cell). 0 < length cs) r.1 (values_of rs) filled))
  where
    by : (t : Bool) → key_is k r.0 ≡ t → row_with k rs ≡ one_row k (row_at k rs) → cond t (r ∷ row_with k rs) (row_with k rs) ≡ one_row k (unwrap_or (cond t (Some r.1) (lookup (key_is k) rs)) [])
    by true is rest =
        let same : k ≡ r.0 = exact_bytes k r.0 (is_equal (slice_cmp nat_cmp k r.0) is) in
        let none : row_with k rs ≡ [] = rw same (none_later r.0 rs (sorted_head (slice_cmp nat_cmp) r.0 (keys_of rs) sorted)) in
        rw (none, same) (filled_row r.0 r.1 (All-head (λ (cs : List Cell). 0 < length cs) r.1 (values_of rs) filled))
    by false is rest = rest

-- in a table the row at a key is there exactly if it has cells
pub row_alone : (k : List ℕ) (rows : Contents) → IsTable rows → row_with k rows ≡ one_row k (row_at k rows)
row_alone k rows table = sorted_alone k rows table.sorted table.filled
