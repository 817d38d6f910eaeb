-- Rows in a range of keys, and what a cursor over them has left.
use Rattle.std.specs.Prelude.{◌≡◌, ◌+◌, ℕ, suc, ◌&&◌, Bool, true, false, not, List, [], ◌∷◌, length, filter, All, Option, None, Some, IfSome, IfNone}
use Rattle.std.specs.Ordering.{nat_cmp, is_le, is_gt}
use Rattle.std.specs.Cmp.Lexicographic.{slice_cmp}
use Rattle.std.specs.declared.cmp.Ordering.TheVariants.{Less}
use Rattle.std.specs.List.{AllByRecursion}
use Rattle.std.specs.List.Sorted.{IsStrictlySortedBy}
use Rattle.std.specs.Map.{keys_of}
use Rattle.bt_types.specs.declared.cell.Cell.{Cell}
use Rattle.bt_types.specs.declared.row_range.RowRange.{RowRange}
use Rattle.bt_types.specs.Cells.{cell_cmp, IsRow}
use Rattle.bt_contents.specs.Contents.{Contents, HaveRows, HaveShortValues, key_is}
use Rattle.bt_row.specs.Sound.{AreShort}

-- the key is before the end, where there is one
abbrev pub is_before : Option (List ℕ) → List ℕ → Bool
is_before None key = true
is_before (Some end) key = is_gt (slice_cmp nat_cmp end key)

-- the key is at or past the start, and before the end
abbrev pub is_in : RowRange → List ℕ → Bool
is_in range key = is_le (slice_cmp nat_cmp range.start key) && is_before range.end key

-- the rows whose keys are in the range, in their order
abbrev pub rows_within : {X : Type 0} → RowRange → List (List ℕ × X) → List (List ℕ × X)
rows_within range rows = filter (λ r. is_in range r.0) rows

-- the row at a key alone, where it is there
abbrev pub row_with : {X : Type 0} → List ℕ → List (List ℕ × X) → List (List ℕ × X)
row_with key rows = filter (λ r. key_is key r.0) rows

-- a row alone, unless it has no cells
abbrev pub one_row : List ℕ → List Cell → Contents
one_row key [] = []
one_row key (c ∷ cs) = (key, c ∷ cs) ∷ []

-- the key is at or past a key that may be none
abbrev pub is_from : Option (List ℕ) → List ℕ → Bool
is_from None key = false
is_from (Some k) key = is_le (slice_cmp nat_cmp k key)

-- the rows from the one key on, and before the other
abbrev pub between : {X : Type 0} → Option (List ℕ) → Option (List ℕ) → List (List ℕ × X) → List (List ℕ × X)
between start end rows = filter (λ r. is_from start r.0 && not (is_from end r.0)) rows

-- The rows behind the row at hand; the cells left of that row; its key; and its last cell given.
pub record Unread : Type 0 where
  pub rows : Contents
  pub cells : List Cell
  pub key : Option (List ℕ)
  pub last : Option Cell

-- nothing was given of these rows
abbrev pub unread : Contents → Unread
unread rows = record { rows = rows; cells = []; key = None; last = None }

-- how many answers these rows make at most: one a row and one a cell
abbrev pub answers_of : Contents → ℕ
answers_of [] = 0
answers_of (r ∷ rs) = suc (length r.1 + answers_of rs)

-- What is left goes on behind the row at hand and its last cell.
pub record GoesOn (key : Option (List ℕ)) (last : Option Cell) (cells : List Cell) (rows : Contents) : Type 0 where
  pub sorted : IsStrictlySortedBy (slice_cmp nat_cmp) (keys_of rows)
  pub behind : IfSome key (λ k. AllByRecursion (λ q. slice_cmp nat_cmp k q ≡ Less) (keys_of rows))
  pub no_row : IfNone key (cells ≡ [])
  pub row : IsRow cells
  pub short : AreShort cells
  pub ordered_rows : HaveRows rows
  pub short_rows : HaveShortValues rows
  pub later : IfSome last (λ c. All (λ d. cell_cmp c d ≡ Less) cells)
