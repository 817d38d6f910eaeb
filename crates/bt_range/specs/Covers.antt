-- Parts that cover a range.
use Rattle.std.specs.Prelude.{◌≡◌, ℕ, ◌+◌, ◌&&◌, ◌==◌, Bool, true, false, List, [], ◌∷◌, length, Option, Some, None, bytes_eq, if◌then◌else◌}
use Rattle.bt_types.specs.declared.row_range.RowRange.{RowRange}
use Rattle.bt_range.specs.Bounds.{is_in}
use Rattle.bt_range.specs.RowSets.{is_filled}

abbrev pub one_if : Bool → ℕ
one_if true = 1
one_if false = 0

-- how many of the ranges hold k
abbrev pub holders : List ℕ → List RowRange → ℕ
holders k [] = 0
holders k (r ∷ rs) = one_if (is_in r k) + holders k rs

-- what the whole holds is in one part, and what it does not hold is in none
abbrev pub IsExactCover : List RowRange → RowRange → Type 0
IsExactCover parts whole = (k : List ℕ) → holders k parts ≡ one_if (is_in whole k)

-- ---- how it is found

abbrev pub is_same_end : Option (List ℕ) → Option (List ℕ) → Bool
is_same_end None None = true
is_same_end None (Some e) = false
is_same_end (Some d) None = false
is_same_end (Some d) (Some e) = bytes_eq d e

-- each part starts where the one before ended, the first at this place, and the last ends at that end
abbrev pub is_chain : Option (List ℕ) → List RowRange → Option (List ℕ) → Bool
is_chain at [] end = is_same_end at end
is_chain at (p ∷ ps) end = is_same_end at (Some p.start) && is_chain p.end ps end

abbrev pub is_cover : List RowRange → RowRange → Bool
is_cover parts whole = if is_filled whole then is_chain (Some whole.start) parts whole.end else length parts == 0
