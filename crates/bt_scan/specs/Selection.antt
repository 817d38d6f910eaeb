-- The rows of a table that a set of ranges holds, and what a reader of them has left.
use Rattle.std.specs.Prelude.{◌≡◌, ℕ, List, [], ◌∷◌, ◌++◌, filter, Option, None, Some, IfSome}
use Rattle.std.specs.Ordering.{nat_cmp}
use Rattle.std.specs.declared.cmp.Ordering.TheVariants.{Less}
use Rattle.std.specs.Cmp.Lexicographic.{slice_cmp}
use Rattle.std.specs.List.{AllByRecursion}
use Rattle.std.specs.List.Sorted.{IsStrictlySortedBy}
use Rattle.std.specs.Map.{keys_of}
use Rattle.bt_types.specs.declared.row_range.RowRange.{RowRange}
use Rattle.bt_range.specs.RowSets.{is_in_any}
use Rattle.bt_contents.specs.Contents.{Contents}
use Rattle.bt_contents.specs.Ranges.{Unread}

-- the rows whose keys one of the ranges holds, in their order
abbrev pub selected : List RowRange → Contents → Contents
selected ranges rows = filter (λ r. is_in_any ranges r.0) rows

-- their keys ascend strictly
abbrev pub AreSorted : Contents → Type 0
AreSorted rows = IsStrictlySortedBy (slice_cmp nat_cmp) (keys_of rows)

-- the keys of the rows are past this one, where there is one
abbrev pub AreBehind : Option (List ℕ) → Contents → Type 0
AreBehind key rows = IfSome key (λ k. AllByRecursion (λ q. slice_cmp nat_cmp k q ≡ Less) (keys_of rows))

-- The rows of the table are in order; so are the rows that are left, behind the row at hand.
pub record GoOn (key : Option (List ℕ)) (left table : Contents) : Type 0 where
  pub ordered : AreSorted table
  pub sorted : AreSorted left
  pub behind : AreBehind key left

-- the next row is at hand, or there is none
abbrev pub Takes : Option (List ℕ) → Unread → Unread → Type 0
Takes None old new = (old.rows ≡ []) × (new.rows ≡ []) × (new.cells ≡ []) × (new.key ≡ old.key)
Takes (Some k) old new = (old.rows ≡ (k, new.cells) ∷ new.rows) × (new.key ≡ Some k) × (new.last ≡ None)

-- the first row of the ranges that are left is at hand, or they have none
abbrev pub Begins : Option (List ℕ) → Unread → Contents → Unread → Contents → Type 0
Begins None old old_later new later = (old_later ≡ []) × (later ≡ []) × (new ≡ old)
Begins (Some k) old old_later new later = (old_later ≡ (k, new.cells) ∷ (new.rows ++ later)) × (new.key ≡ Some k) × (new.last ≡ None)

-- the next row of the range at hand or of a later one is at hand, or there is none
abbrev pub Moves : Option (List ℕ) → Unread → Contents → Unread → Contents → Type 0
Moves None old old_later new later = (old.rows ++ old_later ≡ []) × (later ≡ []) × (new.rows ≡ []) × (new.cells ≡ []) × (new.key ≡ old.key)
Moves (Some k) old old_later new later = (old.rows ++ old_later ≡ (k, new.cells) ∷ (new.rows ++ later)) × (new.key ≡ Some k) × (new.last ≡ None)
