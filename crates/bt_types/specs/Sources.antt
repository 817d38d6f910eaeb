-- What a source of rows gives.
use Rattle.std.specs.Prelude.{◌≡◌, ◌<◌, ◌≤◌, ℕ, suc, Bool, true, List, [], ◌∷◌, ◌++◌, length, Option, Some, None, IfSome, Result, Ok, Err}
use Rattle.std.specs.Ordering.{nat_cmp}
use Rattle.std.specs.Cmp.Lexicographic.{slice_cmp}
use Rattle.std.specs.declared.cmp.Ordering.TheVariants.{Less}
use Rattle.bt_base.specs.Counts.{Risen}
use Rattle.bt_types.specs.declared.cell.Cell.{Cell}
use Rattle.bt_types.specs.declared.source_fault.SourceFault.{SourceFault}
use Rattle.bt_types.specs.declared.source_fault.SourceFault.TheVariants.{DiskFailed, Damaged, OutOfMemory}
use Rattle.bt_types.specs.Cells.{cell_cmp}

-- the cells left of the row at hand, and the rows behind it with their keys
pub record Left : Type 0 where
  pub cells : List Cell
  pub rows : List (List ℕ × List Cell)

-- a failed disk was counted and is failing; damage is there where the bytes are told
abbrev pub IsCaused : Type 0 → ℕ → ℕ → Bool → (ℕ → ℕ → Type 0) → SourceFault → Type 0
IsCaused tells faults new_faults failing broken DiskFailed = Risen faults new_faults × (failing ≡ true)
IsCaused tells faults new_faults failing broken (Damaged file at) = tells → broken file at
IsCaused tells faults new_faults failing broken OutOfMemory = Unit {0}

-- the next row is at hand, or there is none
abbrev pub GivesRow : Option (List ℕ) → Left → Left → Type 0
GivesRow None old new = (old.rows ≡ []) × (new ≡ record { cells = []; rows = [] })
GivesRow (Some key) old new = old.rows ≡ (key, new.cells) ∷ new.rows

-- the next cell of the row at hand was given, or there is none
abbrev pub GivesCell : Option Cell → Left → Left → Type 0
GivesCell None old new = (old.cells ≡ []) × (new ≡ old)
GivesCell (Some c) old new = (old.cells ≡ c ∷ new.cells) × (new.rows ≡ old.rows)

-- keys ascend strictly, also past a None
abbrev pub GoesOnRow : Option (List ℕ) → Option (List ℕ) → Option (List ℕ) → Option Cell → Option Cell → Type 0
GoesOnRow None key new_key cell new_cell = new_key ≡ key
GoesOnRow (Some k) key new_key cell new_cell = IfSome key (λ before. slice_cmp nat_cmp before k ≡ Less) × (new_key ≡ Some k) × (new_cell ≡ None)

-- cells ascend strictly, have no labels, and have values of at most 4,194,304 bytes
abbrev pub GoesOnCell : Option Cell → Option (List ℕ) → Option (List ℕ) → Option Cell → Option Cell → Type 0
GoesOnCell None key new_key cell new_cell = (new_key ≡ key) × (new_cell ≡ cell)
GoesOnCell (Some c) key new_key cell new_cell =
    IfSome cell (λ before. cell_cmp before c ≡ Less) × (c.label ≡ None) × (length c.value ≤ 4194304) × (new_key ≡ key) × (new_cell ≡ Some c)

-- a number that falls with each answer and never rises
abbrev pub Falls : {A : Type 0} → Result (Option A) SourceFault → ℕ → ℕ → Type 0
Falls (Ok (Some x)) old new = new < old
Falls (Ok None) old new = new ≤ old
Falls (Err e) old new = new ≤ old

-- a row puts a 0 at the end
abbrev pub CountsRow : {A : Type 0} → Result (Option A) SourceFault → List ℕ → List ℕ → Type 0
CountsRow (Ok (Some x)) old new = new ≡ old ++ 0 ∷ []
CountsRow (Ok None) old new = new ≡ old
CountsRow (Err e) old new = new ≡ old

-- the last number one greater, where there is one
abbrev pub one_more : List ℕ → List ℕ
one_more [] = []
one_more (n ∷ []) = suc n ∷ []
one_more (n ∷ m ∷ more) = n ∷ one_more (m ∷ more)

-- a cell raises the last number
abbrev pub CountsCell : {A : Type 0} → Result (Option A) SourceFault → List ℕ → List ℕ → Type 0
CountsCell (Ok (Some x)) old new = new ≡ one_more old
CountsCell (Ok None) old new = new ≡ old
CountsCell (Err e) old new = new ≡ old
