-- Cells, their order, and rows of them.
use Rattle.std.specs.Prelude.{◌≡◌, ◌≤◌, ℕ, false, List, [], ◌∷◌, ◌++◌, length, None, All}
use Rattle.std.specs.List.{AllByRecursion}
use Rattle.std.specs.Ordering.{nat_cmp, ordering_then, match_ordering, is_gt}
use Rattle.std.specs.Cmp.Lexicographic.{slice_cmp}
use Rattle.std.specs.declared.cmp.Ordering.{Ordering}
use Rattle.std.specs.declared.cmp.Ordering.TheVariants.{Less}
use Rattle.bt_types.specs.declared.cell.Cell.{Cell}

-- a cell without a label
abbrev pub plain : List ℕ → List ℕ → ℕ → List ℕ → Cell
plain family qualifier at value = record { family = family; qualifier = qualifier; at = at; value = value; label = None }

-- family ascending, qualifier ascending, timestamp descending
abbrev pub cell_cmp : Cell → Cell → Ordering
cell_cmp a b = ordering_then (slice_cmp nat_cmp a.family b.family) (ordering_then (slice_cmp nat_cmp a.qualifier b.qualifier) (nat_cmp b.at a.at))

-- cells in order, with a further one before those that are not below it
abbrev pub put_in_order : Cell → List Cell → List Cell
put_in_order c [] = c ∷ []
put_in_order c (d ∷ ds) = match_ordering (cell_cmp c d) (c ∷ d ∷ ds) (c ∷ d ∷ ds) (d ∷ put_in_order c ds)

-- cells put in order, equal keys keeping theirs
abbrev pub in_order : List Cell → List Cell
in_order [] = []
in_order (c ∷ cs) = put_in_order c (in_order cs)

-- the cells of both, in order; among equal keys those of the first stand first
abbrev pub merge : List Cell → List Cell → List Cell
merge cs ds = in_order (cs ++ ds)

-- the keys of the cells strictly increase
abbrev pub AreOrdered : List Cell → Type 0
AreOrdered [] = Unit {0}
AreOrdered (c ∷ cs) = All (λ d. cell_cmp c d ≡ Less) cs × AreOrdered cs

-- the cell stands past none of these
abbrev pub IsPastNone : Cell → List Cell → Type 0
IsPastNone c cs = AllByRecursion (λ d. is_gt (cell_cmp c d) ≡ false) cs

-- no cell stands past a later one; several may have one key
abbrev pub AreInOrder : List Cell → Type 0
AreInOrder [] = Unit {0}
AreInOrder (c ∷ cs) = IsPastNone c cs × AreInOrder cs

-- no value has more than 4,194,304 bytes
abbrev pub AreShort : List Cell → Type 0
AreShort cs = All (λ c. length c.value ≤ 4194304) cs

-- no cell has a label
abbrev pub AreUnlabelled : List Cell → Type 0
AreUnlabelled cs = All (λ c. c.label ≡ None) cs

-- a row: its cells with strictly increasing keys, and no labels
pub record IsRow (cs : List Cell) : Type 0 where
  pub ordered : AreOrdered cs
  pub unlabelled : AreUnlabelled cs
