-- What mutations do to a row (google.bigtable.v2.Mutation).
use Rattle.std.specs.Prelude.{ℕ, ◌&&◌, ◌||◌, ◌==◌, Bool, not, nat_lt, nat_le, bytes_eq, List, [], ◌∷◌, filter}
use Rattle.std.specs.Ordering.{match_ordering}
use Rattle.bt_types.specs.declared.cell.Cell.{Cell}
use Rattle.bt_types.specs.declared.mutation.Mutation.{Mutation}
use Rattle.bt_types.specs.declared.mutation.Mutation.TheVariants.{SetCell, DeleteColumn, DeleteFamily, DeleteRow}
use Rattle.bt_types.specs.Cells.{cell_cmp, plain}

-- the cells, with c in its place and in place of the one of its key
abbrev pub set_cell : Cell → List Cell → List Cell
set_cell c [] = c ∷ []
set_cell c (d ∷ ds) = match_ordering (cell_cmp c d) (c ∷ d ∷ ds) (c ∷ ds) (d ∷ set_cell c ds)

-- a cell of this column, at or past the start and before the end; end 0 is without bound
abbrev pub is_in_column : List ℕ → List ℕ → ℕ → ℕ → Cell → Bool
is_in_column family qualifier start end c = bytes_eq c.family family && bytes_eq c.qualifier qualifier && nat_le start c.at && (end == 0 || nat_lt c.at end)

-- a row after a mutation: a deletion keeps exactly the cells that it does not name
abbrev pub mutated : Mutation → List Cell → List Cell
mutated (SetCell family qualifier at value) row = set_cell (plain family qualifier at value) row
mutated (DeleteColumn family qualifier start end) row = filter (λ c. not (is_in_column family qualifier start end c)) row
mutated (DeleteFamily family) row = filter (λ c. not (bytes_eq c.family family)) row
mutated DeleteRow row = []

-- a row after the mutations of a list, in order
abbrev pub applied : List Mutation → List Cell → List Cell
applied [] row = row
applied (m ∷ ms) row = applied ms (mutated m row)
