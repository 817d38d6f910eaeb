-- What filters give of a row (google.bigtable.v2.RowFilter).
use Rattle.std.specs.Prelude.{ℕ, ◌&&◌, Bool, nat_lt, bytes_eq, List, [], ◌∷◌, ◌++◌, length, map, filter, take, drop, Option, Some, None, if◌then◌else◌}
use Rattle.bt_types.specs.declared.cell.Cell.{Cell}
use Rattle.bt_types.specs.Cells.{merge}
use Rattle.bt_range.specs.Bounds.{is_in_bytes, is_in_time}
use Rattle.bt_pattern.specs.Patterns.{matches}
use Rattle.bt_filter.specs.declared.filter.Filter.{Filter}
use Rattle.bt_filter.specs.declared.filter.Filter.TheOpen.{Filter-F}
use Rattle.bt_filter.specs.declared.filter.Filter.TheFolds.{fold-Filter}

-- the cells that a filter gives to the filter behind it, and those that it gives past all filters to the answer
pub record Given : Type 0 where
  pub out : List Cell
  pub sunk : List Cell

-- what a filter gives for a row's key and cells
abbrev pub Gives : Type 0
Gives = List ℕ → List Cell → Given

-- these cells, and nothing sunk
abbrev pub only : List Cell → Given
only cells = record { out = cells; sunk = [] }

-- what is given after these were sunk
abbrev pub after_sunk : List Cell → Given → Given
after_sunk sunk given = record { out = given.out; sunk = merge sunk given.sunk }

-- both, in order
abbrev pub beside : Given → Given → Given
beside a b = record { out = merge a.out b.out; sunk = merge a.sunk b.sunk }

-- each filter on what the one before it gives
abbrev pub chain_gives : List Gives → Gives
chain_gives [] key cells = only cells
chain_gives (f ∷ fs) key cells = after_sunk (f key cells).sunk (chain_gives fs key (f key cells).out)

-- each filter on the same cells
abbrev pub interleave_gives : List Gives → Gives
interleave_gives [] key cells = only []
interleave_gives (f ∷ fs) key cells = beside (f key cells) (interleave_gives fs key cells)

-- a missing predicate passes all
abbrev pub predicate_out : Option Gives → List ℕ → List Cell → List Cell
predicate_out None key cells = cells
predicate_out (Some f) key cells = (f key cells).out

-- a missing branch gives none
abbrev pub branch_out : Option Gives → List ℕ → List Cell → List Cell
branch_out None key cells = []
branch_out (Some f) key cells = (f key cells).out

-- the first where the predicate gives a cell, else the second
abbrev pub chosen : List Cell → List Cell → List Cell → List Cell
chosen [] matched unmatched = unmatched
chosen (c ∷ cs) matched unmatched = matched

abbrev pub condition_gives : Option Gives → Option Gives → Option Gives → Gives
condition_gives predicate matched unmatched key cells =
    only (chosen (predicate_out predicate key cells) (branch_out matched key cells) (branch_out unmatched key cells))

abbrev pub is_of_column : Cell → Cell → Bool
is_of_column c d = bytes_eq d.family c.family && bytes_eq d.qualifier c.qualifier

-- each cell before which, among those before the list and those in it, fewer than n are of its column
abbrev pub first_of_columns : ℕ → List Cell → List Cell → List Cell
first_of_columns n before [] = []
first_of_columns n before (c ∷ cs) =
    if nat_lt (length (filter (is_of_column c) before)) n then c ∷ first_of_columns n (before ++ c ∷ []) cs
    else first_of_columns n (before ++ c ∷ []) cs

abbrev pub without_value : Cell → Cell
without_value c = record c { value = [] }

abbrev pub with_label : List ℕ → Cell → Cell
with_label label c = record c { label = Some label }

-- a filter of each kind, whose parts give this
abbrev pub node_gives : Filter-F Gives → Gives
node_gives Filter-F.Unset key cells = only cells
node_gives Filter-F.Pass key cells = only cells
node_gives Filter-F.Block key cells = only []
node_gives Filter-F.Sink key cells = record { out = []; sunk = cells }
node_gives Filter-F.Strip key cells = only (map without_value cells)
node_gives (Filter-F.Chain parts) key cells = chain_gives parts key cells
node_gives (Filter-F.Interleave parts) key cells = interleave_gives parts key cells
node_gives (Filter-F.Condition predicate matched unmatched) key cells = condition_gives predicate matched unmatched key cells
node_gives (Filter-F.RowKey pattern) key cells = only (if matches pattern key then cells else [])
node_gives (Filter-F.Family pattern) key cells = only (filter (λ c. matches pattern c.family) cells)
node_gives (Filter-F.Qualifier pattern) key cells = only (filter (λ c. matches pattern c.qualifier) cells)
node_gives (Filter-F.Value pattern) key cells = only (filter (λ c. matches pattern c.value) cells)
node_gives (Filter-F.ColumnRange family range) key cells = only (filter (λ c. bytes_eq c.family family && is_in_bytes range c.qualifier) cells)
node_gives (Filter-F.ValueRange range) key cells = only (filter (λ c. is_in_bytes range c.value) cells)
node_gives (Filter-F.Times range) key cells = only (filter (λ c. is_in_time range c.at) cells)
node_gives (Filter-F.RowOffset n) key cells = only (drop n cells)
node_gives (Filter-F.RowLimit n) key cells = only (take n cells)
node_gives (Filter-F.ColumnLimit n) key cells = only (first_of_columns n [] cells)
node_gives (Filter-F.Label label) key cells = only (map (with_label label) cells)

-- what a filter gives for a row's key and cells
abbrev pub filter_meaning : Filter → Gives
filter_meaning = fold-Filter Gives node_gives

-- the cells of the answer
abbrev pub final_cells : Filter → List ℕ → List Cell → List Cell
final_cells f key cells = merge (filter_meaning f key cells).out (filter_meaning f key cells).sunk
