-- Steps, as the filters that they run.
use Rattle.std.specs.Prelude.{◌≡◌, ◌&&◌, Bool, true, false, bytes_eq, List, [], ◌∷◌, Box, Option, option_map}
use Rattle.std.specs.Global.{Global}
use Rattle.std.specs.List as list
use Rattle.bt_types.specs.declared.cell.Cell.{Cell}
use Rattle.bt_range.specs.Bounds.{is_in_bytes, is_in_time}
use Rattle.bt_pattern.specs.Patterns.{matches}
use Rattle.bt_filter.specs.declared.filter.Filter.{Filter}
use Rattle.bt_filter.specs.declared.filter.Filter.TheVariants as filter
use Rattle.bt_filter.specs.declared.filter.Filter.TheOpen.{Filter-F}
use Rattle.bt_filter.specs.Meaning.{Given, Gives, node_gives, only}
use Rattle.bt_filter_run.specs.declared.cell_test.CellTest.{CellTest}
use Rattle.bt_filter_run.specs.declared.cell_test.CellTest.TheVariants as test
use Rattle.bt_filter_run.specs.declared.given.Given as run
use Rattle.bt_filter_run.specs.declared.leaf.Leaf.{Leaf}
use Rattle.bt_filter_run.specs.declared.leaf.Leaf.TheVariants as leaf
use Rattle.bt_filter_run.specs.declared.step.Step.{Step}
use Rattle.bt_filter_run.specs.declared.step.Step.TheOpen.{Step-F}
use Rattle.bt_filter_run.specs.declared.step.Step.TheFolds.{fold-Step}

-- the cell passes
abbrev pub passes : CellTest → Cell → Bool
passes (test.Family pattern) c = matches pattern c.family
passes (test.Qualifier pattern) c = matches pattern c.qualifier
passes (test.Value pattern) c = matches pattern c.value
passes (test.Columns family range) c = bytes_eq c.family family && is_in_bytes range c.qualifier
passes (test.ValueRange range) c = is_in_bytes range c.value
passes (test.Times range) c = is_in_time range c.at

-- the filter of the cells that pass
abbrev pub test_filter : CellTest → Filter
test_filter (test.Family pattern) = filter.Family pattern
test_filter (test.Qualifier pattern) = filter.Qualifier pattern
test_filter (test.Value pattern) = filter.Value pattern
test_filter (test.Columns family range) = filter.ColumnRange family range
test_filter (test.ValueRange range) = filter.ValueRange range
test_filter (test.Times range) = filter.Times range

-- the filter without parts
abbrev pub leaf_filter : Leaf → Filter
leaf_filter leaf.Unset = filter.Unset
leaf_filter leaf.Pass = filter.Pass
leaf_filter leaf.Block = filter.Block
leaf_filter leaf.Sink = filter.Sink
leaf_filter leaf.Strip = filter.Strip
leaf_filter (leaf.RowKey pattern) = filter.RowKey pattern
leaf_filter (leaf.Cells test) = test_filter test
leaf_filter (leaf.RowOffset count) = filter.RowOffset count
leaf_filter (leaf.RowLimit count) = filter.RowLimit count
leaf_filter (leaf.ColumnLimit count) = filter.ColumnLimit count
leaf_filter (leaf.Label label) = filter.Label label

-- what the filter without parts gives
abbrev pub leaf_gives : Leaf → Gives
leaf_gives leaf.Unset = node_gives Filter-F.Unset
leaf_gives leaf.Pass = node_gives Filter-F.Pass
leaf_gives leaf.Block = node_gives Filter-F.Block
leaf_gives leaf.Sink = node_gives Filter-F.Sink
leaf_gives leaf.Strip = node_gives Filter-F.Strip
leaf_gives (leaf.RowKey pattern) = node_gives (Filter-F.RowKey pattern)
leaf_gives (leaf.Cells test) = λ key cells. only (list.filter (passes test) cells)
leaf_gives (leaf.RowOffset count) = node_gives (Filter-F.RowOffset count)
leaf_gives (leaf.RowLimit count) = node_gives (Filter-F.RowLimit count)
leaf_gives (leaf.ColumnLimit count) = node_gives (Filter-F.ColumnLimit count)
leaf_gives (leaf.Label label) = node_gives (Filter-F.Label label)

-- what is in the box
abbrev pub boxed : {A : Type 0} → Box A Global → A
boxed b = b.value

-- a step of each kind, whose parts run these filters
abbrev pub step_filter : Step-F Filter → Filter
step_filter (Step-F.Leaf leaf) = leaf_filter leaf
step_filter (Step-F.Chain parts) = filter.Chain parts.items
step_filter (Step-F.Interleave parts) = filter.Interleave parts.items
step_filter (Step-F.Condition predicate matched unmatched) = filter.Condition (option_map boxed predicate) (option_map boxed matched) (option_map boxed unmatched)

-- the filter that a step runs
abbrev pub filter_of : Step → Filter
filter_of = fold-Step Filter step_filter

-- the filter of a part that may be missing
abbrev pub part_of : Option (Box Step Global) → Option Filter
part_of part = option_map (λ b. filter_of b.value) part

-- there is a cell
abbrev pub is_any : List Cell → Bool
is_any [] = false
is_any (c ∷ cs) = true

-- these cells were given and sunk
pub record IsGiven (given : run.Given) (meant : Given) : Type 0 where
  pub out : given.out ≡ meant.out
  pub sunk : given.sunk ≡ meant.sunk
