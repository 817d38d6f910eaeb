-- What the label parts of a filter are given (google.bigtable.v2.RowFilter).
use Rattle.std.specs.Prelude.{◌≡◌, ℕ, List, [], ◌∷◌, ◌++◌, Option, Some, None}
use Rattle.std.specs.List.{AllByRecursion}
use Rattle.bt_types.specs.declared.cell.Cell.{Cell}
use Rattle.bt_types.specs.Cells.{AreUnlabelled}
use Rattle.bt_filter.specs.declared.asked.AskedFilter.{AskedFilter}
use Rattle.bt_filter.specs.declared.filter.Filter.{Filter}
use Rattle.bt_filter.specs.declared.filter.Filter.TheOpen.{Filter-F}
use Rattle.bt_filter.specs.declared.filter.Filter.TheFolds.{fold-Filter, map-Filter}
use Rattle.bt_filter.specs.Building.{filter_of}
use Rattle.bt_filter.specs.Flaws.{IsValidFilter}
use Rattle.bt_filter.specs.Meaning.{Gives, node_gives, filter_meaning}

-- what the label parts are given, one list of cells for each, for a row's key and cells
abbrev pub Inputs : Type 0
Inputs = List ℕ → List Cell → List (List Cell)

-- what a filter gives, and what its label parts are given
pub record Trace : Type 0 where
  pub gives : Gives
  pub inputs : Inputs

-- each filter is given what the one before it gives
abbrev pub chain_inputs : List Trace → Inputs
chain_inputs [] key cells = []
chain_inputs (f ∷ fs) key cells = f.inputs key cells ++ chain_inputs fs key (f.gives key cells).out

-- each filter is given the same cells
abbrev pub interleave_inputs : List Trace → Inputs
interleave_inputs [] key cells = []
interleave_inputs (f ∷ fs) key cells = f.inputs key cells ++ interleave_inputs fs key cells

-- a missing part has no label
abbrev pub part_inputs : Option Trace → Inputs
part_inputs None key cells = []
part_inputs (Some f) key cells = f.inputs key cells

-- the predicate and both branches are given the same cells
abbrev pub condition_inputs : Option Trace → Option Trace → Option Trace → Inputs
condition_inputs predicate matched unmatched key cells = part_inputs predicate key cells ++ part_inputs matched key cells ++ part_inputs unmatched key cells

-- a filter of each kind, with these parts
abbrev pub node_inputs : Filter-F Trace → Inputs
node_inputs (Filter-F.Chain parts) key cells = chain_inputs parts key cells
node_inputs (Filter-F.Interleave parts) key cells = interleave_inputs parts key cells
node_inputs (Filter-F.Condition predicate matched unmatched) key cells = condition_inputs predicate matched unmatched key cells
node_inputs (Filter-F.Label label) key cells = cells ∷ []
node_inputs _ key cells = []

-- a filter of each kind, with what it gives
abbrev pub node_trace : Filter-F Trace → Trace
node_trace f = record { gives = node_gives (map-Filter Trace Gives (λ t. t.gives) f); inputs = node_inputs f }

abbrev pub trace : Filter → Trace
trace = fold-Filter Trace node_trace

-- what the label parts of a filter are given
abbrev pub label_inputs : Filter → Inputs
label_inputs f = (trace f).inputs

-- ---- the laws

-- in a valid filter, over cells without labels, each label part is given cells without labels
abbrev pub LabelsOnce : Type 0
LabelsOnce = (f : AskedFilter) (key : List ℕ) (cells : List Cell) → IsValidFilter f → AreUnlabelled cells → AllByRecursion AreUnlabelled (label_inputs (filter_of f) key cells)

-- what filters in a trace give is what they mean
abbrev pub TracesMean : Type 0
TracesMean = (f : Filter) → (trace f).gives ≡ filter_meaning f
