-- What a filter that is asked for is built into.
use Rattle.std.specs.Prelude.{ℕ, ℤ, pos, negsuc}
use Rattle.bt_filter.specs.declared.asked.AskedFilter.{AskedFilter}
use Rattle.bt_filter.specs.declared.asked.AskedFilter.TheOpen.{AskedFilter-F}
use Rattle.bt_filter.specs.declared.asked.AskedFilter.TheFolds.{fold-AskedFilter}
use Rattle.bt_filter.specs.declared.filter.Filter.{Filter}
use Rattle.bt_filter.specs.declared.filter.Filter.TheVariants as built

-- a number that is not negative
abbrev pub number_of : ℤ → ℕ
number_of (pos n) = n
number_of (negsuc n) = 0

-- a filter of each kind, of built parts
abbrev pub node_filter : AskedFilter-F Filter → Filter
node_filter AskedFilter-F.Unset = built.Unset
node_filter (AskedFilter-F.Pass flag) = built.Pass
node_filter (AskedFilter-F.Block flag) = built.Block
node_filter (AskedFilter-F.Sink flag) = built.Sink
node_filter (AskedFilter-F.Strip flag) = built.Strip
node_filter (AskedFilter-F.Chain parts) = built.Chain parts
node_filter (AskedFilter-F.Interleave parts) = built.Interleave parts
node_filter (AskedFilter-F.Condition predicate matched unmatched) = built.Condition predicate matched unmatched
node_filter (AskedFilter-F.RowKey text) = built.RowKey text
node_filter (AskedFilter-F.Family text) = built.Family text
node_filter (AskedFilter-F.Qualifier text) = built.Qualifier text
node_filter (AskedFilter-F.Value text) = built.Value text
node_filter (AskedFilter-F.ColumnRange family range) = built.ColumnRange family range
node_filter (AskedFilter-F.ValueRange range) = built.ValueRange range
node_filter (AskedFilter-F.Times start end) = built.Times (record { start = number_of start; end = number_of end })
node_filter (AskedFilter-F.RowOffset count) = built.RowOffset (number_of count)
node_filter (AskedFilter-F.RowLimit count) = built.RowLimit (number_of count)
node_filter (AskedFilter-F.ColumnLimit count) = built.ColumnLimit (number_of count)
node_filter (AskedFilter-F.Label label) = built.Label label

-- the filter, part by part
abbrev pub filter_of : AskedFilter → Filter
filter_of = fold-AskedFilter Filter node_filter
