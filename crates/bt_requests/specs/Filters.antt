-- Filters, where no member is bad (google.bigtable.v2.RowFilter).
use Rattle.std.specs.Prelude.{ℕ, zero, suc, List, [], ◌∷◌, codes, Option, Some, None, option_map}
use Rattle.serde_json.specs.Data.{Data, Items, no_items, item}
use Rattle.bt_filter.specs.declared.asked.AskedFilter.{AskedFilter}
use Rattle.bt_filter.specs.declared.asked.AskedFilter.TheVariants as asked
use Rattle.bt_range.specs.declared.byte_range.ByteRange.{ByteRange}
use Rattle.bt_text.specs.Names.{original_name}
use Rattle.bt_members.specs.Values.{choose, is_yes, value_at, value_of, text_at, text_or_empty, bytes_or_empty, int32_or_zero, int64_at, items_at}
use Rattle.bt_requests.specs.Bounds.{bound_of}

-- ---- by a flag or a count

-- by the flag that is set, with its value
abbrev pub flag_in : Data → AskedFilter
flag_in d =
    choose (value_at (codes "passAllFilter") d) (λ v. asked.Pass (is_yes v))
    (choose (value_at (codes "blockAllFilter") d) (λ v. asked.Block (is_yes v))
    (choose (value_at (codes "sink") d) (λ v. asked.Sink (is_yes v))
    (choose (value_at (codes "stripValueTransformer") d) (λ v. asked.Strip (is_yes v))
    asked.Unset)))

-- by the count that is set, or else by a flag
abbrev pub count_in : Data → AskedFilter
count_in d =
    choose (value_at (codes "cellsPerRowOffsetFilter") d) (λ v. asked.RowOffset (int32_or_zero v))
    (choose (value_at (codes "cellsPerRowLimitFilter") d) (λ v. asked.RowLimit (int32_or_zero v))
    (choose (value_at (codes "cellsPerColumnLimitFilter") d) (λ v. asked.ColumnLimit (int32_or_zero v))
    (flag_in d)))

-- ---- by a range

-- google.bigtable.v2.ColumnRange
abbrev pub qualifiers_in : Data → ByteRange
qualifiers_in d = record {
  start = bound_of (value_at (codes "startQualifierClosed") d) (value_at (codes "startQualifierOpen") d);
  end = bound_of (value_at (codes "endQualifierClosed") d) (value_at (codes "endQualifierOpen") d);
}

-- google.bigtable.v2.ValueRange
abbrev pub values_in : Data → ByteRange
values_in d = record {
  start = bound_of (value_at (codes "startValueClosed") d) (value_at (codes "startValueOpen") d);
  end = bound_of (value_at (codes "endValueClosed") d) (value_at (codes "endValueOpen") d);
}

-- google.bigtable.v2.TimestampRange
abbrev pub times_in : Data → AskedFilter
times_in d = asked.Times (int64_at (codes "startTimestampMicros") d) (int64_at (codes "endTimestampMicros") d)

-- by the range that is set, or else by a count or a flag
abbrev pub range_in : Data → AskedFilter
range_in d =
    choose (value_at (codes "columnRangeFilter") d) (λ v. asked.ColumnRange (text_at (codes "familyName") v) (qualifiers_in v))
    (choose (value_at (codes "valueRangeFilter") d) (λ v. asked.ValueRange (values_in v))
    (choose (value_at (codes "timestampRangeFilter") d) times_in
    (count_in d)))

-- ---- by a text

-- by the pattern or the label that is set, or else by a range, a count or a flag
abbrev pub text_in : Data → AskedFilter
text_in d =
    choose (value_at (codes "rowKeyRegexFilter") d) (λ v. asked.RowKey (bytes_or_empty v))
    (choose (value_at (codes "familyNameRegexFilter") d) (λ v. asked.Family (text_or_empty v))
    (choose (value_at (codes "columnQualifierRegexFilter") d) (λ v. asked.Qualifier (bytes_or_empty v))
    (choose (value_at (codes "valueRegexFilter") d) (λ v. asked.Value (bytes_or_empty v))
    (choose (value_at (codes "applyLabelTransformer") d) (λ v. asked.Label (text_or_empty v))
    (range_in d)))))

-- ---- with parts, each read by `read`

abbrev pub parts_in : (Data → AskedFilter) → Items → List AskedFilter
parts_in read no_items = []
parts_in read (item d ds) = read d ∷ parts_in read ds

-- google.bigtable.v2.RowFilter.Chain and google.bigtable.v2.RowFilter.Interleave
abbrev pub filters_in : (Data → AskedFilter) → Data → List AskedFilter
filters_in read d = parts_in read (items_at (codes "filters") d)

-- a part of a condition, by its name
abbrev pub branch_in : (Data → AskedFilter) → List ℕ → List ℕ → Data → Option AskedFilter
branch_in read n o d = choose (value_of n o d) (λ v. Some (read v)) None

abbrev pub branch_at : (Data → AskedFilter) → List ℕ → Data → Option AskedFilter
branch_at read n d = branch_in read n (original_name n) d

-- google.bigtable.v2.RowFilter.Condition
abbrev pub condition_in : (Data → AskedFilter) → Data → AskedFilter
condition_in read d = asked.Condition (branch_at read (codes "predicateFilter") d) (branch_at read (codes "trueFilter") d) (branch_at read (codes "falseFilter") d)

-- by the kind that is set
abbrev pub kind_in : (Data → AskedFilter) → Data → AskedFilter
kind_in read d =
    choose (value_at (codes "chain") d) (λ v. asked.Chain (filters_in read v))
    (choose (value_at (codes "interleave") d) (λ v. asked.Interleave (filters_in read v))
    (choose (value_at (codes "condition") d) (condition_in read)
    (text_in d)))

-- the first levels of a filter; what is deeper is unset
unfoldable pub filter_in : ℕ → Data → AskedFilter
filter_in zero d = asked.Unset
filter_in (suc levels) d = kind_in (filter_in levels) d

-- the filter of a request, unset where it has none. A filter of more than 20 levels is refused for its depth before anything else in it is looked at, so what is below 21 does not matter.
abbrev pub filter_at : Data → AskedFilter
filter_at d = choose (value_at (codes "filter") d) (filter_in 21) asked.Unset

-- the predicate of a request; none where it has none
abbrev pub predicate_at : Data → Option AskedFilter
predicate_at d = option_map (filter_in 21) (value_at (codes "predicateFilter") d)
