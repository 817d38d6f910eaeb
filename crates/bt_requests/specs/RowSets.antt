-- The rows that a request lists, where no member is bad (google.bigtable.v2.RowSet).
use Rattle.std.specs.Prelude.{ℕ, List, [], ◌∷◌, codes}
use Rattle.serde_json.specs.Data.{Data, Items, no_items, item}
use Rattle.bt_range.specs.declared.asked_range.AskedRange.{AskedRange}
use Rattle.bt_members.specs.Values.{choose, value_at, bytes_or_empty, items_at}
use Rattle.bt_requests.specs.Bounds.{bound_of}

-- ---- keys

abbrev pub each_key : Items → List (List ℕ)
each_key no_items = []
each_key (item d ds) = bytes_or_empty d ∷ each_key ds

abbrev pub keys_in : Data → List (List ℕ)
keys_in d = each_key (items_at (codes "rowKeys") d)

-- ---- ranges

-- google.bigtable.v2.RowRange
abbrev pub range_in : Data → AskedRange
range_in d = record {
  start = bound_of (value_at (codes "startKeyClosed") d) (value_at (codes "startKeyOpen") d);
  end = bound_of (value_at (codes "endKeyClosed") d) (value_at (codes "endKeyOpen") d);
}

abbrev pub each_range : Items → List AskedRange
each_range no_items = []
each_range (item d ds) = range_in d ∷ each_range ds

abbrev pub ranges_in : Data → List AskedRange
ranges_in d = each_range (items_at (codes "rowRanges") d)

-- ---- of a request, which lists nothing where it has no rows

abbrev pub keys_at : Data → List (List ℕ)
keys_at d = choose (value_at (codes "rows") d) keys_in []

abbrev pub ranges_at : Data → List AskedRange
ranges_at d = choose (value_at (codes "rows") d) ranges_in []
