-- Columns, and their order.
use Rattle.std.specs.Prelude.{Bool, List}
use Rattle.std.specs.List.{list_any, flat_map}
use Rattle.std.specs.Option.{option_to_list}
use Rattle.std.specs.Ordering.{nat_cmp, ordering_then}
use Rattle.std.specs.declared.cmp.Ordering.{Ordering}
use Rattle.std.specs.BTreeMap.{is_at}
use Rattle.std.specs.Cmp.{IsTotalOrder}
use Rattle.std.specs.Cmp.Lexicographic.{slice_cmp}
use Rattle.std.proofs.lemmas.Cmp.{then_total, on_total, nat_list_cmp_total}
use Rattle.bt_types.specs.declared.cell.Cell.{Cell}
use Rattle.bt_rmw.specs.declared.column.Column.{Column}
use Rattle.bt_rmw.specs.Modified.{latest_in}

-- family ascending, qualifier ascending
abbrev pub column_order : Column → Column → Ordering
column_order a b = ordering_then (slice_cmp nat_cmp a.family b.family) (slice_cmp nat_cmp a.qualifier b.qualifier)

-- this orders columns totally
pub column_total : IsTotalOrder column_order
column_total = then_total (on_total (λ (c : Column). c.family) nat_list_cmp_total) (on_total (λ (c : Column). c.qualifier) nat_list_cmp_total)

-- the column is among these
abbrev pub has_column : List Column → Column → Bool
has_column columns column = list_any (is_at (column_order column)) columns

-- of each column the latest cell that a row has of it
abbrev pub latest_of_each : List Cell → List Column → List Cell
latest_of_each row columns = flat_map (λ c. option_to_list (latest_in c.family c.qualifier row)) columns
