use Rattle.std.proofs.Common.{◌≡◌, length, min, take}
use Rattle.std.specs.List.{flat_map}
use Rattle.bt_base.specs.Counts.{most}
use Rattle.bt_manifest.specs.Spelling.{table}
use Rattle.bt_manifest.proofs.table_length.tables_length.Given as goal

abbrev pub invariant-loop-table : goal.invariant-loop-table
invariant-loop-table l = l.length ≡ min (length (flat_map table (take l.table-index l.tables))) most
