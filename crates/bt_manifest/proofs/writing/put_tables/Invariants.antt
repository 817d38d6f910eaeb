use Rattle.std.proofs.Common.{◌≡◌, ◌++◌, length, take}
use Rattle.std.specs.Int.{w32, to_be_bytes}
use Rattle.std.specs.List.{flat_map}
use Rattle.bt_manifest.specs.Spelling.{table}
use Rattle.bt_manifest.proofs.writing.put_tables.Given as goal

abbrev pub invariant-loop-table : goal.invariant-loop-table
invariant-loop-table l = l.out.items ≡ l.fn.out.items ++ (to_be_bytes w32 (length l.tables) ++ flat_map table (take l.table-index l.tables))
