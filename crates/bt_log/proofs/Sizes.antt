-- An entry of a record takes a byte.
use Rattle.std.proofs.Common.{◌≤◌, List, [], ◌∷◌, length, arith, length-append}
use Rattle.std.specs.List.{flat_map}
use Rattle.std.specs.Int.{w64, to_be_bytes}
use Rattle.bt_entry.specs.declared.numbered.Numbered.{Numbered}
use Rattle.bt_entry.specs.Spelling.{entry, numbered, spelling}

each_some : (ns : List Numbered) → length ns ≤ length (flat_map numbered ns)
each_some [] = omega arith
each_some (n ∷ ns) = omega (arith, each_some ns, length-append (numbered n) (flat_map numbered ns), length-append (to_be_bytes w64 n.moment) (entry n.entry))

pub entries_few : (ns : List Numbered) → length ns ≤ length (spelling ns)
entries_few ns = omega (arith, each_some ns)
