use Rattle.std.proofs.Common.{◌≡◌, ◌++◌}
use Rattle.std.specs.List.{flat_map}
use Rattle.bt_schema.specs.Grammar.{AreSpellableTables, AreWritableTables}
use Rattle.bt_schema.specs.Spelling.{named, spelling}
use Rattle.bt_schema.proofs.schema.writing.put_tables.Given as goal

-- what is written, and what is left
abbrev pub invariant-loop-table : goal.invariant-loop-table
invariant-loop-table l = record {
  spelled : l.out.items ++ flat_map named l.table-iterator ≡ l.fn.out.items ++ spelling l.tables.entries;
  writable : AreWritableTables l.table-iterator;
  spellable : AreSpellableTables l.table-iterator → AreSpellableTables l.tables.entries;
}
