use Rattle.std.proofs.Common.{◌<◌, ◌^◌, length, subst}
use Rattle.bt_schema.specs.Grammar.{AreSpellableTables, IsSpellable}
use Rattle.bt_schema.proofs.Ends.{stand}
use Rattle.bt_schema.proofs.schema.Schema.to_bytes.Goals as goal

-- the tables stand in order, under their own names, and no two have an incarnation
pub returns-clause-spellable : goal.returns-clause-spellable
returns-clause-spellable c =
    let names = c.self.inside.names.entries in
    let tables = c.self.inside.tables.entries in
    let few : length tables < 2 ^ 32 = rw c.self.view_is c.requires.0 in
    let each : AreSpellableTables tables = c.in_ok-put_tables.ensures.spellable in
    subst IsSpellable c.self.view_is (few, stand names tables c.self.invariant.0 c.self.invariant.1 each, each)
