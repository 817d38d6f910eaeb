use Rattle.std.proofs.Common.{ℕ, List, [], ◌∷◌}
use Rattle.std.proofs.lemmas.Bool.{and_parts}
use Rattle.bt_types.specs.Grammar.{is_family_name}
use Rattle.bt_codec.specs.Lists.{AllFrom}
use Rattle.bt_rules.specs.declared.family.Family.{Family}
use Rattle.bt_entry.specs.Grammar.{IsFamilyBehind, IsNext, is_below, name_of}
use Rattle.bt_schema.specs.Schema.{Schema}
use Rattle.bt_schema.specs.Grammar.{AreSpellableTables, AreWritableTables}
use Rattle.bt_schema.proofs.tests.written_again.Goals as goal

order : (before : List ℕ) (fs : List Family) → AllFrom name_of IsFamilyBehind before fs → AllFrom name_of IsNext before fs
order before [] all = tt
order before (f ∷ fs) all = (((and_parts (is_family_name f.name) (is_below before f.name) all.0.0).1, all.0.1), order f.name fs all.1)

tables : (ts : Schema) → AreSpellableTables ts → AreWritableTables ts
tables [] all = tt
tables (t ∷ ts) all = ((all.0.3, all.0.4, (all.0.5.0, order [] t.1.families all.0.5.1)), tables ts all.1)

-- what was read can be written
pub to_bytes-requires : goal.to_bytes-requires
to_bytes-requires c = let found = c.in-Ok.ensures.found in (found.0.0, tables _ found.0.2)
