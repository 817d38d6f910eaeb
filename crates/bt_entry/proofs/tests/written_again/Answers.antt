use Rattle.std.proofs.Common.{ℕ, List, [], ◌∷◌}
use Rattle.std.specs.List.{AllByRecursion}
use Rattle.std.proofs.lemmas.Bool.{and_parts}
use Rattle.bt_types.specs.Grammar.{is_family_name}
use Rattle.bt_types.specs.declared.mutation.Mutation.{Mutation}
use Rattle.bt_types.specs.declared.mutation.Mutation.TheVariants.{SetCell, DeleteColumn, DeleteFamily, DeleteRow}
use Rattle.bt_rules.specs.declared.family.Family.{Family}
use Rattle.bt_entry.specs.declared.entry.Entry.{Entry}
use Rattle.bt_entry.specs.declared.entry.Entry.TheVariants.{Row, Create, Delete, Alter, Stream, Floor}
use Rattle.bt_entry.specs.declared.numbered.Numbered.{Numbered}
use Rattle.bt_codec.specs.Lists.{AllFrom}
use Rattle.bt_entry.specs.Grammar.{name_of, is_below, IsNext, IsFamilyBehind, IsSpellableEntry, IsSpellableMutation, IsSpellableNumbered, IsWritableEntry, IsWritableMutation, IsWritableNumbered}
use Rattle.bt_entry.proofs.tests.written_again.Goals as goal

mutation : (m : Mutation) → IsSpellableMutation m → IsWritableMutation m
mutation (SetCell family qualifier at value) is = is.3
mutation (DeleteColumn family qualifier start end) is = (is.2, is.3)
mutation (DeleteFamily family) is = tt
mutation DeleteRow is = tt

mutations : (ms : List Mutation) → AllByRecursion IsSpellableMutation ms → AllByRecursion IsWritableMutation ms
mutations [] all = tt
mutations (m ∷ ms) all = (mutation m all.0, mutations ms all.1)

order : (before : List ℕ) (fs : List Family) → AllFrom name_of IsFamilyBehind before fs → AllFrom name_of IsNext before fs
order before [] all = tt
order before (f ∷ fs) all = (((and_parts (is_family_name f.name) (is_below before f.name) all.0.0).1, all.0.1), order f.name fs all.1)

entry : (e : Entry) → IsSpellableEntry e → IsWritableEntry e
entry (Row incarnation key by_rule ms) is = (is.2.0, is.2.1, mutations ms is.2.2)
entry (Create name families retention) is = ((is.1.0, order [] families is.1.1), is.2)
entry (Delete incarnation) is = tt
entry (Alter incarnation families) is = (is.1.0, order [] families is.1.1)
entry (Stream incarnation retention) is = is.1
entry Floor is = tt

entries : (batch : List Numbered) → AllByRecursion IsSpellableNumbered batch → AllByRecursion IsWritableNumbered batch
entries [] all = tt
entries (n ∷ ns) all = ((all.0.0, entry n.entry all.0.1), entries ns all.1)

-- what was read can be written
pub write_batch-requires : goal.write_batch-requires
write_batch-requires c = let found = c.in-Ok.ensures.found in (found.0.0, found.0.1, entries _ found.0.2)
