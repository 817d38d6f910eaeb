-- Entries that can be spelled can be written.
use Rattle.std.proofs.Common.{ℕ, List, [], ◌∷◌}
use Rattle.std.specs.List.{AllByRecursion}
use Rattle.std.proofs.lemmas.Bool.{and_parts}
use Rattle.bt_types.specs.Grammar.{is_family_name}
use Rattle.bt_types.specs.declared.mutation.Mutation.{Mutation}
use Rattle.bt_types.specs.declared.mutation.Mutation.TheVariants.{SetCell, DeleteColumn, DeleteFamily, DeleteRow}
use Rattle.bt_rules.specs.declared.family.Family.{Family}
use Rattle.bt_entry.specs.declared.entry.Entry.{Entry}
use Rattle.bt_entry.specs.declared.entry.Entry.TheVariants.{Row, Create, Delete, Alter, Stream, Floor}
use Rattle.bt_entry.specs.declared.numbered.Numbered.{Numbered}
use Rattle.bt_codec.specs.Lists.{AllFrom}
use Rattle.bt_entry.specs.Grammar.{name_of, is_below, AreSpellableFamilies, AreWritableFamilies, IsFamilyBehind, IsNext, IsSpellableEntry, IsSpellableMutation, IsSpellableNumbered, IsWritableEntry, IsWritableMutation, IsWritableNumbered}

mutations : (ms : List Mutation) → AllByRecursion IsSpellableMutation ms → AllByRecursion IsWritableMutation ms
mutations [] all = tt
mutations (SetCell family qualifier at value ∷ ms) all = (all.0.3, mutations ms all.1)
mutations (DeleteColumn family qualifier start end ∷ ms) all = ((all.0.2, all.0.3), mutations ms all.1)
mutations (DeleteFamily family ∷ ms) all = (tt, mutations ms all.1)
mutations (DeleteRow ∷ ms) all = (tt, mutations ms all.1)

order : (before : List ℕ) (fs : List Family) → AllFrom name_of IsFamilyBehind before fs → AllFrom name_of IsNext before fs
order before [] all = tt
order before (f ∷ fs) all = (((and_parts (is_family_name f.name) (is_below before f.name) all.0.0).1, all.0.1), order f.name fs all.1)

families : (fs : List Family) → AreSpellableFamilies fs → AreWritableFamilies fs
families fs are = (are.0, order [] fs are.1)

pub writable_entry : (e : Entry) → IsSpellableEntry e → IsWritableEntry e
writable_entry (Row incarnation key by_rule ms) is = (is.2.0, is.2.1, mutations ms is.2.2)
writable_entry (Create name fs retention) is = (families fs is.1, is.2)
writable_entry (Delete incarnation) is = tt
writable_entry (Alter incarnation fs) is = families fs is.1
writable_entry (Stream incarnation retention) is = is.1
writable_entry Floor is = tt

pub writable_all : (ns : List Numbered) → AllByRecursion IsSpellableNumbered ns → AllByRecursion IsWritableNumbered ns
writable_all [] all = tt
writable_all (n ∷ ns) all = ((all.0.0, writable_entry n.entry all.0.1), writable_all ns all.1)
