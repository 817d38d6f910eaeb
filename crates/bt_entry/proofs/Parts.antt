-- Facts of each family of a list.
use Rattle.std.proofs.Common.{ℕ, List, [], ◌∷◌}
use Rattle.std.specs.Prelude.{IsTrue}
use Rattle.std.specs.List.{AllByRecursion}
use Rattle.std.proofs.lemmas.Bool.{and_from}
use Rattle.bt_types.specs.Grammar.{is_family_name}
use Rattle.bt_rules.specs.declared.family.Family.{Family}
use Rattle.bt_rules.specs.Rules.{is_lawful_or_none}
use Rattle.bt_codec.specs.Lists.{AllFrom}
use Rattle.bt_entry.specs.Grammar.{Ascend, IsFamilyBehind, IsNext, name_of, is_below}

abbrev pub HasLawfulName : Family → Type 0
HasLawfulName f = IsTrue (is_family_name f.name)

abbrev pub HasLawfulRule : Family → Type 0
HasLawfulRule f = IsTrue (is_lawful_or_none f.rule)

-- lawful names in order ascend
ascends : (before : List ℕ) (fs : List Family) → AllFrom name_of IsNext before fs → AllByRecursion HasLawfulName fs → AllFrom name_of IsFamilyBehind before fs
ascends before [] order names = tt
ascends before (f ∷ fs) order names = ((and_from (is_family_name f.name) (is_below before f.name) names.0 order.0.0, order.0.1), ascends f.name fs order.1 names.1)

pub ascend_from : (fs : List Family) → AllFrom name_of IsNext [] fs → AllByRecursion HasLawfulName fs → Ascend fs
ascend_from fs order names = ascends [] fs order names

-- rules of families in order are lawful
pub rules_of : (before : List ℕ) (fs : List Family) → AllFrom name_of IsNext before fs → AllByRecursion HasLawfulRule fs
rules_of before [] order = tt
rules_of before (f ∷ fs) order = (order.0.1, rules_of f.name fs order.1)
