-- Which lists of rules are refused, and for what (google.bigtable.v2.ReadModifyWriteRowRequest.rules).
use Rattle.std.specs.Prelude.{◌≡◌, ℕ, ◌+◌, ◌==◌, nat_lt, true, List, [], ◌∷◌, length, Option, Some, None, Result, Ok, Err, if◌then◌else◌, is_none, IsSome, IsTrue}
use Rattle.std.specs.Option.{option_or}
use Rattle.bt_types.specs.Grammar.{is_family_name, is_qualifier}
use Rattle.bt_rules.specs.declared.family.Family.{Family}
use Rattle.bt_mutation.specs.Checks.{has_family}
use Rattle.bt_rmw.specs.declared.asked.AskedRule.{AskedRule}
use Rattle.bt_rmw.specs.declared.column.Column.{Column}
use Rattle.bt_rmw.specs.declared.refusal.ModifyRefusal.{ModifyRefusal}
use Rattle.bt_rmw.specs.declared.refusal.ModifyRefusal.TheVariants as modify
use Rattle.bt_rmw.specs.declared.refusal.RulesRefusal.{RulesRefusal}
use Rattle.bt_rmw.specs.declared.refusal.RulesRefusal.TheVariants.{NoRules, TooMany, Kind, UnknownFamily, LongQualifier, OutOfMemory}
use Rattle.bt_rmw.specs.declared.rule.Action.{Action}
use Rattle.bt_rmw.specs.declared.rule.ModifyRule.{ModifyRule}

-- the first thing that is wrong with a rule; the index is its place in the list
abbrev pub rule_refusal : List Family → ℕ → AskedRule → Option RulesRefusal
rule_refusal families index rule =
    option_or (if is_none rule.action then Some (Kind index) else None)
    (option_or (if has_family families rule.family then None else Some (UnknownFamily index))
    (if is_qualifier rule.qualifier then None else Some (LongQualifier index)))

-- nothing is wrong with the rule
pub record IsLawfulRule (families : List Family) (rule : AskedRule) : Type 0 where
  pub kind : IsSome rule.action
  pub known : has_family families rule.family ≡ true
  pub family : IsTrue (is_family_name rule.family)
  pub qualifier : IsTrue (is_qualifier rule.qualifier)

-- the first rule that something is wrong with
abbrev pub first_refusal : List Family → ℕ → List AskedRule → Option RulesRefusal
first_refusal families index [] = None
first_refusal families index (rule ∷ rules) = option_or (rule_refusal families index rule) (first_refusal families (index + 1) rules)

-- what is wrong with a list of rules
abbrev pub rules_refusal : List Family → ℕ → List AskedRule → Option RulesRefusal
rules_refusal families at_most rules =
    if length rules == 0 then Some NoRules
    else if nat_lt at_most (length rules) then Some TooMany
    else first_refusal families 0 rules

abbrev pub with_action : AskedRule → Option Action → List ModifyRule → List ModifyRule
with_action rule None rules = rules
with_action rule (Some action) rules = record { family = rule.family; qualifier = rule.qualifier; action = action } ∷ rules

-- the rules that have a kind, in order
abbrev pub rules_of : List AskedRule → List ModifyRule
rules_of [] = []
rules_of (rule ∷ rules) = with_action rule rule.action (rules_of rules)

-- the list is refused for that, or for want of memory
abbrev pub RefusesRules : {A : Type 0} → Option RulesRefusal → Result A RulesRefusal → Type 0
RefusesRules why (Ok x) = why ≡ None
RefusesRules why (Err NoRules) = why ≡ Some NoRules
RefusesRules why (Err TooMany) = why ≡ Some TooMany
RefusesRules why (Err (Kind index)) = why ≡ Some (Kind index)
RefusesRules why (Err (UnknownFamily index)) = why ≡ Some (UnknownFamily index)
RefusesRules why (Err (LongQualifier index)) = why ≡ Some (LongQualifier index)
RefusesRules why (Err OutOfMemory) = Unit {0}

-- a rule's column
abbrev pub column_of : ModifyRule → Column
column_of rule = record { family = rule.family; qualifier = rule.qualifier }

-- the rules are refused for that, or for want of memory
abbrev pub RefusesToModify : {A : Type 0} → Result A ModifyRefusal → ModifyRefusal → Type 0
RefusesToModify answer (modify.NotEightBytes index) = answer ≡ Err (modify.NotEightBytes index)
RefusesToModify answer (modify.IncrementRange index) = answer ≡ Err (modify.IncrementRange index)
RefusesToModify answer (modify.ValueTooLarge index) = answer ≡ Err (modify.ValueTooLarge index)
RefusesToModify answer modify.OutOfMemory = Unit {0}
