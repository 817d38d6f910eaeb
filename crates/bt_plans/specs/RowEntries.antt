-- What is wrong with mutations of a row.
use Rattle.std.specs.Prelude.{ℕ, List, Option, Some, option_map, if◌then◌else◌}
use Rattle.bt_types.specs.Grammar.{is_row_key}
use Rattle.bt_entry.specs.declared.table_info.TableInfo.{TableInfo}
use Rattle.bt_messages.specs.declared.refusal.Refusal.{Refusal}
use Rattle.bt_messages.specs.declared.refusal.Refusal.TheVariants as refusal
use Rattle.bt_mutation.specs.Checks.{list_refusal}
use Rattle.bt_mutation.specs.declared.asked.AskedMutation.{AskedMutation}
use Rattle.bt_mutation.specs.declared.refusal.MutationRefusal.{MutationRefusal}
use Rattle.bt_mutation.specs.declared.refusal.MutationRefusal.TheVariants as mutation

-- a request has at most 100,000 mutations
abbrev pub most_mutations : ℕ
most_mutations = 100000

-- the refusal of a request for one of its mutations
abbrev pub refusal_for : MutationRefusal → Refusal
refusal_for mutation.NoMutations = refusal.NoMutations
refusal_for mutation.TooMany = refusal.TooManyMutations
refusal_for (mutation.Kind index) = refusal.MutationWithoutKind
refusal_for (mutation.UnknownFamily index) = refusal.FamilyNotFound
refusal_for (mutation.LongQualifier index) = refusal.QualifierTooLong
refusal_for (mutation.BadTimestamp index) = refusal.BadTimestamp
refusal_for (mutation.TooLarge index) = refusal.ValueTooLarge
refusal_for (mutation.BadTimeRange index) = refusal.BadTimeRange

-- what is wrong with a row key and with mutations of its row
abbrev pub mutate_refusal : List ℕ → List AskedMutation → TableInfo → Option Refusal
mutate_refusal key ms t =
    if is_row_key key then option_map refusal_for (list_refusal t.families most_mutations ms)
    else Some refusal.BadRowKey
