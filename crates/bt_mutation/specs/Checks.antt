-- Which lists of mutations are refused, and for what (google.bigtable.v2.Mutation).
use Rattle.std.specs.Prelude.{◌≡◌, ℕ, ℤ, pos, negsuc, ◌+◌, ◌%◌, ◌≤◌, ◌==◌, ◌||◌, Bool, true, false, not, nat_lt, bytes_eq, List, [], ◌∷◌, length, Option, Some, None, if◌then◌else◌, IsTrue}
use Rattle.std.specs.List.{list_any}
use Rattle.std.specs.Option.{option_or}
use Rattle.bt_types.specs.Grammar.{is_family_name, is_qualifier}
use Rattle.bt_entry.specs.Grammar.{most_of_value}
use Rattle.bt_rules.specs.declared.family.Family.{Family}
use Rattle.bt_mutation.specs.declared.asked.AskedMutation.{AskedMutation}
use Rattle.bt_mutation.specs.declared.asked.AskedMutation.TheVariants.{SetCell, DeleteColumn, DeleteFamily, DeleteRow, Missing}
use Rattle.bt_mutation.specs.declared.refusal.MutationRefusal.{MutationRefusal}
use Rattle.bt_mutation.specs.declared.refusal.MutationRefusal.TheVariants.{NoMutations, TooMany, Kind, UnknownFamily, LongQualifier, BadTimestamp, TooLarge, BadTimeRange}

-- -1, or a multiple of 1,000 from 0 on
abbrev pub is_asked_time : ℤ → Bool
is_asked_time (pos n) = n % 1000 == 0
is_asked_time (negsuc n) = n == 0

-- some family has that name
abbrev pub has_family : List Family → List ℕ → Bool
has_family families name = list_any (λ f. bytes_eq f.name name) families

-- no family has that name
abbrev pub family_refusal : List Family → ℕ → List ℕ → Option MutationRefusal
family_refusal families index family = if has_family families family then None else Some (UnknownFamily index)

-- or else the qualifier is too long
abbrev pub column_refusal : List Family → ℕ → List ℕ → List ℕ → Option MutationRefusal
column_refusal families index family qualifier =
    option_or (family_refusal families index family) (if is_qualifier qualifier then None else Some (LongQualifier index))

abbrev pub is_negative : ℤ → Bool
is_negative (pos n) = false
is_negative (negsuc n) = true

-- the first rule that a mutation breaks; the index is its place in the list
abbrev pub mutation_refusal : List Family → ℕ → AskedMutation → Option MutationRefusal
mutation_refusal families index (SetCell family qualifier at value) =
    option_or (column_refusal families index family qualifier)
    (if not (is_asked_time at) then Some (BadTimestamp index)
    else if nat_lt most_of_value (length value) then Some (TooLarge index)
    else None)
mutation_refusal families index (DeleteColumn family qualifier start end) =
    option_or (column_refusal families index family qualifier)
    (if is_negative start || is_negative end then Some (BadTimeRange index) else None)
mutation_refusal families index (DeleteFamily family) = family_refusal families index family
mutation_refusal families index DeleteRow = None
mutation_refusal families index Missing = Some (Kind index)

-- the first refusal of mutations, the first of which has that index
abbrev pub first_refusal : List Family → ℕ → List AskedMutation → Option MutationRefusal
first_refusal families index [] = None
first_refusal families index (m ∷ ms) = option_or (mutation_refusal families index m) (first_refusal families (index + 1) ms)

-- why a list is refused: for its length, or else for a mutation
abbrev pub list_refusal : List Family → ℕ → List AskedMutation → Option MutationRefusal
list_refusal families at_most list =
    if length list == 0 then Some NoMutations
    else (if nat_lt at_most (length list) then Some TooMany
    else first_refusal families 0 list)

-- what a mutation is that can be resolved
abbrev pub IsResolvable : AskedMutation → Type 0
IsResolvable (SetCell family qualifier at value) = IsTrue (is_family_name family) × IsTrue (is_qualifier qualifier) × IsTrue (is_asked_time at) × (length value ≤ most_of_value)
IsResolvable (DeleteColumn family qualifier start end) = IsTrue (is_family_name family) × IsTrue (is_qualifier qualifier) × (is_negative start ≡ false) × (is_negative end ≡ false)
IsResolvable (DeleteFamily family) = IsTrue (is_family_name family)
IsResolvable DeleteRow = Unit {0}
IsResolvable Missing = ⊥
