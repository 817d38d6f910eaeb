-- Which batches can be written: all else is outside the format.
use Rattle.std.specs.Prelude.{◌≡◌, ℕ, ◌+◌, ◌<◌, ◌≤◌, ◌^◌, ◌==◌, ◌&&◌, ◌||◌, nat_le, nat_lt, Bool, true, false, Option, Some, None, List, [], length, fold, IsTrue}
use Rattle.std.specs.List.{AllByRecursion}
use Rattle.std.specs.Ordering.{nat_cmp, match_ordering}
use Rattle.std.specs.Cmp.Lexicographic.{slice_cmp}
use Rattle.bt_codec.specs.Lists.{AllFrom}
use Rattle.bt_types.specs.Grammar.{is_row_key, is_qualifier, is_family_name, is_table_name}
use Rattle.bt_types.specs.Time.{is_micros}
use Rattle.bt_types.specs.declared.mutation.Mutation.{Mutation}
use Rattle.bt_types.specs.declared.mutation.Mutation.TheVariants.{SetCell, DeleteColumn, DeleteFamily, DeleteRow}
use Rattle.bt_rules.specs.declared.family.Family.{Family}
use Rattle.bt_rules.specs.declared.rule.Rule.{Rule}
use Rattle.bt_rules.specs.declared.rule.Rule.TheOpen.{Rule-F}
use Rattle.bt_rules.specs.declared.rule.Rule.TheFolds.{fold-Rule}
use Rattle.bt_rules.specs.Rules.{all_of, is_lawful_or_none}
use Rattle.bt_entry.specs.declared.entry.Entry.{Entry}
use Rattle.bt_entry.specs.declared.entry.Entry.TheVariants.{Row, Create, Delete, Alter, Stream, Floor}
use Rattle.bt_entry.specs.declared.numbered.Numbered.{Numbered}

-- 9999-12-31T23:59:59.999999Z in microseconds
abbrev pub last_moment : ℕ
last_moment = 253402300799999999

-- a cell's value has at most 4,194,304 bytes
abbrev pub most_of_value : ℕ
most_of_value = 4194304

-- a table has at most 100 families
abbrev pub most_families : ℕ
most_families = 100

-- the start and the end of the times that are removed of a column are at most this
abbrev pub last_time : ℕ
last_time = 9223372036854775807

-- changes are kept for streams for one to seven days, in microseconds
abbrev pub is_lawful_retention : ℕ → Bool
is_lawful_retention r = nat_le 86400000000 r && nat_le r 604800000000

-- 0 is for no stream
abbrev pub is_retention : ℕ → Bool
is_retention r = r == 0 || is_lawful_retention r

-- the first bytes come before the second
abbrev pub is_below : List ℕ → List ℕ → Bool
is_below a b = match_ordering (slice_cmp nat_cmp a b) true false false

-- a lawful name that comes behind the one before it; the first one stands behind no bytes
abbrev pub is_family_behind : List ℕ → List ℕ → Bool
is_family_behind before name = is_family_name name && is_below before name

-- the same of the name of a table
abbrev pub is_table_behind : List ℕ → List ℕ → Bool
is_table_behind before name = is_table_name name && is_below before name

abbrev pub IsSpellableMutation : Mutation → Type 0
IsSpellableMutation (SetCell family qualifier at value) = IsTrue (is_family_name family) × IsTrue (is_qualifier qualifier) × IsTrue (is_micros at) × (length value ≤ most_of_value)
IsSpellableMutation (DeleteColumn family qualifier start end) = IsTrue (is_family_name family) × IsTrue (is_qualifier qualifier) × (start ≤ last_time) × (end ≤ last_time)
IsSpellableMutation (DeleteFamily family) = IsTrue (is_family_name family)
IsSpellableMutation DeleteRow = Unit {0}

-- the name of a family, where the next one has to be above it
abbrev pub name_of : List ℕ → Family → List ℕ
name_of before f = f.name

-- a family that comes behind that name, with a lawful rule or none
abbrev pub IsFamilyBehind : List ℕ → Family → Type 0
IsFamilyBehind before f = IsTrue (is_family_behind before f.name) × IsTrue (is_lawful_or_none f.rule)

-- names ascend strictly, and rules are lawful
abbrev pub Ascend : List Family → Type 0
Ascend fs = AllFrom name_of IsFamilyBehind [] fs

-- not too many of them
abbrev pub AreSpellableFamilies : List Family → Type 0
AreSpellableFamilies fs = (length fs ≤ most_families) × Ascend fs

-- the name of the last family, or no bytes
abbrev pub last_name : List Family → List ℕ
last_name fs = fold name_of [] fs

abbrev pub IsSpellableMutations : List Mutation → Type 0
IsSpellableMutations mutations = (1 ≤ length mutations) × (length mutations < 2 ^ 32) × AllByRecursion IsSpellableMutation mutations

abbrev pub IsSpellableEntry : Entry → Type 0
IsSpellableEntry (Row incarnation key by_rule mutations) =
    (incarnation < 2 ^ 64) × IsTrue (is_row_key key) × IsSpellableMutations mutations
IsSpellableEntry (Create name families retention) = IsTrue (is_table_name name) × AreSpellableFamilies families × IsTrue (is_retention retention)
IsSpellableEntry (Delete incarnation) = incarnation < 2 ^ 64
IsSpellableEntry (Alter incarnation families) = (incarnation < 2 ^ 64) × AreSpellableFamilies families
IsSpellableEntry (Stream incarnation retention) = (incarnation < 2 ^ 64) × IsTrue (is_retention retention)
IsSpellableEntry Floor = Unit {0}

abbrev pub IsSpellableNumbered : Numbered → Type 0
IsSpellableNumbered n = (n.moment ≤ last_moment) × IsSpellableEntry n.entry

-- a number of versions and an age fit their types
abbrev pub node_fits : Rule-F Bool → Bool
node_fits (Rule-F.Versions count) = nat_lt count (2 ^ 32)
node_fits (Rule-F.Age age) = nat_lt age (2 ^ 64)
node_fits (Rule-F.Intersection parts) = all_of parts
node_fits (Rule-F.Union parts) = all_of parts

-- each number of the rule does
abbrev pub rule_fits : Rule → Bool
rule_fits = fold-Rule Bool node_fits

-- without a rule there is none
abbrev pub rule_or_none_fits : Option Rule → Bool
rule_or_none_fits None = true
rule_or_none_fits (Some rule) = rule_fits rule

-- each number of each family's rule does
abbrev pub RulesFit : List Family → Type 0
RulesFit fs = AllByRecursion (λ f. IsTrue (rule_or_none_fits f.rule)) fs

-- the numbers of its rules fit their types, as those of a program's values do
abbrev pub RulesFitIn : Entry → Type 0
RulesFitIn (Create name families retention) = RulesFit families
RulesFitIn (Alter incarnation families) = RulesFit families
RulesFitIn e = Unit {0}

-- at least one entry, and each can be written
abbrev pub IsSpellable : List Numbered → Type 0
IsSpellable batch = (1 ≤ length batch) × (length batch < 2 ^ 32) × AllByRecursion IsSpellableNumbered batch × AllByRecursion (λ n. RulesFitIn n.entry) batch

-- the number of the next entry
abbrev pub next_sequence : ℕ → Numbered → ℕ
next_sequence s n = s + 1

-- entries are numbered on from the first
abbrev pub AreNumbered : ℕ → List Numbered → Type 0
AreNumbered first batch = AllFrom next_sequence (λ s n. n.sequence ≡ s) first batch

-- What is asked of a writer: names, keys and timestamps are lawful by their types.
-- values are not too long, and no time is too great
abbrev pub IsWritableMutation : Mutation → Type 0
IsWritableMutation (SetCell family qualifier at value) = length value ≤ most_of_value
IsWritableMutation (DeleteColumn family qualifier start end) = (start ≤ last_time) × (end ≤ last_time)
IsWritableMutation (DeleteFamily family) = Unit {0}
IsWritableMutation DeleteRow = Unit {0}

abbrev pub IsWritableMutations : List Mutation → Type 0
IsWritableMutations mutations = (1 ≤ length mutations) × (length mutations < 2 ^ 32) × AllByRecursion IsWritableMutation mutations

-- the name is above that one, and the rule lawful
abbrev pub IsNext : List ℕ → Family → Type 0
IsNext before f = IsTrue (is_below before f.name) × IsTrue (is_lawful_or_none f.rule)

-- not too many, each name above the one before it, with lawful rules
abbrev pub AreWritableFamilies : List Family → Type 0
AreWritableFamilies fs = (length fs ≤ most_families) × AllFrom name_of IsNext [] fs

abbrev pub IsWritableEntry : Entry → Type 0
IsWritableEntry (Row incarnation key by_rule mutations) = IsWritableMutations mutations
IsWritableEntry (Create name families retention) = AreWritableFamilies families × IsTrue (is_retention retention)
IsWritableEntry (Delete incarnation) = Unit {0}
IsWritableEntry (Alter incarnation families) = AreWritableFamilies families
IsWritableEntry (Stream incarnation retention) = IsTrue (is_retention retention)
IsWritableEntry Floor = Unit {0}

abbrev pub IsWritableNumbered : Numbered → Type 0
IsWritableNumbered n = (n.moment ≤ last_moment) × IsWritableEntry n.entry

-- at least one entry, and each within its limits
abbrev pub IsWritable : List Numbered → Type 0
IsWritable batch = (1 ≤ length batch) × (length batch < 2 ^ 32) × AllByRecursion IsWritableNumbered batch
