-- The one spelling of a batch. Numbers are big-endian.
use Rattle.std.specs.Prelude.{ℕ, Bool, true, false, List, [], ◌∷◌, ◌++◌, Option, Some, None}
use Rattle.std.specs.Int.{w8, w16, w32, w64, to_be_bytes}
use Rattle.bt_codec.specs.Spelling.{text, list}
use Rattle.bt_types.specs.declared.mutation.Mutation.{Mutation}
use Rattle.bt_types.specs.declared.mutation.Mutation.TheVariants.{SetCell, DeleteColumn, DeleteFamily, DeleteRow}
use Rattle.bt_rules.specs.declared.family.Family.{Family}
use Rattle.bt_rules.specs.declared.rule.Rule.{Rule}
use Rattle.bt_rules.specs.declared.rule.Rule.TheOpen.{Rule-F}
use Rattle.bt_rules.specs.declared.rule.Rule.TheFolds.{fold-Rule}
use Rattle.bt_entry.specs.declared.entry.Entry.{Entry}
use Rattle.bt_entry.specs.declared.entry.Entry.TheVariants.{Row, Create, Delete, Alter, Stream, Floor}
use Rattle.bt_entry.specs.declared.numbered.Numbered.{Numbered}

-- a tag, and what it says
abbrev pub mutation : Mutation → List ℕ
mutation (SetCell family qualifier at value) = 1 ∷ (text w8 family ++ (text w16 qualifier ++ (to_be_bytes w64 at ++ text w32 value)))
mutation (DeleteColumn family qualifier start end) = 2 ∷ (text w8 family ++ (text w16 qualifier ++ (to_be_bytes w64 start ++ to_be_bytes w64 end)))
mutation (DeleteFamily family) = 3 ∷ text w8 family
mutation DeleteRow = 4 ∷ []

-- of a rule: a tag, and a number, or how many rules follow
abbrev pub rule_node : Rule-F (List ℕ) → List ℕ
rule_node (Rule-F.Versions count) = 1 ∷ to_be_bytes w32 count
rule_node (Rule-F.Age age) = 2 ∷ to_be_bytes w64 age
rule_node (Rule-F.Intersection parts) = 3 ∷ list w8 (λ part. part) parts
rule_node (Rule-F.Union parts) = 4 ∷ list w8 (λ part. part) parts

abbrev pub rule : Rule → List ℕ
rule = fold-Rule (List ℕ) rule_node

-- tag 0 is for no rule
abbrev pub rule_or_none : Option Rule → List ℕ
rule_or_none None = 0 ∷ []
rule_or_none (Some r) = rule r

-- a name, and its rule
abbrev pub family : Family → List ℕ
family f = text w8 f.name ++ rule_or_none f.rule

-- the tag of a row's entry: changed by a user, or by a rule
abbrev pub row_tag : Bool → ℕ
row_tag false = 1
row_tag true = 2

-- a tag, and what it says
abbrev pub entry : Entry → List ℕ
entry (Row incarnation key by_rule mutations) = row_tag by_rule ∷ (to_be_bytes w64 incarnation ++ (text w16 key ++ list w32 mutation mutations))
entry (Create name families retention) = 3 ∷ (text w16 name ++ (list w16 family families ++ to_be_bytes w64 retention))
entry (Delete incarnation) = 4 ∷ to_be_bytes w64 incarnation
entry (Alter incarnation families) = 5 ∷ (to_be_bytes w64 incarnation ++ list w16 family families)
entry (Stream incarnation retention) = 6 ∷ (to_be_bytes w64 incarnation ++ to_be_bytes w64 retention)
entry Floor = 7 ∷ []

-- a moment, and what happened
abbrev pub numbered : Numbered → List ℕ
numbered n = to_be_bytes w64 n.moment ++ entry n.entry

-- sequences are not in the bytes
abbrev pub spelling : List Numbered → List ℕ
spelling batch = list w32 numbered batch
