-- Rules of collection, where no member is bad (google.bigtable.admin.v2.GcRule).
use Rattle.std.specs.Prelude.{ℕ, zero, suc, ℤ, pos, negsuc, List, [], ◌∷◌, codes, Option, Some, None, option_and_then, unwrap_or}
use Rattle.serde_json.specs.Data.{Data, Items, no_items, item}
use Rattle.bt_rules.specs.declared.rule.Rule.{Rule}
use Rattle.bt_rules.specs.declared.rule.Rule.TheVariants.{Versions, Age, Intersection, Union}
use Rattle.bt_members.specs.Values.{choose, value_at, items_at, int32_or_zero, micros_or_zero}

-- a negative number is read as 0
abbrev pub at_least_zero : ℤ → ℕ
at_least_zero (pos n) = n
at_least_zero (negsuc n) = 0

-- the rules of a list, each read by `read`; one without a kind is an empty union
abbrev pub parts_in : (Data → Option Rule) → Items → List Rule
parts_in read no_items = []
parts_in read (item d ds) = unwrap_or (read d) (Union []) ∷ parts_in read ds

abbrev pub rules_in : (Data → Option Rule) → Data → List Rule
rules_in read d = parts_in read (items_at (codes "rules") d)

-- by the kind that is set, with the rules below it read by `read`
abbrev pub kind_in : (Data → Option Rule) → Data → Option Rule
kind_in read d =
    choose (value_at (codes "maxNumVersions") d) (λ v. Some (Versions (at_least_zero (int32_or_zero v))))
    (choose (value_at (codes "maxAge") d) (λ v. Some (Age (at_least_zero (micros_or_zero v))))
    (choose (value_at (codes "intersection") d) (λ v. Some (Intersection (rules_in read v)))
    (choose (value_at (codes "union") d) (λ v. Some (Union (rules_in read v)))
    None)))

-- the first levels of a rule; what is deeper has no kind
unfoldable pub rule_in : ℕ → Data → Option Rule
rule_in zero d = None
rule_in (suc levels) d = kind_in (rule_in levels) d

-- the rule of a family. A rule of more than 8 levels is never lawful, and neither is an empty union, which may stand for all that is deeper.
abbrev pub rule_of_family : Data → Option Rule
rule_of_family d = option_and_then (rule_in 8) (value_at (codes "gcRule") d)
