-- What is known of rules by their variants, and how many nodes lists of them have.
use Rattle.std.proofs.Common.{◌≡◌, ℕ, zero, suc, ◌+◌, ◌-◌, ◌^◌, ◌<◌, ◌≤◌, Bool, true, List, [], ◌∷◌, ◌++◌, length, map, take, get_or, refl, sym, ap, subst, ◌∙◌, Err, arith}
use Rattle.std.specs.Prelude.{nat_le, nat_lt}
use Rattle.std.specs.List.{flat_map, fold, sum}
use Rattle.std.specs.Int.{w8, w32, w64, to_be_bytes}
use Rattle.std.proofs.lemmas.Bool.{and_parts, and_from}
use Rattle.std.proofs.lemmas.List.Concat.{flat_map-cons}
use Rattle.std.proofs.lemmas.List.Sums.{sum_by-cons}
use Rattle.bt_rules.specs.declared.rule.Rule.{Rule}
use Rattle.bt_rules.specs.declared.rule.Rule.TheVariants.{Versions, Age, Intersection, Union, rolls-Versions, rolls-Age, rolls-Intersection, rolls-Union}
use Rattle.bt_rules.specs.declared.rule.Rule.TheOpen.{Rule-F}
use Rattle.bt_rules.specs.declared.rule.Rule.TheViews.{roll-Rule}
use Rattle.bt_rules.specs.declared.rule.Rule.TheFolds.{fold-roll-Rule, ind-Rule}
use Rattle.bt_rules.specs.Rules.{count_of, node_count, depth_of, node_depth, greatest, is_well_formed, is_well_formed_node, all_of, all_of_some}
use Rattle.bt_entry.specs.Grammar.{node_fits, rule_fits}
use Rattle.bt_codec.specs.Spelling.{list}
use Rattle.bt_entry.specs.Spelling.{rule, rule_node}
use Rattle.bt_entry.specs.Reading.{left_behind, node_at, rule_at}

-- ---- spelling

lengths : {A B : Type 0} (f : A → B) (xs : List A) → length (map f xs) ≡ length xs
lengths f [] = refl
lengths f (x ∷ xs) = ap suc (lengths f xs)

all_spelled : (rs : List Rule) → flat_map (λ (part : List ℕ). part) (map rule rs) ≡ flat_map rule rs
all_spelled [] = refl
all_spelled (r ∷ rs) = flat_map-cons (λ (part : List ℕ). part) (rule r) (map rule rs) ∙ ap (λ (t : List ℕ). rule r ++ t) (all_spelled rs) ∙ sym (flat_map-cons rule r rs)

list_spelled : (rs : List Rule) → list w8 (λ (part : List ℕ). part) (map rule rs) ≡ list w8 rule rs
list_spelled rs = ap (λ (n : ℕ). to_be_bytes w8 n ++ flat_map (λ (part : List ℕ). part) (map rule rs)) (lengths rule rs) ∙ ap (λ (t : List ℕ). to_be_bytes w8 (length rs) ++ t) (all_spelled rs)

-- ---- leaves

-- what is known of a rule of one node
pub record IsLeaf (r : Rule) (bytes : List ℕ) (lawful narrow : Bool) : Type 0 where
  pub spelled : rule r ≡ bytes
  pub formed : is_well_formed r ≡ lawful
  pub fits : rule_fits r ≡ narrow
  pub depth : depth_of r ≡ 1
  pub count : count_of r ≡ 1

pub versions_leaf : (n : ℕ) → IsLeaf (Versions n) (1 ∷ to_be_bytes w32 n) (nat_le 1 n) (nat_lt n (2 ^ 32))
versions_leaf n = record {
  spelled = ap rule (sym (rolls-Versions n)) ∙ fold-roll-Rule (List ℕ) rule_node (Rule-F.Versions n);
  formed = ap is_well_formed (sym (rolls-Versions n)) ∙ fold-roll-Rule Bool is_well_formed_node (Rule-F.Versions n);
  fits = ap rule_fits (sym (rolls-Versions n)) ∙ fold-roll-Rule Bool node_fits (Rule-F.Versions n);
  depth = ap depth_of (sym (rolls-Versions n)) ∙ fold-roll-Rule ℕ node_depth (Rule-F.Versions n);
  count = ap count_of (sym (rolls-Versions n)) ∙ fold-roll-Rule ℕ node_count (Rule-F.Versions n);
}

pub age_leaf : (n : ℕ) → IsLeaf (Age n) (2 ∷ to_be_bytes w64 n) (nat_le 1000 n) (nat_lt n (2 ^ 64))
age_leaf n = record {
  spelled = ap rule (sym (rolls-Age n)) ∙ fold-roll-Rule (List ℕ) rule_node (Rule-F.Age n);
  formed = ap is_well_formed (sym (rolls-Age n)) ∙ fold-roll-Rule Bool is_well_formed_node (Rule-F.Age n);
  fits = ap rule_fits (sym (rolls-Age n)) ∙ fold-roll-Rule Bool node_fits (Rule-F.Age n);
  depth = ap depth_of (sym (rolls-Age n)) ∙ fold-roll-Rule ℕ node_depth (Rule-F.Age n);
  count = ap count_of (sym (rolls-Age n)) ∙ fold-roll-Rule ℕ node_count (Rule-F.Age n);
}

-- ---- lists

-- what is known of a rule of these parts
pub record IsBranch (tag : ℕ) (r : Rule) (parts : List Rule) : Type 0 where
  pub spelled : rule r ≡ tag ∷ list w8 rule parts
  pub formed : is_well_formed r ≡ all_of_some (map is_well_formed parts)
  pub fits : rule_fits r ≡ all_of (map rule_fits parts)
  pub depth : depth_of r ≡ 1 + greatest (map depth_of parts)
  pub count : count_of r ≡ 1 + sum (map count_of parts)

pub intersection_branch : (parts : List Rule) → IsBranch 3 (Intersection parts) parts
intersection_branch parts = record {
  spelled = ap rule (sym (rolls-Intersection parts)) ∙ fold-roll-Rule (List ℕ) rule_node (Rule-F.Intersection parts) ∙ ap (λ (t : List ℕ). 3 ∷ t) (list_spelled parts);
  formed = ap is_well_formed (sym (rolls-Intersection parts)) ∙ fold-roll-Rule Bool is_well_formed_node (Rule-F.Intersection parts);
  fits = ap rule_fits (sym (rolls-Intersection parts)) ∙ fold-roll-Rule Bool node_fits (Rule-F.Intersection parts);
  depth = ap depth_of (sym (rolls-Intersection parts)) ∙ fold-roll-Rule ℕ node_depth (Rule-F.Intersection parts);
  count = ap count_of (sym (rolls-Intersection parts)) ∙ fold-roll-Rule ℕ node_count (Rule-F.Intersection parts);
}

pub union_branch : (parts : List Rule) → IsBranch 4 (Union parts) parts
union_branch parts = record {
  spelled = ap rule (sym (rolls-Union parts)) ∙ fold-roll-Rule (List ℕ) rule_node (Rule-F.Union parts) ∙ ap (λ (t : List ℕ). 4 ∷ t) (list_spelled parts);
  formed = ap is_well_formed (sym (rolls-Union parts)) ∙ fold-roll-Rule Bool is_well_formed_node (Rule-F.Union parts);
  fits = ap rule_fits (sym (rolls-Union parts)) ∙ fold-roll-Rule Bool node_fits (Rule-F.Union parts);
  depth = ap depth_of (sym (rolls-Union parts)) ∙ fold-roll-Rule ℕ node_depth (Rule-F.Union parts);
  count = ap count_of (sym (rolls-Union parts)) ∙ fold-roll-Rule ℕ node_count (Rule-F.Union parts);
}

-- a rule is a leaf or a list
node_cases : (P : Rule → Type 0) → ((n : ℕ) → P (Versions n)) → ((n : ℕ) → P (Age n)) → ((parts : List Rule) → P (Intersection parts)) → ((parts : List Rule) → P (Union parts)) → (x : Rule-F Rule) → P (roll-Rule x)
node_cases P versions age intersection union (Rule-F.Versions n) = subst P (sym (rolls-Versions n)) (versions n)
node_cases P versions age intersection union (Rule-F.Age n) = subst P (sym (rolls-Age n)) (age n)
node_cases P versions age intersection union (Rule-F.Intersection parts) = subst P (sym (rolls-Intersection parts)) (intersection parts)
node_cases P versions age intersection union (Rule-F.Union parts) = subst P (sym (rolls-Union parts)) (union parts)

pub rule_cases : (P : Rule → Type 0) → ((n : ℕ) → P (Versions n)) → ((n : ℕ) → P (Age n)) → ((parts : List Rule) → P (Intersection parts)) → ((parts : List Rule) → P (Union parts)) → (r : Rule) → P r
rule_cases P versions age intersection union = ind-Rule P (λ x y is. node_cases P versions age intersection union x)

-- ---- nodes

abbrev HasNodes : Rule → Type 0
HasNodes r = 1 ≤ count_of r

pub has_nodes : (r : Rule) → 1 ≤ count_of r
has_nodes = rule_cases HasNodes (λ n. omega (arith, (versions_leaf n).count)) (λ n. omega (arith, (age_leaf n).count)) (λ parts. omega (arith, (intersection_branch parts).count)) (λ parts. omega (arith, (union_branch parts).count))

abbrev HasLevels : Rule → Type 0
HasLevels r = 1 ≤ depth_of r

pub has_levels : (r : Rule) → 1 ≤ depth_of r
has_levels = rule_cases HasLevels (λ n. omega (arith, (versions_leaf n).depth)) (λ n. omega (arith, (age_leaf n).depth)) (λ parts. omega (arith, (intersection_branch parts).depth)) (λ parts. omega (arith, (union_branch parts).depth))

pub counts-cons : (r : Rule) (rs : List Rule) → sum (map count_of (r ∷ rs)) ≡ count_of r + sum (map count_of rs)
counts-cons r rs = sum_by-cons (λ n. n) (count_of r) (map count_of rs)

-- a list has no more rules than they have nodes
pub length_within : (rs : List Rule) → length rs ≤ sum (map count_of rs)
length_within [] = omega arith
length_within (r ∷ rs) = omega (arith, has_nodes r, length_within rs, counts-cons r rs)

pub part_within : (rs : List Rule) (i : ℕ) (r : Rule) → i < length rs → count_of (get_or rs i r) ≤ sum (map count_of rs)
part_within [] i r lt = absurd (omega arith)
part_within (s ∷ rs) zero r lt = omega (arith, counts-cons s rs)
part_within (s ∷ rs) (suc i) r lt = let others = part_within rs i r (omega arith) in omega (arith, others, counts-cons s rs)

-- the nodes that are left behind several rules
pub left_behind_all : (rs : List Rule) (left : ℕ) → fold left_behind left rs ≡ left + length rs - sum (map count_of rs)
left_behind_all [] left = omega arith
left_behind_all (r ∷ rs) left =
    let others : fold left_behind left (r ∷ rs) ≡ left - (count_of r - 1) + length rs - sum (map count_of rs) = left_behind_all rs (left_behind left r) in
    omega (arith, others, has_nodes r, length_within rs, counts-cons r rs)

-- the numbers of rules that were written fit
fit_next : (rs : List Rule) (i : ℕ) (r : Rule) → i < length rs → all_of (map rule_fits (take i rs)) ≡ true → rule_fits (get_or rs i r) ≡ true → all_of (map rule_fits (take (suc i) rs)) ≡ true
fit_next [] i r lt all one = absurd (omega arith)
fit_next (s ∷ rs) zero r lt all one = and_from (rule_fits s) true one refl
fit_next (s ∷ rs) (suc i) r lt all one =
    let parts = and_parts (rule_fits s) (all_of (map rule_fits (take i rs))) all in
    and_from (rule_fits s) (all_of (map rule_fits (take (suc i) rs))) parts.0 (fit_next rs i r (omega arith) parts.1 one)

pub fit_more : (rs : List Rule) (i : ℕ) (r : Rule) → i < length rs → all_of (map rule_fits (take i rs)) ≡ true → rule_fits (get_or rs i r) ≡ true → all_of (map rule_fits (take (i + 1) rs)) ≡ true
fit_more rs i r lt all one = let next : suc i ≡ i + 1 = omega arith in subst (λ (n : ℕ). all_of (map rule_fits (take n rs)) ≡ true) next (fit_next rs i r lt all one)

-- ---- levels that are read

pub no_level : (levels left : ℕ) (bytes : List ℕ) → levels ≡ 0 → rule_at levels left bytes ≡ Err (length bytes)
unfolding rule_at
no_level zero left bytes h = refl
no_level (suc levels) left bytes h = absurd (omega arith)

pub a_level : (levels left : ℕ) (bytes : List ℕ) → 0 < levels → rule_at levels left bytes ≡ node_at (rule_at (levels - 1)) left bytes
unfolding rule_at
a_level zero left bytes h = absurd (omega arith)
a_level (suc levels) left bytes h = let same : suc levels - 1 ≡ levels = omega arith in ap (λ (n : ℕ). node_at (rule_at n) left bytes) (sym same)
