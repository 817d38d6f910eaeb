-- The two laws of rules, for each number of levels and of nodes that are left.
use Rattle.std.proofs.Common.{◌≡◌, ℕ, zero, suc, ◌+◌, ◌-◌, ◌^◌, ◌<◌, ◌≤◌, Bool, true, false, ◌&&◌, cond, eqb, List, [], ◌∷◌, ◌++◌, length, map, Option, Some, None, Ok, Err, refl, sym, ap, subst, ◌∙◌, append_assoc, arith, inl, inr}
use Rattle.std.specs.Prelude.{nat_le, nat_lt, ◌%◌, IsTrue}
use Rattle.std.specs.List.{flat_map, sum}
use Rattle.std.specs.Int.{w8, w32, w64, to_be_bytes}
use Rattle.std.proofs.Math.Nat.{le-max_left, le-max_right, max-le}
use Rattle.std.proofs.lemmas.Bool.{and_parts, and_from, ltb-true, lt-ltb, leb-true, le-leb, ne_eqb}
use Rattle.bt_rules.specs.declared.rule.Rule.{Rule}
use Rattle.bt_rules.specs.declared.rule.Rule.TheVariants.{Versions, Age, Intersection, Union}
use Rattle.bt_rules.specs.Rules.{count_of, depth_of, greatest, is_well_formed, is_lawful_or_none, all_of, all_of_some}
use Rattle.bt_codec.specs.Lists.{AllFrom}
use Rattle.bt_entry.specs.Grammar.{rule_fits, rule_or_none_fits}
use Rattle.bt_codec.specs.Spelling.{list}
use Rattle.bt_entry.specs.Spelling.{rule, rule_or_none}
use Rattle.bt_codec.specs.Reading.{◌>>=◌, Reads, number_at, number_with, many_at}
use Rattle.bt_entry.specs.Reading.{versions_at, age_at, left_behind, parts_at, node_at, rule_at, rule_or_none_at}
use Rattle.bt_codec.proofs.Codecs.{IsBytes, bind_ok, chosen, ok_is, Takes, Takes-then, Taking, ReadAgain, IsCodec, wide8, wide32, wide64, tested_codec, u8_codec, by_tag, no_value, behind, tagged}
use Rattle.bt_codec.proofs.Many.{many_take, many_again}
use Rattle.bt_entry.proofs.RuleTrees.{IsLeaf, IsBranch, versions_leaf, age_leaf, intersection_branch, union_branch, rule_cases, has_nodes, has_levels, length_within, counts-cons}

-- a rule of so many levels, where so many further nodes are left
pub record FitsRule (levels left : ℕ) (r : Rule) : Type 0 where
  pub formed : is_well_formed r ≡ true
  pub fits : rule_fits r ≡ true
  pub depth : depth_of r ≤ levels
  pub count : count_of r ≤ left + 1

-- rules of so many levels and nodes
record FitRules (levels nodes : ℕ) (rs : List Rule) : Type 0 where
  pub formed : all_of (map is_well_formed rs) ≡ true
  pub fits : all_of (map rule_fits rs) ≡ true
  pub depth : greatest (map depth_of rs) ≤ levels
  pub count : sum (map count_of rs) ≤ nodes

each_within : (levels : ℕ) (rs : List Rule) (left : ℕ) → AllFrom left_behind (FitsRule levels) left rs → FitRules levels (left + length rs) rs
each_within levels [] left each = record { formed = refl; fits = refl; depth = omega arith; count = omega arith }
each_within levels (r ∷ rs) left each =
    let first : FitsRule levels left r = each.0 in
    let others : FitRules levels (left - (count_of r - 1) + length rs) rs = each_within levels rs (left_behind left r) each.1 in
    record {
      formed = and_from (is_well_formed r) (all_of (map is_well_formed rs)) first.formed others.formed;
      fits = and_from (rule_fits r) (all_of (map rule_fits rs)) first.fits others.fits;
      depth = max-le first.depth others.depth;
      count = omega (arith, counts-cons r rs, first.count, others.count, has_nodes r);
    }

-- where the count of a list has one byte
abbrev FitsByte : ℕ → ℕ → Rule → Type 0
FitsByte levels left r = FitsRule levels left r × (left < 256)

within_each : (levels : ℕ) (rs : List Rule) (left : ℕ) → left < 256 → FitRules levels (left + length rs) rs → AllFrom left_behind (FitsByte levels) left rs
within_each levels [] left small all = tt
within_each levels (r ∷ rs) left small all =
    let formed = and_parts (is_well_formed r) (all_of (map is_well_formed rs)) all.formed in
    let fits = and_parts (rule_fits r) (all_of (map rule_fits rs)) all.fits in
    let here : depth_of r ≤ levels = omega (arith, all.depth, le-max_left (depth_of r) (greatest (map depth_of rs))) in
    let below : greatest (map depth_of rs) ≤ levels = omega (arith, all.depth, le-max_right (depth_of r) (greatest (map depth_of rs))) in
    let first : FitsRule levels left r = record { formed = formed.0; fits = fits.0; depth = here; count = omega (arith, counts-cons r rs, all.count, length_within rs) } in
    let others : FitRules levels (left - (count_of r - 1) + length rs) rs = record { formed = formed.1; fits = fits.1; depth = below; count = omega (arith, counts-cons r rs, all.count, has_nodes r, length_within rs) } in
    ((first, small), within_each levels rs (left_behind left r) (omega (arith, small)) others)

-- a list with rules in it
some_formed : (rs : List Rule) → 1 ≤ length rs → all_of (map is_well_formed rs) ≡ true → all_of_some (map is_well_formed rs) ≡ true
some_formed [] some all = absurd (omega arith)
some_formed (r ∷ rs) some all = all

formed_some : (rs : List Rule) → all_of_some (map is_well_formed rs) ≡ true → (1 ≤ length rs) × (all_of (map is_well_formed rs) ≡ true)
formed_some [] all = absurd cc
formed_some (r ∷ rs) all = (omega arith, all)

abbrev in_list : ℕ → ℕ → Bool
in_list left n = nat_le 1 n && nat_le n left

parts_take : (levels : ℕ) (read : ℕ → List ℕ → Reads Rule) → ((left : ℕ) → Taking (read left) rule (FitsRule levels left)) → (left : ℕ) (bytes : List ℕ) (rs : List Rule) (rest : List ℕ) → IsBytes bytes → parts_at read left bytes ≡ Ok (rs, rest)
    → Takes bytes (list w8 rule rs) rest × (1 ≤ length rs) × FitRules levels left rs
unfolding parts_at
parts_take levels read taking left bytes rs rest fits e =
    let a = bind_ok (number_with w8 (in_list left) bytes) (λ n. many_at read left_behind (left - n.0) n.0 n.1) (rs, rest) e in
    let n = a.0.0 in
    let first = (tested_codec w8 (2 ^ 8) wide8 (in_list left)).takes bytes n a.0.1 fits a.1 in
    let second = many_take read left_behind rule (FitsRule levels) taking n (left - n) a.0.1 (rs, rest) first.0.rest_fits a.2 in
    let both = Takes-then bytes (to_be_bytes w8 n) a.0.1 (flat_map rule rs) rest first.0 second.0 in
    let among = and_parts (nat_le 1 n) (nat_le n left) first.1.1 in
    let some : 1 ≤ n = leb-true _ _ among.0 in
    let few : n ≤ left = leb-true _ _ among.1 in
    let counted : length rs ≡ n = second.1 in
    let nodes : left - n + length rs ≡ left = omega arith in
    (subst (λ (k : ℕ). Takes bytes (to_be_bytes w8 k ++ flat_map rule rs) rest) (sym counted) both, omega arith, subst (λ (k : ℕ). FitRules levels k rs) nodes (each_within levels rs (left - n) second.2))

parts_again : (levels : ℕ) (read : ℕ → List ℕ → Reads Rule) → ((left : ℕ) → ReadAgain (read left) rule (FitsByte levels left)) → (left : ℕ) → left < 256 → (rs : List Rule) (rest : List ℕ) → 1 ≤ length rs → FitRules levels left rs
    → parts_at read left (list w8 rule rs ++ rest) ≡ Ok (rs, rest)
unfolding parts_at
parts_again levels read again left small rs rest some all =
    let regrouped : list w8 rule rs ++ rest ≡ to_be_bytes w8 (length rs) ++ (flat_map rule rs ++ rest) = append_assoc (to_be_bytes w8 (length rs)) (flat_map rule rs) rest in
    let few : length rs ≤ left = omega (arith, length_within rs, all.count) in
    let among : in_list left (length rs) ≡ true = and_from _ _ (le-leb _ _ some) (le-leb _ _ few) in
    let nodes : left ≡ left - length rs + length rs = omega arith in
    let each : AllFrom left_behind (FitsByte levels) (left - length rs) rs = within_each levels rs (left - length rs) (omega arith) (subst (λ (k : ℕ). FitRules levels k rs) nodes all) in
    ap (parts_at read left) regrouped ∙ rw ((tested_codec w8 (2 ^ 8) wide8 (in_list left)).again (length rs) (flat_map rule rs ++ rest) (omega arith, among)) (many_again read left_behind rule (FitsByte levels) again rs (left - length rs) rest each)

-- ---- what is read is spelled so

abbrev some : ℕ → Bool
some n = nat_le 1 n

abbrev is_age : ℕ → Bool
is_age n = nat_le 1000 n

versions_codec : IsCodec (number_with w32 some) (to_be_bytes w32) (λ n. (n < 2 ^ 32) × (some n ≡ true))
versions_codec = tested_codec w32 (2 ^ 32) wide32 some

age_codec : IsCodec (number_with w64 is_age) (to_be_bytes w64) (λ n. (n < 2 ^ 64) × (is_age n ≡ true))
age_codec = tested_codec w64 (2 ^ 64) wide64 is_age

leaf_fits : (levels left : ℕ) (r : Rule) (bytes : List ℕ) (lawful narrow : Bool) → IsLeaf r bytes lawful narrow → lawful ≡ true → narrow ≡ true → FitsRule (suc levels) left r
leaf_fits levels left r bytes lawful narrow leaf a b = record { formed = leaf.formed ∙ a; fits = leaf.fits ∙ b; depth = omega (arith, leaf.depth); count = omega (arith, leaf.count) }

branch_fits : (levels left tag : ℕ) (r : Rule) (rs : List Rule) → IsBranch tag r rs → 1 ≤ length rs → FitRules levels left rs → FitsRule (suc levels) left r
branch_fits levels left tag r rs branch some all = record {
  formed = branch.formed ∙ some_formed rs some all.formed;
  fits = branch.fits ∙ all.fits;
  depth = omega (arith, branch.depth, all.depth);
  count = omega (arith, branch.count, all.count);
}

versions_take : (levels left : ℕ) (bytes : List ℕ) (x : Rule) (rest : List ℕ) → IsBytes bytes → versions_at bytes ≡ Ok (x, rest) → Takes (1 ∷ bytes) (rule x) rest × FitsRule (suc levels) left x
unfolding versions_at
versions_take levels left bytes x rest fits e =
    let a = bind_ok (number_with w32 some bytes) (λ n. Ok (Versions n.0, n.1)) (x, rest) e in
    let t = versions_codec.takes bytes a.0.0 a.0.1 fits a.1 in
    let leaf = versions_leaf a.0.0 in
    let made : Rule × List ℕ = (Versions a.0.0, a.0.1) in
    let whole : Takes (1 ∷ bytes) (rule (Versions a.0.0)) a.0.1 = subst (λ (w : List ℕ). Takes (1 ∷ bytes) w a.0.1) (sym leaf.spelled) (behind 1 bytes (to_be_bytes w32 a.0.0) a.0.1 t.0) in
    subst (λ (y : Rule × List ℕ). Takes (1 ∷ bytes) (rule y.0) y.1 × FitsRule (suc levels) left y.0) (ok_is made (x, rest) a.2)
    (whole, leaf_fits levels left (Versions a.0.0) (1 ∷ to_be_bytes w32 a.0.0) (nat_le 1 a.0.0) (nat_lt a.0.0 (2 ^ 32)) leaf t.1.1 (lt-ltb _ _ t.1.0))

age_take : (levels left : ℕ) (bytes : List ℕ) (x : Rule) (rest : List ℕ) → IsBytes bytes → age_at bytes ≡ Ok (x, rest) → Takes (2 ∷ bytes) (rule x) rest × FitsRule (suc levels) left x
unfolding age_at
age_take levels left bytes x rest fits e =
    let a = bind_ok (number_with w64 is_age bytes) (λ n. Ok (Age n.0, n.1)) (x, rest) e in
    let t = age_codec.takes bytes a.0.0 a.0.1 fits a.1 in
    let leaf = age_leaf a.0.0 in
    let made : Rule × List ℕ = (Age a.0.0, a.0.1) in
    let whole : Takes (2 ∷ bytes) (rule (Age a.0.0)) a.0.1 = subst (λ (w : List ℕ). Takes (2 ∷ bytes) w a.0.1) (sym leaf.spelled) (behind 2 bytes (to_be_bytes w64 a.0.0) a.0.1 t.0) in
    subst (λ (y : Rule × List ℕ). Takes (2 ∷ bytes) (rule y.0) y.1 × FitsRule (suc levels) left y.0) (ok_is made (x, rest) a.2)
    (whole, leaf_fits levels left (Age a.0.0) (2 ∷ to_be_bytes w64 a.0.0) (nat_le 1000 a.0.0) (nat_lt a.0.0 (2 ^ 64)) leaf t.1.1 (lt-ltb _ _ t.1.0))

abbrev branch_of : (List Rule → Rule) → Reads (List Rule) → Reads Rule
branch_of node read = read >>= λ parts. Ok (node parts.0, parts.1)

branch_take : (tag : ℕ) (node : List Rule → Rule) → ((rs : List Rule) → IsBranch tag (node rs) rs) → (levels : ℕ) (read : ℕ → List ℕ → Reads Rule) → ((left : ℕ) → Taking (read left) rule (FitsRule levels left)) → (left : ℕ) (bytes : List ℕ) (x : Rule) (rest : List ℕ) → IsBytes bytes
    → branch_of node (parts_at read left bytes) ≡ Ok (x, rest) → Takes (tag ∷ bytes) (rule x) rest × FitsRule (suc levels) left x
branch_take tag node known levels read taking left bytes x rest fits e =
    let a = bind_ok (parts_at read left bytes) (λ parts. Ok (node parts.0, parts.1)) (x, rest) e in
    let t = parts_take levels read taking left bytes a.0.0 a.0.1 fits a.1 in
    let branch = known a.0.0 in
    let made : Rule × List ℕ = (node a.0.0, a.0.1) in
    let whole : Takes (tag ∷ bytes) (rule (node a.0.0)) a.0.1 = subst (λ (w : List ℕ). Takes (tag ∷ bytes) w a.0.1) (sym branch.spelled) (behind tag bytes (list w8 rule a.0.0) a.0.1 t.0) in
    subst (λ (y : Rule × List ℕ). Takes (tag ∷ bytes) (rule y.0) y.1 × FitsRule (suc levels) left y.0) (ok_is made (x, rest) a.2)
    (whole, branch_fits levels left tag (node a.0.0) a.0.0 branch t.1 t.2)

node_take : (levels : ℕ) (read : ℕ → List ℕ → Reads Rule) → ((left : ℕ) → Taking (read left) rule (FitsRule levels left)) → (left : ℕ) (bytes : List ℕ) (x : Rule) (rest : List ℕ) → IsBytes bytes → node_at read left bytes ≡ Ok (x, rest) → Takes bytes (rule x) rest × FitsRule (suc levels) left x
unfolding node_at
node_take levels read taking left bytes x rest fits e =
    let both : List ℕ → Reads Rule = λ after. branch_of (λ rs. Intersection rs) (parts_at read left after) in
    let any : List ℕ → Reads Rule = λ after. branch_of (λ rs. Union rs) (parts_at read left after) in
    let a = bind_ok (number_at w8 bytes) (λ t. cond (eqb t.0 1) (versions_at t.1) (cond (eqb t.0 2) (age_at t.1) (cond (eqb t.0 3) (both t.1) (cond (eqb t.0 4) (any t.1) (Err (length bytes)))))) (x, rest) e in
    let b = a.0.0 in
    let after = a.0.1 in
    let t = u8_codec.takes bytes b after fits a.1 in
    let after_fits = t.0.rest_fits in
    let Fits : Rule → Type 0 = FitsRule (suc levels) left in
    by_tag rule Fits bytes after b 1 (versions_at after) _ x rest t.0 (omega arith) (λ h. versions_take levels left after x rest after_fits h)
    (λ e2. by_tag rule Fits bytes after b 2 (age_at after) _ x rest t.0 (omega arith) (λ h. age_take levels left after x rest after_fits h)
    (λ e3. by_tag rule Fits bytes after b 3 (both after) _ x rest t.0 (omega arith) (λ h. branch_take 3 (λ rs. Intersection rs) intersection_branch levels read taking left after x rest after_fits h)
    (λ e4. by_tag rule Fits bytes after b 4 (any after) _ x rest t.0 (omega arith) (λ h. branch_take 4 (λ rs. Union rs) union_branch levels read taking left after x rest after_fits h)
    (λ e5. no_value (length bytes) (x, rest) _ e5) e4) e3) e2) a.2

pub rule_take : (levels left : ℕ) → Taking (rule_at levels left) rule (FitsRule levels left)
unfolding rule_at
rule_take zero left bytes x rest fits e = no_value (length bytes) (x, rest) _ e
rule_take (suc levels) left bytes x rest fits e = node_take levels (rule_at levels) (rule_take levels) left bytes x rest fits e

-- ---- what is spelled is read

versions_again : (n : ℕ) (rest : List ℕ) → n < 2 ^ 32 → some n ≡ true → versions_at (to_be_bytes w32 n ++ rest) ≡ Ok (Versions n, rest)
unfolding versions_at
versions_again n rest lt h = rw (versions_codec.again n rest (lt, h)) refl

age_again : (n : ℕ) (rest : List ℕ) → n < 2 ^ 64 → is_age n ≡ true → age_at (to_be_bytes w64 n ++ rest) ≡ Ok (Age n, rest)
unfolding age_at
age_again n rest lt h = rw (age_codec.again n rest (lt, h)) refl

versions_node : (read : ℕ → List ℕ → Reads Rule) (left : ℕ) (t : List ℕ) → node_at read left (1 ∷ t) ≡ versions_at t
unfolding node_at
versions_node read left t = rw (u8_codec.again 1 t (omega arith)) refl

age_node : (read : ℕ → List ℕ → Reads Rule) (left : ℕ) (t : List ℕ) → node_at read left (2 ∷ t) ≡ age_at t
unfolding node_at
age_node read left t = rw (u8_codec.again 2 t (omega arith)) refl

intersection_node : (read : ℕ → List ℕ → Reads Rule) (left : ℕ) (t rest : List ℕ) (rs : List Rule) → parts_at read left t ≡ Ok (rs, rest) → node_at read left (3 ∷ t) ≡ Ok (Intersection rs, rest)
unfolding node_at
intersection_node read left t rest rs h = rw (u8_codec.again 3 t (omega arith), h) refl

union_node : (read : ℕ → List ℕ → Reads Rule) (left : ℕ) (t rest : List ℕ) (rs : List Rule) → parts_at read left t ≡ Ok (rs, rest) → node_at read left (4 ∷ t) ≡ Ok (Union rs, rest)
unfolding node_at
union_node read left t rest rs h = rw (u8_codec.again 4 t (omega arith), h) refl

branch_parts : (levels left tag : ℕ) (r : Rule) (rs : List Rule) → IsBranch tag r rs → FitsRule (suc levels) left r → (1 ≤ length rs) × FitRules levels left rs
branch_parts levels left tag r rs branch h =
    let formed = formed_some rs (sym branch.formed ∙ h.formed) in
    (formed.0, record { formed = formed.1; fits = sym branch.fits ∙ h.fits; depth = omega (arith, branch.depth, h.depth); count = omega (arith, branch.count, h.count) })

abbrev NodeAgain : ℕ → (ℕ → List ℕ → Reads Rule) → ℕ → Rule → Type 0
NodeAgain levels read left r = (rest : List ℕ) → FitsRule (suc levels) left r → node_at read left (rule r ++ rest) ≡ Ok (r, rest)

node_again : (levels : ℕ) (read : ℕ → List ℕ → Reads Rule) → ((left : ℕ) → ReadAgain (read left) rule (FitsByte levels left)) → (left : ℕ) → left < 256 → (r : Rule) → NodeAgain levels read left r
node_again levels read again left small = rule_cases (NodeAgain levels read left)
    (λ n rest h.
    let leaf = versions_leaf n in
    ap (λ (t : List ℕ). node_at read left (t ++ rest)) leaf.spelled ∙ versions_node read left (to_be_bytes w32 n ++ rest) ∙ versions_again n rest (ltb-true _ _ (sym leaf.fits ∙ h.fits)) (sym leaf.formed ∙ h.formed))
    (λ n rest h.
    let leaf = age_leaf n in
    ap (λ (t : List ℕ). node_at read left (t ++ rest)) leaf.spelled ∙ age_node read left (to_be_bytes w64 n ++ rest) ∙ age_again n rest (ltb-true _ _ (sym leaf.fits ∙ h.fits)) (sym leaf.formed ∙ h.formed))
    (λ rs rest h.
    let branch = intersection_branch rs in
    let p = branch_parts levels left 3 (Intersection rs) rs branch h in
    ap (λ (t : List ℕ). node_at read left (t ++ rest)) branch.spelled ∙ intersection_node read left (list w8 rule rs ++ rest) rest rs (parts_again levels read again left small rs rest p.0 p.1))
    (λ rs rest h.
    let branch = union_branch rs in
    let p = branch_parts levels left 4 (Union rs) rs branch h in
    ap (λ (t : List ℕ). node_at read left (t ++ rest)) branch.spelled ∙ union_node read left (list w8 rule rs ++ rest) rest rs (parts_again levels read again left small rs rest p.0 p.1))

pub rule_again : (levels left : ℕ) → ReadAgain (rule_at levels left) rule (FitsByte levels left)
unfolding rule_at
rule_again zero left x rest fits = absurd (omega (arith, has_levels x, fits.0.depth))
rule_again (suc levels) left x rest fits = node_again levels (rule_at levels) (rule_again levels) left fits.1 x rest fits.0

-- ---- a rule, or none

-- lawful, with numbers that fit
abbrev pub CanBeRule : Option Rule → Type 0
CanBeRule r = IsTrue (is_lawful_or_none r) × IsTrue (rule_or_none_fits r)

lawful_from : (r : Rule) → FitsRule 8 31 r → CanBeRule (Some r)
lawful_from r h = (and_from (is_well_formed r && nat_le (depth_of r) 8) (nat_le (count_of r) 32) (and_from (is_well_formed r) (nat_le (depth_of r) 8) h.formed (le-leb _ _ h.depth)) (le-leb _ _ (omega (arith, h.count))), h.fits)

lawful_parts : (r : Rule) → CanBeRule (Some r) → FitsRule 8 31 r
lawful_parts r h =
    let b = and_parts (is_well_formed r && nat_le (depth_of r) 8) (nat_le (count_of r) 32) h.0 in
    let c = and_parts (is_well_formed r) (nat_le (depth_of r) 8) b.0 in
    record { formed = c.0; fits = h.1; depth = leb-true _ _ c.1; count = omega (arith, leb-true _ _ b.1) }

rule_or_none_take : (bytes : List ℕ) (x : Option Rule) (rest : List ℕ) → IsBytes bytes → rule_or_none_at bytes ≡ Ok (x, rest) → Takes bytes (rule_or_none x) rest × CanBeRule x
unfolding rule_or_none_at
rule_or_none_take bytes x rest fits e =
    let a = bind_ok (number_at w8 bytes) (λ t. cond (eqb t.0 0) (Ok (None, t.1)) (rule_at 8 31 bytes >>= λ r. Ok (Some r.0, r.1))) (x, rest) e in
    let t = u8_codec.takes bytes a.0.0 a.0.1 fits a.1 in
    elim (chosen (eqb a.0.0 0) (Ok (None, a.0.1)) (rule_at 8 31 bytes >>= λ r. Ok (Some r.0, r.1)) (x, rest) a.2) [
      | inl h ↦
          let first : bytes ≡ 0 ∷ a.0.1 = tagged bytes a.0.1 a.0.0 0 t.0 h.0 (omega arith) in
          let made : Option Rule × List ℕ = (None, a.0.1) in
          let none : Takes bytes (0 ∷ []) a.0.1 = record { parts = first; rest_fits = t.0.rest_fits } in
          subst (λ (y : Option Rule × List ℕ). Takes bytes (rule_or_none y.0) y.1 × CanBeRule y.0) (ok_is made (x, rest) h.1) (none, (refl, refl))
      | inr h ↦
          let b = bind_ok (rule_at 8 31 bytes) (λ r. Ok (Some r.0, r.1)) (x, rest) h.1 in
          let r = rule_take 8 31 bytes b.0.0 b.0.1 fits b.1 in
          let made : Option Rule × List ℕ = (Some b.0.0, b.0.1) in
          subst (λ (y : Option Rule × List ℕ). Takes bytes (rule_or_none y.0) y.1 × CanBeRule y.0) (ok_is made (x, rest) b.2) (r.0, lawful_from b.0.0 r.1)
    ]

-- the first byte of a rule is not that of none
abbrev Begins : Rule → Type 0
Begins r = (b : ℕ) × (t : List ℕ) × (rule r ≡ b ∷ t) × (0 < b) × (b < 256)

begins : (r : Rule) → Begins r
begins = rule_cases Begins
    (λ n. (1, to_be_bytes w32 n, (versions_leaf n).spelled, omega arith, omega arith))
    (λ n. (2, to_be_bytes w64 n, (age_leaf n).spelled, omega arith, omega arith))
    (λ rs. (3, list w8 rule rs, (intersection_branch rs).spelled, omega arith, omega arith))
    (λ rs. (4, list w8 rule rs, (union_branch rs).spelled, omega arith, omega arith))

some_rule : (b : ℕ) (t : List ℕ) (r : Rule) (rest : List ℕ) → 0 < b → b < 256 → rule_at 8 31 (b ∷ t) ≡ Ok (r, rest) → rule_or_none_at (b ∷ t) ≡ Ok (Some r, rest)
unfolding rule_or_none_at
some_rule b t r rest positive small h =
    let byte : b ≡ b % 256 = omega arith in
    let tag : number_at w8 (b ∷ t) ≡ Ok (b, t) = ap (λ (k : ℕ). number_at w8 (k ∷ t)) byte ∙ u8_codec.again b t (omega arith) in
    let other : eqb b 0 ≡ false = ne_eqb b 0 (λ e. omega arith) in
    rw (tag, other, h) refl

rule_or_none_again : (x : Option Rule) (rest : List ℕ) → CanBeRule x → rule_or_none_at (rule_or_none x ++ rest) ≡ Ok (x, rest)
unfolding rule_or_none_at
rule_or_none_again None rest h = rw (u8_codec.again 0 rest (omega arith)) refl
rule_or_none_again (Some r) rest h =
    let first = begins r in
    let parts : rule r ++ rest ≡ first.0 ∷ (first.1 ++ rest) = ap (λ (t : List ℕ). t ++ rest) first.2 in
    let read : rule_at 8 31 (first.0 ∷ (first.1 ++ rest)) ≡ Ok (r, rest) = ap (rule_at 8 31) (sym parts) ∙ rule_again 8 31 r rest (lawful_parts r h, omega arith) in
    ap rule_or_none_at parts ∙ some_rule first.0 (first.1 ++ rest) r rest first.3 first.4 read

pub rule_or_none_codec : IsCodec rule_or_none_at rule_or_none CanBeRule
rule_or_none_codec = record { takes = rule_or_none_take; again = rule_or_none_again }
