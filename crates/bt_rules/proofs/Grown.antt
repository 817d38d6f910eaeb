-- What a rule condemns at a place it condemns at each later place of an older cell.
use Rattle.std.proofs.Common.{◌≡◌, ℕ, ◌+◌, ◌≤◌, Bool, true, List, [], ◌∷◌, map, Option, Some, None, arith, refl, sym, ◌∙◌, subst, inl, inr}
use Rattle.std.proofs.lemmas.Bool.{ltb-true, lt-ltb, leb-true, le-leb, and_parts, and_from, or_cases, or_left, or_right}
use Rattle.bt_rules.specs.declared.rule.Rule.{Rule}
use Rattle.bt_rules.specs.declared.rule.Rule.TheOpen.{Rule-F}
use Rattle.bt_rules.specs.declared.rule.Rule.TheFolds.{fold-roll-Rule, ind-Rule, map-Rule}
use Rattle.bt_rules.specs.Rules.{condemns, node_condemns, is_condemned, all_of, any_of}

abbrev Grows : ℕ → Rule → Type 0
Grows m r = (i j a b : ℕ) → i ≤ j → b ≤ a → condemns i a m r ≡ true → condemns j b m r ≡ true

abbrev Shown : ℕ → Type 0
Shown m = (r : Rule) × Grows m r

abbrev shown : (m : ℕ) → Shown m → Rule
shown m s = s.0

all_grow : (m : ℕ) (ps : List (Shown m)) (i j a b : ℕ) → i ≤ j → b ≤ a → all_of (map (condemns i a m) (map (shown m) ps)) ≡ true → all_of (map (condemns j b m) (map (shown m) ps)) ≡ true
all_grow m [] i j a b u v h = refl
all_grow m (p ∷ ps) i j a b u v h =
    let parts = and_parts (condemns i a m (shown m p)) (all_of (map (condemns i a m) (map (shown m) ps))) h in
    and_from _ _ (p.1 i j a b u v parts.0) (all_grow m ps i j a b u v parts.1)

any_grow : (m : ℕ) (ps : List (Shown m)) (i j a b : ℕ) → i ≤ j → b ≤ a → any_of (map (condemns i a m) (map (shown m) ps)) ≡ true → any_of (map (condemns j b m) (map (shown m) ps)) ≡ true
any_grow m [] i j a b u v h = h
any_grow m (p ∷ ps) i j a b u v h =
    elim (or_cases (condemns i a m (shown m p)) (any_of (map (condemns i a m) (map (shown m) ps))) h) [
      | inl here ↦ or_left _ _ (p.1 i j a b u v here)
      | inr later ↦ or_right _ _ (any_grow m ps i j a b u v later)
    ]

abbrev NodeGrows : ℕ → Rule-F Rule → Type 0
NodeGrows m x = (i j a b : ℕ) → i ≤ j → b ≤ a → node_condemns i a m (map-Rule Rule Bool (condemns i a m) x) ≡ true → node_condemns j b m (map-Rule Rule Bool (condemns j b m) x) ≡ true

node_grows : (m : ℕ) (y : Rule-F (Shown m)) → NodeGrows m (map-Rule (Shown m) Rule (shown m) y)
node_grows m (Rule-F.Versions n) i j a b u v h = le-leb n j (omega (arith, leb-true n i h))
node_grows m (Rule-F.Age n) i j a b u v h = lt-ltb (b + n) m (omega (arith, ltb-true (a + n) m h))
node_grows m (Rule-F.Intersection parts) i j a b u v h = all_grow m parts i j a b u v h
node_grows m (Rule-F.Union parts) i j a b u v h = any_grow m parts i j a b u v h

grows : (m : ℕ) (r : Rule) → Grows m r
grows m = ind-Rule (Grows m) (λ x y is.
    let node : NodeGrows m x = subst (NodeGrows m) is (node_grows m y) in
    λ i j a b u v h. fold-roll-Rule Bool (node_condemns j b m) x ∙ node i j a b u v (sym (fold-roll-Rule Bool (node_condemns i a m) x) ∙ h))

pub condemned_later : (rule : Option Rule) (m i j a b : ℕ) → i ≤ j → b ≤ a → is_condemned rule i a m ≡ true → is_condemned rule j b m ≡ true
condemned_later None m i j a b u v h = h
condemned_later (Some r) m i j a b u v h = grows m r i j a b u v h
