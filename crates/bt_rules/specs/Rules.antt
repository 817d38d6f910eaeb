-- Rules of collection: which of them are lawful, and which cells they condemn (google.bigtable.admin.v2.GcRule).
use Rattle.std.specs.Prelude.{◌≡◌, ◌↔◌, ◌≤◌, ℕ, ◌+◌, ◌-◌, max, Bool, true, false, ◌&&◌, nat_lt, nat_le, IsTrue, List, [], ◌∷◌, length, map, sum, slice_get, Option, Some, None, All, if◌then◌else◌}
use Rattle.std.specs.List.{list_all, list_any}
use Rattle.bt_types.specs.declared.cell.Cell.{Cell}
use Rattle.bt_types.specs.Cells.{AreOrdered}
use Rattle.bt_rules.specs.declared.rule.Rule.{Rule}
use Rattle.bt_rules.specs.declared.rule.Rule.TheOpen.{Rule-F}
use Rattle.bt_rules.specs.declared.rule.Rule.TheFolds.{fold-Rule}

-- all of them are true
abbrev pub all_of : List Bool → Bool
all_of bs = list_all (λ b. b) bs

-- some of them is true
abbrev pub any_of : List Bool → Bool
any_of bs = list_any (λ b. b) bs

-- the greatest of the numbers, or 0
abbrev pub greatest : List ℕ → ℕ
greatest [] = 0
greatest (n ∷ ns) = max n (greatest ns)

-- there are some, and all of them are true
abbrev pub all_of_some : List Bool → Bool
all_of_some [] = false
all_of_some (b ∷ bs) = all_of (b ∷ bs)

-- a number of versions is at least 1, an age at least 1,000 microseconds, and a list has parts
abbrev pub is_well_formed_node : Rule-F Bool → Bool
is_well_formed_node (Rule-F.Versions count) = nat_le 1 count
is_well_formed_node (Rule-F.Age age) = nat_le 1000 age
is_well_formed_node (Rule-F.Intersection parts) = all_of_some parts
is_well_formed_node (Rule-F.Union parts) = all_of_some parts

-- one more than its parts have
abbrev pub node_count : Rule-F ℕ → ℕ
node_count (Rule-F.Versions count) = 1
node_count (Rule-F.Age age) = 1
node_count (Rule-F.Intersection parts) = 1 + sum parts
node_count (Rule-F.Union parts) = 1 + sum parts

-- one more than its deepest part
abbrev pub node_depth : Rule-F ℕ → ℕ
node_depth (Rule-F.Versions count) = 1
node_depth (Rule-F.Age age) = 1
node_depth (Rule-F.Intersection parts) = 1 + greatest parts
node_depth (Rule-F.Union parts) = 1 + greatest parts

-- each node of the tree is well formed
abbrev pub is_well_formed : Rule → Bool
is_well_formed = fold-Rule Bool is_well_formed_node

-- how many nodes the tree has
abbrev pub count_of : Rule → ℕ
count_of = fold-Rule ℕ node_count

-- how deep the tree is; one node is 1 deep
abbrev pub depth_of : Rule → ℕ
depth_of = fold-Rule ℕ node_depth

-- what a column family may have: well formed, at most 8 deep, and of at most 32 nodes
abbrev pub is_lawful : Rule → Bool
is_lawful rule = is_well_formed rule && nat_le (depth_of rule) 8 && nat_le (count_of rule) 32

-- no rule, or a lawful one
abbrev pub is_lawful_or_none : Option Rule → Bool
is_lawful_or_none None = true
is_lawful_or_none (Some rule) = is_lawful rule

-- how many of the nodes allowed are left behind a tree that is well formed and no deeper than allowed
abbrev pub left : Bool → ℕ → ℕ → ℕ → ℕ → Option ℕ
left well_formed depth count levels nodes = if well_formed && nat_le depth levels && nat_le count nodes then Some (nodes - count) else None

abbrev pub nodes_left : Rule → ℕ → ℕ → Option ℕ
nodes_left rule levels nodes = left (is_well_formed rule) (depth_of rule) (count_of rule) levels nodes

-- the same behind several trees, one after another
abbrev pub nodes_left_by_all : List Rule → ℕ → ℕ → Option ℕ
nodes_left_by_all rules levels nodes = left (all_of (map is_well_formed rules)) (greatest (map depth_of rules)) (sum (map count_of rules)) levels nodes

-- a node condemns the cell at that place of its column, from 0, with that timestamp; its parts have answered
abbrev pub node_condemns : ℕ → ℕ → ℕ → Rule-F Bool → Bool
node_condemns place at moment (Rule-F.Versions count) = nat_le count place
node_condemns place at moment (Rule-F.Age age) = nat_lt (at + age) moment
node_condemns place at moment (Rule-F.Intersection parts) = all_of parts
node_condemns place at moment (Rule-F.Union parts) = any_of parts

-- the rule condemns the cell
abbrev pub condemns : ℕ → ℕ → ℕ → Rule → Bool
condemns place at moment = fold-Rule Bool (node_condemns place at moment)

-- without a rule no cell is condemned
abbrev pub is_condemned : Option Rule → ℕ → ℕ → ℕ → Bool
is_condemned None place at moment = false
is_condemned (Some rule) place at moment = condemns place at moment rule

-- both cells are of one column
abbrev pub IsBeside : Cell → Cell → Type 0
IsBeside c d = (d.family ≡ c.family) × (d.qualifier ≡ c.qualifier)

-- the cells are of one column
abbrev pub AreOfOneColumn : List Cell → Type 0
AreOfOneColumn [] = Unit {0}
AreOfOneColumn (c ∷ cs) = All (IsBeside c) cs

-- cells of one column with strictly increasing keys, so with timestamps that fall
pub record IsColumn (cells : List Cell) : Type 0 where
  pub beside : AreOfOneColumn cells
  pub ordered : AreOrdered cells

-- exactly the cells from that place on are condemned
pub record Splits (rule : Option Rule) (moment : ℕ) (cells : List Cell) (place : ℕ) : Type 0 where
  pub within : place ≤ length cells
  pub exact : (i : ℕ) (c : Cell) → slice_get cells i ≡ Some c → IsTrue (is_condemned rule i c.at moment) ↔ (place ≤ i)
