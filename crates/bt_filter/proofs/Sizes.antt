-- A filter has one check for each node.
use Rattle.std.proofs.Common.{◌≡◌, ◌+◌, ◌<◌, Bool, true, false, List, [], ◌∷◌, ◌++◌, map, length, length-append, Option, Some, None, option_map, arith, refl, sym, ap, ◌∙◌, subst}
use Rattle.bt_filter.specs.declared.asked.AskedFilter.{AskedFilter}
use Rattle.bt_filter.specs.declared.asked.AskedFilter.TheOpen.{AskedFilter-F}
use Rattle.bt_filter.specs.declared.asked.AskedFilter.TheFolds.{fold-roll-AskedFilter, ind-AskedFilter, map-AskedFilter}
use Rattle.bt_filter.specs.Flaws.{Check, Checks, Extent, checks_of, node_checks, nodes_of_all, nodes_of_part, node_list, extent_of, node_extent, extent_of_all, extent_of_part, extent_flaw}
use Rattle.bt_filter.proofs.Folds.{map_condition}

abbrev IsSized : AskedFilter → Type 0
IsSized f = (below : Bool) → length ((checks_of f).nodes below) ≡ (extent_of f).nodes

abbrev Shown : Type 0
Shown = (f : AskedFilter) × IsSized f

abbrev shown : Shown → AskedFilter
shown s = s.0

all_sized : (ps : List Shown) (below : Bool) → length (nodes_of_all (map checks_of (map shown ps)) below) ≡ (extent_of_all (map extent_of (map shown ps))).nodes
all_sized [] below = refl
all_sized (p ∷ ps) below =
    length-append ((checks_of (shown p)).nodes below) (nodes_of_all (map checks_of (map shown ps)) below) ∙ omega (arith, p.1 below, all_sized ps below)

part_sized : (p : Option Shown) → length (nodes_of_part (option_map checks_of (option_map shown p))) ≡ (extent_of_part (option_map extent_of (option_map shown p))).nodes
part_sized None = refl
part_sized (Some p) = p.1 true

abbrev IsSizedNode : AskedFilter-F AskedFilter → Type 0
IsSizedNode x = (below : Bool) → length ((node_checks (map-AskedFilter AskedFilter Checks checks_of x)).nodes below) ≡ (node_extent (map-AskedFilter AskedFilter Extent extent_of x)).nodes

condition_sized : (p m u : Option Shown) → IsSizedNode (AskedFilter-F.Condition (option_map shown p) (option_map shown m) (option_map shown u))
condition_sized p m u below =
    let a : List Check = nodes_of_part (option_map checks_of (option_map shown p)) in
    let b : List Check = nodes_of_part (option_map checks_of (option_map shown m)) in
    let c : List Check = nodes_of_part (option_map checks_of (option_map shown u)) in
    let nodes : length (a ++ b ++ c) ≡ length a + length b + length c = length-append (a ++ b) c ∙ ap (λ n. n + length c) (length-append a b) in
    ap (λ (z : AskedFilter-F Checks). length ((node_checks z).nodes below)) (map_condition AskedFilter Checks checks_of (option_map shown p) (option_map shown m) (option_map shown u))
    ∙ omega (arith, nodes, part_sized p, part_sized m, part_sized u)
    ∙ sym (ap (λ (z : AskedFilter-F Extent). (node_extent z).nodes) (map_condition AskedFilter Extent extent_of (option_map shown p) (option_map shown m) (option_map shown u)))

node_sized : (y : AskedFilter-F Shown) → IsSizedNode (map-AskedFilter Shown AskedFilter shown y)
node_sized AskedFilter-F.Unset below = refl
node_sized (AskedFilter-F.Pass flag) below = refl
node_sized (AskedFilter-F.Block flag) below = refl
node_sized (AskedFilter-F.Sink flag) below = refl
node_sized (AskedFilter-F.Strip flag) below = refl
node_sized (AskedFilter-F.Chain parts) below = omega (arith, all_sized parts below)
node_sized (AskedFilter-F.Interleave parts) below = omega (arith, all_sized parts below)
node_sized (AskedFilter-F.Condition p m u) below = subst IsSizedNode (sym (map_condition Shown AskedFilter shown p m u)) (condition_sized p m u) below
node_sized (AskedFilter-F.RowKey text) below = refl
node_sized (AskedFilter-F.Family text) below = refl
node_sized (AskedFilter-F.Qualifier text) below = refl
node_sized (AskedFilter-F.Value text) below = refl
node_sized (AskedFilter-F.ColumnRange family range) below = refl
node_sized (AskedFilter-F.ValueRange range) below = refl
node_sized (AskedFilter-F.Times start end) below = refl
node_sized (AskedFilter-F.RowOffset count) below = refl
node_sized (AskedFilter-F.RowLimit count) below = refl
node_sized (AskedFilter-F.ColumnLimit count) below = refl
node_sized (AskedFilter-F.Label label) below = refl

pub sized : (f : AskedFilter) (below : Bool) → length ((checks_of f).nodes below) ≡ (extent_of f).nodes
sized = ind-AskedFilter IsSized (λ x y is.
    let node : IsSizedNode x = subst IsSizedNode is (node_sized y) in
    λ below. ap (λ (c : Checks). length (c.nodes below)) (fold-roll-AskedFilter Checks node_checks x) ∙ node below ∙ sym (ap (λ (e : Extent). e.nodes) (fold-roll-AskedFilter Extent node_extent x)))

-- a filter that is not too large has few nodes
pub few_nodes : (f : AskedFilter) → extent_flaw (extent_of f) ≡ None → length (node_list f) < 1025
few_nodes f h =
    let same = sized f false in
    grind (arith, h, same)
