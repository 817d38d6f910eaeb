use Rattle.std.proofs.Common.{◌≡◌, None, drop, map, option_map}
use Rattle.bt_json.specs.View.{view, items_view, members_view}
use Rattle.bt_walk.specs.Shapes.{seen}
use Rattle.bt_walk.specs.Faults.{told}
use Rattle.bt_walk.specs.Walk.{or_else, items_fault, entries_fault, members_fault}
use Rattle.bt_walk.specs.declared.found.Pass.TheVariants.{ForUnsupported, ForBad}
use Rattle.bt_walk.proofs.walk.+walk.Given as goal

-- what was found, or else the first fault of what is left, is the first fault of all
abbrev pub invariant-items_faults-loop-item : goal.invariant-items_faults-loop-item
invariant-items_faults-loop-item g l =
    (or_else (option_map (λ n. n.now) l.unsupported) (items_fault (g.S.Schema.table l.schema) ForUnsupported l.shape l.name (items_view (drop l.item-index l.item-items))) ≡ items_fault (g.S.Schema.table l.schema) ForUnsupported l.shape l.name (items_view l.item-items))
    × (or_else (option_map (λ n. n.now) l.bad) (items_fault (g.S.Schema.table l.schema) ForBad l.shape l.name (items_view (drop l.item-index l.item-items))) ≡ items_fault (g.S.Schema.table l.schema) ForBad l.shape l.name (items_view l.item-items))

abbrev pub invariant-entries_faults-loop-key : goal.invariant-entries_faults-loop-key
invariant-entries_faults-loop-key g l =
    (or_else (option_map (λ n. n.now) l.unsupported) (entries_fault (g.S.Schema.table l.schema) ForUnsupported l.shape l.name (members_view (drop l._key-index l.entries.items))) ≡ entries_fault (g.S.Schema.table l.schema) ForUnsupported l.shape l.name (members_view l.entries.items))
    × (or_else (option_map (λ n. n.now) l.bad) (entries_fault (g.S.Schema.table l.schema) ForBad l.shape l.name (members_view (drop l._key-index l.entries.items))) ≡ entries_fault (g.S.Schema.table l.schema) ForBad l.shape l.name (members_view l.entries.items))

-- what was found goes on to what is found
abbrev pub invariant-members_faults-loop-key : goal.invariant-members_faults-loop-key
invariant-members_faults-loop-key g l =
    (members_fault (g.S.Schema.table l.schema) ForUnsupported (map seen l.members) (view l.whole) (option_map told l.unsupported) (members_view (drop l.key-index l.entries.items)) ≡ members_fault (g.S.Schema.table l.schema) ForUnsupported (map seen l.members) (view l.whole) None (members_view l.entries.items))
    × (members_fault (g.S.Schema.table l.schema) ForBad (map seen l.members) (view l.whole) (option_map told l.bad) (members_view (drop l.key-index l.entries.items)) ≡ members_fault (g.S.Schema.table l.schema) ForBad (map seen l.members) (view l.whole) None (members_view l.entries.items))
