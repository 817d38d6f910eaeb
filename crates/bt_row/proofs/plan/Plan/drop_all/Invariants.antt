use Rattle.std.proofs.Common.{◌≡◌}
use Rattle.std.specs.Vec.Iter.{into_iter_items}
use Rattle.bt_row.specs.declared.cell_key.CellKey.{CellKey}
use Rattle.bt_row.specs.Extents.{AreTimed}
use Rattle.bt_row.specs.Plans.{IsPlan, planned, without}
use Rattle.bt_row.proofs.plan.Plan.drop_all.Given as goal

-- dropping the keys that are left leads where dropping all leads
abbrev pub invariant-loop-key : goal.invariant-loop-key
invariant-loop-key l =
    (goal.iterator-loop-key).can_next l.key-iterator
    × (goal.iterator-loop-key).is_finite l.key-iterator
    × IsPlan l.self l.cells.entries
    × AreTimed (into_iter_items l.key-iterator)
    × ((k : CellKey) → without (into_iter_items l.key-iterator) (planned l.self l.cells.entries) k ≡ without (into_iter_items l.initial.key-iterator) (planned l.initial.self l.cells.entries) k)
