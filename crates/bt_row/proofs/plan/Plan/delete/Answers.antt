use Rattle.std.proofs.Common.{◌≡◌}
use Rattle.std.specs.Map.{keys_of}
use Rattle.std.proofs.lemmas.List.Elements.{All-filter}
use Rattle.std.proofs.lemmas.Result.{on_ok_weaker}
use Rattle.bt_row.specs.declared.cell_key.CellKey.{CellKey}
use Rattle.bt_row.specs.Extents.{IsTimed, is_covered}
use Rattle.bt_row.specs.Plans.{planned, without}
use Rattle.bt_row.proofs.Plans.{deleted_by}
use Rattle.bt_row.proofs.plan.Plan.delete.Goals as goal

-- the keys of a plan and of a row have the timestamps of cells
pub drop_all-requires-clause-timed : goal.drop_all-requires-clause-timed
drop_all-requires-clause-timed c = rw c.in_ok-planned.ensures (All-filter (is_covered c.args.extent.now) IsTimed (keys_of c.args.self.now.outcomes.entries) c.requires.plan.lawful.timed)

pub drop_all-requires-2-clause-timed : goal.drop_all-requires-2-clause-timed
drop_all-requires-2-clause-timed c = rw c.in_ok-present.ensures (All-filter (is_covered c.args.extent.now) IsTimed (keys_of c.args.cells.now.entries) c.requires.timed)

pub returns-clause-ok : goal.returns-clause-ok
returns-clause-ok c =
    let es = c.args.cells.now.entries in
    on_ok_weaker c.drop_all-2.result (λ (two : (k : CellKey) → planned c.drop_all-2.new.self es k ≡ without c.in_ok-present.present.items (planned c.drop_all.new.self es) k).
    deleted_by c.args.extent.now c.args.self.now es _ _ (planned c.drop_all.new.self es) (planned c.drop_all-2.new.self es) c.in_ok-planned.ensures c.in_ok-present.ensures c.in_ok-drop_all.ensures.ok two) c.drop_all-2.ensures.ok
