use Rattle.std.proofs.Common.{◌≡◌, ◌∙◌, None, cond}
use Rattle.std.proofs.lemmas.Result.{on_ok_weaker}
use Rattle.bt_types.specs.declared.mutation.Mutation.TheVariants.{DeleteColumn, DeleteFamily}
use Rattle.bt_row.specs.declared.cell_key.CellKey.{CellKey}
use Rattle.bt_row.specs.Extents.{is_covered}
use Rattle.bt_row.specs.Plans.{planned}
use Rattle.bt_row.proofs.Plans.{removed}
use Rattle.bt_row.proofs.plan.Plan.add.Goals as goal

-- the extent leaves what the mutation leaves
pub returns-in-DeleteColumn-clause-ok : goal.returns-in-DeleteColumn-clause-ok
returns-in-DeleteColumn-clause-ok c =
    let es = c.args.cells.now.entries in
    let d = c.of_column-extent.result in
    on_ok_weaker c.delete.result (λ (ok : (k : CellKey) → planned c.delete.new.self es k ≡ cond (is_covered d k) None (planned c.args.self.now es k)). λ (k : CellKey).
    ok k ∙ rw c.in-DeleteColumn.is (removed d (DeleteColumn c.in-DeleteColumn.family c.in-DeleteColumn.qualifier c.in-DeleteColumn.start c.in-DeleteColumn.end) c.args.self.now es c.of_column-extent.ensures c.requires.timed c.requires.plan.lawful.timed k)) c.delete.ensures.ok

pub returns-in_ok-extent-in-DeleteFamily-clause-ok : goal.returns-in_ok-extent-in-DeleteFamily-clause-ok
returns-in_ok-extent-in-DeleteFamily-clause-ok c =
    let es = c.args.cells.now.entries in
    let d = c.in_ok-extent-in-DeleteFamily.extent in
    on_ok_weaker c.delete-in-DeleteFamily.result (λ (ok : (k : CellKey) → planned c.delete-in-DeleteFamily.new.self es k ≡ cond (is_covered d k) None (planned c.args.self.now es k)). λ (k : CellKey).
    ok k ∙ rw c.in-DeleteFamily.is (removed d (DeleteFamily c.in-DeleteFamily.family) c.args.self.now es c.in_ok-extent-in-DeleteFamily.ensures c.requires.timed c.requires.plan.lawful.timed k)) c.delete-in-DeleteFamily.ensures.ok
