use Rattle.std.proofs.Common.{◌≡◌, ◌∙◌, Some, None, cond, ap}
use Rattle.std.specs.BTreeMap.{is_at}
use Rattle.std.proofs.lemmas.Result.{on_ok_weaker}
use Rattle.bt_types.specs.declared.mutation.Mutation.TheVariants.{DeleteColumn, DeleteFamily}
use Rattle.bt_row.specs.declared.cell_key.CellKey.{CellKey}
use Rattle.bt_row.specs.Extents.{is_covered}
use Rattle.bt_row.specs.Keys.{key_cmp}
use Rattle.bt_row.specs.Plans.{value_at}
use Rattle.bt_row.proofs.Plans.{removed_now, same_turned}
use Rattle.bt_row.proofs.Sound.{put_sound}
use Rattle.bt_row.proofs.row.Row.apply_one.Goals as goal

-- the cell is put where its key is
pub returns-in_ok-insert-in-SetCell-clause-values : goal.returns-in_ok-insert-in-SetCell-clause-values
returns-in_ok-insert-in-SetCell-clause-values c =
    let es = c.args.self.now.cells.entries in
    let v = c.in-SetCell.value in
    λ k. rw c.in-SetCell.is (c.in_ok-insert-in-SetCell.ensures.updates.0 k ∙ ap (λ t. cond t (Some v) (value_at es k)) (same_turned c.new-key.result k) ∙ ap (λ key. cond (is_at (key_cmp k) key) (Some v) (value_at es k)) c.new-key.ensures.value)

pub returns-in_ok-insert-in-SetCell-clause-sound : goal.returns-in_ok-insert-in-SetCell-clause-sound
returns-in_ok-insert-in-SetCell-clause-sound c =
    let es = c.args.self.now.cells.entries in
    let v = c.in-SetCell.value in
    put_sound es c.requires.sound c.insert.new.self.entries c.insert.ensures.ordered c.new-key.result v c.new-key.ensures.timed (rw c.in-SetCell.is at c.requires.short)
    (λ k. c.in_ok-insert-in-SetCell.ensures.updates.0 k ∙ ap (λ t. cond t (Some v) (value_at es k)) (same_turned c.new-key.result k))

-- the extent leaves what the mutation leaves
pub returns-in-DeleteColumn-clause-values : goal.returns-in-DeleteColumn-clause-values
returns-in-DeleteColumn-clause-values c =
    let es = c.args.self.now.cells.entries in
    let d = c.of_column-extent.result in
    on_ok_weaker c.remove.result (λ (ok : (k : CellKey) → value_at c.remove.new.self.cells.entries k ≡ cond (is_covered d k) None (value_at es k)). λ (k : CellKey).
    ok k ∙ rw c.in-DeleteColumn.is (removed_now d (DeleteColumn c.in-DeleteColumn.family c.in-DeleteColumn.qualifier c.in-DeleteColumn.start c.in-DeleteColumn.end) es c.of_column-extent.ensures c.requires.sound.timed k)) c.remove.ensures.values

pub returns-in_ok-extent-in-DeleteFamily-clause-values : goal.returns-in_ok-extent-in-DeleteFamily-clause-values
returns-in_ok-extent-in-DeleteFamily-clause-values c =
    let es = c.args.self.now.cells.entries in
    let d = c.in_ok-extent-in-DeleteFamily.extent in
    on_ok_weaker c.remove-in-DeleteFamily.result (λ (ok : (k : CellKey) → value_at c.remove-in-DeleteFamily.new.self.cells.entries k ≡ cond (is_covered d k) None (value_at es k)). λ (k : CellKey).
    ok k ∙ rw c.in-DeleteFamily.is (removed_now d (DeleteFamily c.in-DeleteFamily.family) es c.in_ok-extent-in-DeleteFamily.ensures c.requires.sound.timed k)) c.remove-in-DeleteFamily.ensures.values
