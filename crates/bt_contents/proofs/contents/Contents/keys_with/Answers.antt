use Rattle.std.proofs.Common.{◌≡◌, ◌∙◌, ℕ, List, ap}
use Rattle.std.specs.Prelude.{filter}
use Rattle.std.specs.List.{list_any}
use Rattle.std.specs.Map.{keys_of}
use Rattle.std.proofs.lemmas.Result.{IfOk-weaker}
use Rattle.bt_contents.specs.Contents.{keys_with}
use Rattle.bt_row.specs.Extents.{is_covered}
use Rattle.bt_contents.proofs.Rows.{keys_any}
use Rattle.bt_contents.proofs.contents.Contents.keys_with.Goals as goal

-- an extent covers the cells of the family
pub returns : goal.returns
returns c =
    let rows = c.self.inside.rows.entries in
    let d = c.in_ok-extent.extent in
    let covers = rw c.in_ok-copy.ensures at c.in_ok-extent.ensures in
    let same = keys_any c.args.family.now (is_covered d) covers rows c.self.invariant.each ∙ ap (keys_with c.args.family.now) c.self.view_is in
    IfOk-weaker c.keys_of_rows_with.result (λ (keys : List (List ℕ)). keys ≡ keys_of (filter (λ r. list_any (is_covered d) (keys_of r.1.cells.entries)) rows)) _ (λ keys is. is ∙ same) c.keys_of_rows_with.ensures
