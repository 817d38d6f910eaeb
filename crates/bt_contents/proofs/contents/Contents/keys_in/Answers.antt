use Rattle.std.proofs.Common.{◌≡◌, ◌∙◌, ℕ, List, ap}
use Rattle.std.specs.Map.{keys_of}
use Rattle.std.proofs.lemmas.Result.{IfOk-weaker}
use Rattle.bt_row.specs.declared.row.Row.{Row}
use Rattle.bt_contents.specs.Contents.{Contents}
use Rattle.bt_contents.specs.Ranges.{rows_within}
use Rattle.bt_contents.proofs.Rows.{keys_within}
use Rattle.bt_contents.proofs.contents.Contents.keys_in.Goals as goal

pub returns-in-Some : goal.returns-in-Some
returns-in-Some c =
    let range = c.args.range.now in
    let rows = c.self.inside.rows.entries in
    let same = ap (λ (rs : List (List ℕ × Row)). keys_of rs) c.in-Some.ensures.rows ∙ keys_within range rows ∙ ap (λ (rs : Contents). keys_of (rows_within range rs)) c.self.view_is in
    IfOk-weaker c.keys_of.result (λ (keys : List (List ℕ)). keys ≡ keys_of c.in-Some.rows) _ (λ keys is. is ∙ same) c.keys_of.ensures

-- there are no rows
pub returns-in-None : goal.returns-in-None
returns-in-None c =
    let range = c.args.range.now in
    let rows = c.self.inside.rows.entries in
    c.new.ensures ∙ ap (λ (rs : List (List ℕ × Row)). keys_of rs) c.in-None.ensures.rows ∙ keys_within range rows ∙ ap (λ (rs : Contents). keys_of (rows_within range rs)) c.self.view_is
