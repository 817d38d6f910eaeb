use Rattle.std.proofs.Common.{◌≡◌, true, false, rules}
use Rattle.std.specs.Prelude.{◌&&◌, not, filter}
use Rattle.std.specs.Ordering.{is_le}
use Rattle.bt_row.specs.Extents.{first_of}
use Rattle.bt_row.specs.Keys.{key_cmp}
use Rattle.bt_row.proofs.Covering.{first_tells, none_covered}
use Rattle.bt_row.proofs.extent.Extent.first_in.Goals as goal
use Rattle.bt_row.proofs.extent.Extent.first_in.Goals.{in_default-via-in-Some+else-reaches, in_default-via-in_default}

-- the first of the range tells
pub returns-in-Some : goal.returns-in-Some
returns-in-Some g c =
    let d = c.args.self.now in
    let es = c.args.cells.now.entries in
    let range : c.range.result ≡ filter (λ e. is_le (key_cmp (first_of d) e.0) && not false) es = search rules in
    first_tells d c.range.result es c.range.ensures.ordered range (c.in-Some.key.now, c.in-Some.value.now) _ c.in-Some.ensures.steps true (search rules)

pub returns-in_default : goal.returns-in_default
returns-in_default g c =
    let d = c.args.self.now in
    let es = c.args.cells.now.entries in
    let range : c.range.result ≡ filter (λ e. is_le (key_cmp (first_of d) e.0) && not false) es = search rules in
    elim c.in_default.branch [
      | in_default-via-in-Some+else-reaches w ↦ first_tells d c.range.result es c.range.ensures.ordered range (w.in-Some.key.now, w.in-Some.value.now) _ w.in-Some.ensures.steps false (search rules)
      | in_default-via-in_default w ↦ none_covered d c.range.result es c.range.ensures.ordered range w.in_default.ensures.steps.0
    ]
