use Rattle.std.proofs.Common.{◌∙◌, ap, refl}
use Rattle.std.specs.Prelude.{bytes_eq}
use Rattle.bt_contents.specs.Contents.{is_used}
use Rattle.bt_row.specs.Extents.{is_covered}
use Rattle.bt_contents.proofs.Rows.{rows_any}
use Rattle.bt_contents.proofs.contents.Contents.has_family.Goals as goal

-- an extent covers the cells of the family
pub returns-in-Some : goal.returns-in-Some
returns-in-Some c =
    c.some_row_has.ensures ∙ rows_any c.args.family.now (is_covered c.in-Some.extent) c.in-Some.ensures c.self.inside.rows.entries c.self.invariant.each ∙ ap (is_used c.args.family.now) c.self.view_is

pub returns-in-None : goal.returns-in-None
returns-in-None c =
    c.some_row_is_of.ensures ∙ rows_any c.args.family.now (λ k. bytes_eq k.family c.args.family.now) (λ k timed. refl) c.self.inside.rows.entries c.self.invariant.each ∙ ap (is_used c.args.family.now) c.self.view_is
