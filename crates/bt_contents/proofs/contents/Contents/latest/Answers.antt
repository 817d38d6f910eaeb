use Rattle.std.proofs.Common.{◌≡◌, ◌∙◌, [], Some, None, ap, sym, refl}
use Rattle.std.specs.Map.{lookup}
use Rattle.std.specs.Option.{option_copied}
use Rattle.bt_contents.specs.Contents.{key_is, row_at}
use Rattle.bt_row.specs.Keys.{cells_of}
use Rattle.bt_contents.proofs.Rows.{found_held, row_absent, row_found}
use Rattle.bt_contents.proofs.contents.Contents.latest.Goals as goal

pub latest-requires : goal.latest-requires
latest-requires c = (found_held c.self.inside.rows.entries c.in-Some.row.now c.self.invariant c.in-Some.ensures.member).0

pub returns-in-Some : goal.returns-in-Some
returns-in-Some c =
    let rows = c.self.inside.rows.entries in
    let k = c.args.key.now in
    let found : lookup (key_is k) rows ≡ Some c.in-Some.row.now = sym c.get.ensures.value ∙ ap option_copied c.in-Some.is in
    let cells : row_at k c.args.self.now ≡ cells_of c.in-Some.row.now.cells.entries = ap (row_at k) (sym c.self.view_is) ∙ row_found k rows c.in-Some.row.now found in
    rw cells c.latest.ensures

-- there is no row
pub returns-in-None : goal.returns-in-None
returns-in-None c =
    let rows = c.self.inside.rows.entries in
    let k = c.args.key.now in
    let absent : lookup (key_is k) rows ≡ None = sym c.get.ensures.value ∙ ap option_copied c.in-None.is in
    let cells : row_at k c.args.self.now ≡ [] = ap (row_at k) (sym c.self.view_is) ∙ row_absent k rows absent in
    rw cells refl
