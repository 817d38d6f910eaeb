use Rattle.std.proofs.Common.{◌≡◌, ◌∙◌, ℕ, List, Some, None, ap}
use Rattle.std.specs.Prelude.{option_map}
use Rattle.std.specs.List.{find}
use Rattle.bt_row.specs.declared.cell_key.CellKey.{CellKey}
use Rattle.bt_row.specs.Extents.{is_covered}
use Rattle.bt_row.specs.Keys.{cell_at}
use Rattle.bt_row.proofs.Found.{cell_found}
use Rattle.bt_row.proofs.row.Row.latest.Goals as goal

-- none is of the column
pub returns-in_default : goal.returns-in_default
returns-in_default c =
    let d = c.of_column-column.result in
    let es = c.args.self.now.cells.entries in
    let found : None ≡ find (λ (e : CellKey × List ℕ). is_covered d e.0) es = rw c.in_default.is at c.first_in.ensures in
    ap (option_map (λ (e : CellKey × List ℕ). cell_at e.0 e.1)) found ∙ cell_found c.args.family c.args.qualifier 0 0 d c.of_column-column.ensures es c.requires.timed

-- the first that the column covers
pub returns : goal.returns
returns c =
    let d = c.of_column-column.result in
    let es = c.args.self.now.cells.entries in
    let found : Some (c.in-Some.key.now, c.in-Some.value.now) ≡ find (λ (e : CellKey × List ℕ). is_covered d e.0) es = rw c.in-Some.is at c.first_in.ensures in
    ap Some c.in_ok-cell.ensures ∙ ap (option_map (λ (e : CellKey × List ℕ). cell_at e.0 e.1)) found ∙ cell_found c.args.family c.args.qualifier 0 0 d c.of_column-column.ensures es c.requires.timed
