use Rattle.std.proofs.Common.{◌≡◌, Option, Less, ap, refl, subst}
use Rattle.std.specs.Prelude.{IfSome}
use Rattle.bt_types.specs.declared.cell.Cell.{Cell}
use Rattle.bt_types.specs.Cells.{cell_cmp}
use Rattle.bt_row.specs.Keys.{cell_at, cells_of}
use Rattle.bt_contents.proofs.Steps.{cell_follows, cell_given, cell_passed}
use Rattle.bt_contents.proofs.contents_rows.ContentsRowsRowsNoReads.next_cell.Goals as goal

-- the cell is gone
pub invariant_of-self-in_err-copy : goal.invariant_of-self-in_err-copy
invariant_of-self-in_err-copy c = cell_passed _ _ (cell_at c.in-Some.key.now c.in-Some.value.now) _ _ _ (ap cells_of c.in-Some.ensures) c.self.invariant

-- the cells behind it are left
pub invariant_of-self-2 : goal.invariant_of-self-2
invariant_of-self-2 c = cell_given _ _ (cell_at c.in-Some.key.now c.in-Some.value.now) _ _ _ (ap cells_of c.in-Some.ensures) c.self.invariant

-- the copy is of the first cell that was left
pub returns-clause-order : goal.returns-clause-order
returns-clause-order c =
    let cell = cell_at c.in-Some.key.now c.in-Some.value.now in
    let follows = cell_follows _ _ cell _ _ _ (ap cells_of c.in-Some.ensures) c.self.invariant in
    rw c.in_ok-copy.ensures (subst (λ (last : Option Cell). IfSome last (λ before. cell_cmp before cell ≡ Less)) (ap (λ u. u.last) c.self.view_is) follows.0, follows.1, follows.2, ap (λ u. u.key) c.self.view_is, refl)
