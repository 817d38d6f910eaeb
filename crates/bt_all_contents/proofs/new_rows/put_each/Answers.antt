use Rattle.std.proofs.Common.{◌≡◌, ◌∙◌, []}
use Rattle.std.proofs.lemmas.Map.Keys.{sorted_tail}
use Rattle.bt_row.specs.declared.row.Row.{Row}
use Rattle.bt_row.specs.Sound.{IsSound}
use Rattle.bt_all_contents.specs.AllContents.{RowAt, at_cmp, cells_there}
use Rattle.bt_all_contents.proofs.AllRows.{holds_first, none_later, other_stays, row_put, rows_later}
use Rattle.bt_all_contents.proofs.new_rows.put_each.Goals as goal

pub put_there-requires-clause-tables : goal.put_there-requires-clause-tables
put_there-requires-clause-tables c = c.loop-at.invariant.2

pub put_there-requires-clause-row : goal.put_there-requires-clause-row
put_there-requires-clause-row c =
    let step = c.in-Some.ensures.steps in
    (holds_first {X = Row} (c.in-Some.at, c.in-Some.row) c.next.new.self (rw step at c.loop-at.invariant.1) (λ a r. IsSound r.cells.entries × (cells_there c.loop-at.tables.entries a ≡ [])) (rw step at c.loop-at.invariant.3)).0

pub put_there-requires-clause-absent : goal.put_there-requires-clause-absent
put_there-requires-clause-absent c =
    let step = c.in-Some.ensures.steps in
    (holds_first {X = Row} (c.in-Some.at, c.in-Some.row) c.next.new.self (rw step at c.loop-at.invariant.1) (λ a r. IsSound r.cells.entries × (cells_there c.loop-at.tables.entries a ≡ [])) (rw step at c.loop-at.invariant.3)).1

-- the row at hand is there
pub loop-at-preserved : goal.loop-at-preserved
loop-at-preserved c =
    let step = c.in-Some.ensures.steps in
    let e : RowAt × Row = (c.in-Some.at, c.in-Some.row) in
    let rest = c.next.new.self in
    let sorted = rw step at c.loop-at.invariant.1 in
    let old = c.loop-at.tables.entries in
    let new = c.put_there.new.tables.entries in
    let apart = c.put_there.ensures.elsewhere in (
      tt,
      sorted_tail at_cmp _ _ sorted,
      c.put_there.ensures.tables,
      rows_later e rest sorted old new apart (rw step at c.loop-at.invariant.3),
      λ a none. none_later e rest sorted old new apart a ((rw step at c.loop-at.invariant.4) a none),
      λ a none. other_stays e rest sorted old new apart a ((rw step at c.loop-at.invariant.4) a none) ∙ c.loop-at.invariant.5 a none,
      λ a. row_put e rest sorted old new apart c.in_ok-put_there.ensures.ok a ∙ (rw step at c.loop-at.invariant.6) a,
    )
