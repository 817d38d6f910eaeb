use Rattle.bt_all_contents.specs.AllContents.{RowAt}
use Rattle.bt_all_contents.proofs.AllRows.{plan_added, plans_put, row_added, rows_put}
use Rattle.bt_all_contents.proofs.planned.add_change.Goals as goal

-- the row is there
pub returns-in_ok-add_to_plan-in-Some-clause-plans : goal.returns-in_ok-add_to_plan-in-Some-clause-plans
returns-in_ok-add_to_plan-in-Some-clause-plans c =
    let at : RowAt = (c.args.change.incarnation, c.args.change.key) in
    let row = c.in-Some.row.now in
    plans_put at row.cells.entries c.args.planned.now.plans.entries c.add_to_plan.new.plans.entries c.args.planned.now.new_rows.entries c.args.tables.now.entries c.in-Some.ensures.found.1 c.in-Some.ensures.found.0.1 c.in_ok-add_to_plan-in-Some.ensures.others c.requires.plans c.in_ok-add_to_plan-in-Some.ensures.plan

pub returns-in_ok-add_to_plan-in-Some-clause-ok : goal.returns-in_ok-add_to_plan-in-Some-clause-ok
returns-in_ok-add_to_plan-in-Some-clause-ok c =
    let at : RowAt = (c.args.change.incarnation, c.args.change.key) in
    let row = c.in-Some.row.now in
    plan_added at row.cells.entries c.args.planned.now.plans.entries c.add_to_plan.new.plans.entries c.args.planned.now.new_rows.entries c.args.tables.now.entries c.in-Some.ensures.found.1 c.in-Some.ensures.found.0.1 c.in_ok-add_to_plan-in-Some.ensures.others c.args.change.mutations c.requires.rows c.in_ok-add_to_plan-in-Some.ensures.ok

-- it is not there
pub returns-in_ok-add_to_row-in-None-clause-rows : goal.returns-in_ok-add_to_row-in-None-clause-rows
returns-in_ok-add_to_row-in-None-clause-rows c =
    let at : RowAt = (c.args.change.incarnation, c.args.change.key) in
    rows_put at c.args.planned.now.new_rows.entries c.add_to_row.new.new_rows.entries c.args.planned.now.plans.entries c.args.tables.now.entries c.in-None.ensures.absent c.in_ok-add_to_row-in-None.ensures.others c.requires.rows c.in_ok-add_to_row-in-None.ensures.row

pub returns-in_ok-add_to_row-in-None-clause-ok : goal.returns-in_ok-add_to_row-in-None-clause-ok
returns-in_ok-add_to_row-in-None-clause-ok c =
    let at : RowAt = (c.args.change.incarnation, c.args.change.key) in
    row_added at c.args.planned.now.new_rows.entries c.add_to_row.new.new_rows.entries c.args.planned.now.plans.entries c.args.tables.now.entries c.in-None.ensures.absent c.in_ok-add_to_row-in-None.ensures.others c.args.change.mutations c.requires.plans c.in_ok-add_to_row-in-None.ensures.ok
