use Rattle.std.proofs.Common.{◌≡◌, ◌∙◌, [], false, rules}
use Rattle.bt_row.specs.declared.cell_key.CellKey.{CellKey}
use Rattle.bt_all_contents.specs.AllContents.{RowAt, cells_there, is_wanted_there, placed_or, plan_at}
use Rattle.bt_row.specs.Plans.{value_at}
use Rattle.bt_all_contents.proofs.AllChanged.{all_taken_back, can_carry_out, carried_out, changes_left, plans_there, still_plans, after_rows}
use Rattle.bt_all_contents.proofs.all_contents.AllContents.change_all.Goals as goal

-- where memory was short, what was made is gone
pub returns-then-is_err-clause-err : goal.returns-then-is_err-clause-err
returns-then-is_err-clause-err c =
    let plans = c.in_ok-plans.field-0.plans.entries in
    let old = c.self.inside.tables.entries in
    let mid = c.prepare.new.tables.entries in
    let new = c.settle_all.new.tables.entries in
    let others : (a : RowAt) (k : CellKey) → is_wanted_there plans a k ≡ false → value_at (cells_there mid a) k ≡ value_at (cells_there old a) k = search rules in
    rw (← c.self.view_is) (changes_left [] old new c.self.invariant c.settle_all.ensures.tables (λ a k. c.settle_all.ensures.values a k ∙ all_taken_back plans (cells_there old) mid (plans_there plans old c.in_ok-plans.ensures.plans) others a k))

-- each new value has its place
pub settle_all-requires-2-clause-can : goal.settle_all-requires-2-clause-can
settle_all-requires-2-clause-can c =
    let plans = c.in_ok-plans.field-0.plans.entries in
    let rows = c.in_ok-plans.field-0.new_rows.entries in
    let old = c.self.inside.tables.entries in
    let mid = c.prepare.new.tables.entries in
    let are = c.in_ok-plans.ensures.plans in
    let new_rows = c.in_ok-plans.ensures.rows in
    let places : (a : RowAt) (k : CellKey) → value_at (cells_there mid a) k ≡ placed_or (plan_at plans a) (after_rows plans rows old are new_rows a) k = search rules in
    can_carry_out plans (after_rows plans rows old are new_rows) mid (still_plans plans rows old are new_rows) places

-- the cells have the values that the changes leave
pub returns-clause-ok : goal.returns-clause-ok
returns-clause-ok c =
    let plans = c.in_ok-plans.field-0.plans.entries in
    let rows = c.in_ok-plans.field-0.new_rows.entries in
    let old = c.self.inside.tables.entries in
    let mid = c.prepare.new.tables.entries in
    let new = c.settle_all-2.new.tables.entries in
    let are = c.in_ok-plans.ensures.plans in
    let new_rows = c.in_ok-plans.ensures.rows in
    let places : (a : RowAt) (k : CellKey) → value_at (cells_there mid a) k ≡ placed_or (plan_at plans a) (after_rows plans rows old are new_rows a) k = search rules in
    rw (← c.self.view_is) (changes_left c.args.changes old new c.self.invariant c.settle_all-2.ensures.tables (λ a k. c.settle_all-2.ensures.values a k ∙ carried_out plans (after_rows plans rows old are new_rows) mid (still_plans plans rows old are new_rows) places a k ∙ c.in_ok-plans.ensures.ok a k))
