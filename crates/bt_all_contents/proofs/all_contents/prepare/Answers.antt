use Rattle.bt_all_contents.proofs.AllChanged.{new_still, places_with_rows}
use Rattle.bt_all_contents.proofs.all_contents.prepare.Goals as goal

-- the new rows are not there yet
pub put_all-requires-clause-rows : goal.put_all-requires-clause-rows
put_all-requires-clause-rows c =
    new_still c.args.plans.now.entries c.args.new_rows.entries c.args.tables.now.entries c.requires.plans c.requires.rows c.make_all.new.tables.entries c.in_ok-make_all.ensures.values

pub returns-clause-values : goal.returns-clause-values
returns-clause-values c =
    places_with_rows c.args.plans.now.entries c.args.new_rows.entries c.args.tables.now.entries c.requires.plans c.requires.rows c.make_all.new.tables.entries c.in_ok-make_all.ensures.values c.put_all.new.tables.entries c.in_ok-put_all.ensures.ok
