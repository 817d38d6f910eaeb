use Rattle.bt_all_contents.proofs.AllRows.{rows_taken}
use Rattle.bt_all_contents.proofs.new_rows.put_all.Goals as goal

-- where memory was short, the rows that were put in are gone
pub returns-then-is_err-clause-err : goal.returns-then-is_err-clause-err
returns-then-is_err-clause-err c =
    rows_taken c.args.new_rows.entries c.in_ok-places.places.items c.args.tables.now.entries c.put_each.new.tables.entries c.take_out.new.tables.entries c.requires.rows c.in_ok-places.ensures c.put_each.ensures.others c.take_out.ensures.rows
