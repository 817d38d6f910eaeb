use Rattle.std.proofs.lemmas.Result.{err_from_is_err_and}
use Rattle.bt_manifest.specs.Grammar.{next_incarnation}
use Rattle.bt_manifest.specs.Reading.{table_at, tables_at}
use Rattle.bt_codec.proofs.Many.{goes_on, ends, is_done}
use Rattle.bt_manifest.proofs.reading.tables_at.Goals as goal

pub returns-in_err-table : goal.returns-in_err-table
returns-in_err-table c =
    let p = err_from_is_err_and c.from_residual.result c.from_residual.ensures.1 in
    rw (p.1, p.2) (ends table_at next_incarnation c.loop.least c.in_err-table.field-0.0 c.loop.tables c.args.count c.loop.counter c.loop.rest.now (tables_at c.args.count c.args.bytes.now) c.loop-test.true c.in_err-table.ensures.read c.loop.invariant)

pub loop-preserved : goal.loop-preserved
loop-preserved c =
    rw c.in_ok-push.ensures.ok (goes_on table_at next_incarnation c.loop.least c.loop.tables c.args.count c.loop.counter c.loop.rest.now c.in_ok-table.table c.in_ok-table.after.now (tables_at c.args.count c.args.bytes.now) c.loop-test.true c.in_ok-table.ensures.read c.loop.invariant)

pub returns : goal.returns
returns c = is_done table_at next_incarnation c.loop.least c.loop.tables c.args.count c.loop.counter c.loop.rest.now (tables_at c.args.count c.args.bytes.now) c.loop-test.false c.loop.invariant
