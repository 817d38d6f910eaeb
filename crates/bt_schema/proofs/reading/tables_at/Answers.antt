use Rattle.std.proofs.Common.{◌≡◌, ◌∷◌, [], ◌++◌, List, ℕ, ◌∙◌}
use Rattle.std.proofs.lemmas.Result.{err_from_is_err_and}
use Rattle.bt_entry.specs.declared.table_info.TableInfo.{TableInfo}
use Rattle.bt_codec.proofs.Many.{ends, goes_on, is_done}
use Rattle.bt_schema.specs.Grammar.{StandsBehind, behind}
use Rattle.bt_schema.specs.Reading.{table_behind_at, tables_at}
use Rattle.bt_schema.proofs.Ends.{absent_behind, ascend_behind, insert_behind}
use Rattle.bt_schema.proofs.Spelled.{stands}
use Rattle.bt_schema.proofs.reading.tables_at.Goals as goal

pub returns-in_err-table : goal.returns-in_err-table
returns-in_err-table c =
    let p = err_from_is_err_and c.from_residual.result c.from_residual.ensures.1 in
    rw (p.1, p.2) (ends table_behind_at behind c.loop.schema c.in_err-table.field-0.0 c.loop.schema c.args.count c.loop.counter c.loop.rest.now (tables_at c.args.count c.args.bytes.now) c.loop-test.true c.in_err-table.ensures c.loop.invariant.read)

pub add-requires-clause-absent : goal.add-requires-clause-absent
add-requires-clause-absent c =
    let t : List ℕ × TableInfo = (c.in_ok-table.table.name, c.in_ok-table.table) in
    let own : StandsBehind c.loop.schema t = stands c.loop.schema c.loop.rest.now t c.in_ok-table.after.now c.in_ok-table.ensures in
    absent_behind c.loop.schema t c.loop.invariant.ascend own.1

pub add-requires-clause-new : goal.add-requires-clause-new
add-requires-clause-new c =
    let t : List ℕ × TableInfo = (c.in_ok-table.table.name, c.in_ok-table.table) in
    let own : StandsBehind c.loop.schema t = stands c.loop.schema c.loop.rest.now t c.in_ok-table.after.now c.in_ok-table.ensures in
    own.2

-- the table goes to the end
pub loop-preserved : goal.loop-preserved
loop-preserved c =
    let t : List ℕ × TableInfo = (c.in_ok-table.table.name, c.in_ok-table.table) in
    let own : StandsBehind c.loop.schema t = stands c.loop.schema c.loop.rest.now t c.in_ok-table.after.now c.in_ok-table.ensures in
    let added : c.add.new.self ≡ c.loop.schema ++ t ∷ [] = c.in_ok-add.ensures.ok ∙ insert_behind c.loop.schema t c.loop.invariant.ascend own.1 in
    rw added (record {
      read = goes_on table_behind_at behind c.loop.schema c.loop.schema c.args.count c.loop.counter c.loop.rest.now t c.in_ok-table.after.now (tables_at c.args.count c.args.bytes.now) c.loop-test.true c.in_ok-table.ensures c.loop.invariant.read;
      ascend = ascend_behind c.loop.schema t c.loop.invariant.ascend own.1;
    })

pub returns : goal.returns
returns c = is_done table_behind_at behind c.loop.schema c.loop.schema c.args.count c.loop.counter c.loop.rest.now (tables_at c.args.count c.args.bytes.now) c.loop-test.false c.loop.invariant.read
