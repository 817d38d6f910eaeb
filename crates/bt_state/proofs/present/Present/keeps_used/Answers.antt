use Rattle.std.proofs.Common.{◌≡◌, [], sym}
use Rattle.bt_schema.specs.Schema.{table_at}
use Rattle.bt_state.specs.State.{families_of, rows_of}
use Rattle.bt_state.proofs.Entries.{none_used}
use Rattle.bt_state.proofs.present.Present.keeps_used.Goals as goal

-- no row has a cell
pub returns-in_default-rows_of : goal.returns-in_default-rows_of
returns-in_default-rows_of c =
    let none : rows_of c.args.incarnation c.args.self.now.contents ≡ [] = sym c.in_default-rows_of.ensures.rows in
    rw none (sym (none_used c.args.kept.now (families_of (table_at c.args.incarnation c.args.self.now.schema))))
