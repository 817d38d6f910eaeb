use Rattle.std.proofs.Common.{◌≡◌, option_map, rules}
use Rattle.std.specs.Map.{lookup}
use Rattle.bt_schema.specs.Schema.{name_is}
use Rattle.bt_schema.proofs.Indexes.{own_if}
use Rattle.bt_schema.proofs.schema.Schema.table.Goals as goal

-- the table's name stands at its incarnation
pub returns-clause-own : goal.returns-clause-own
returns-clause-own c =
    let found : option_map (λ t. t.now) c.get.result ≡ lookup (name_is c.args.name.now) c.self.inside.tables.entries = search rules in
    rw (← c.self.view_is) (own_if (λ t. t.now) c.self.inside.names.entries c.args.name.now c.self.inside.tables.entries c.get.result found c.self.invariant.0)
