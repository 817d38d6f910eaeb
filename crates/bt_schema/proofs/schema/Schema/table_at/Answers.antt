use Rattle.std.proofs.Common.{◌≡◌, Some, None, sym, rules, eq-eqb}
use Rattle.std.specs.Ordering.{nat_cmp}
use Rattle.std.specs.Map.{lookup}
use Rattle.std.specs.BTreeMap.{is_at}
use Rattle.bt_schema.specs.Schema.{name_is}
use Rattle.bt_schema.proofs.Indexes.{none_named, none_found, found_there, other_there, not_here}
use Rattle.bt_schema.proofs.schema.Schema.table_at.Goals as goal

-- no name stands at the incarnation
pub returns-in_default : goal.returns-in_default
returns-in_default c =
    let names = c.self.inside.names.entries in
    let absent : lookup (is_at (nat_cmp c.args.incarnation)) names ≡ None = search rules in
    rw (← c.self.view_is) (sym (none_named names c.args.incarnation c.self.inside.tables.entries absent c.self.invariant.0.1))

-- no table has the name
pub returns-in_default-get : goal.returns-in_default-get
returns-in_default-get c =
    let names = c.self.inside.names.entries in
    let there : lookup (is_at (nat_cmp c.args.incarnation)) names ≡ Some c.in-Some.name.now = search rules in
    let absent : lookup (name_is c.in-Some.name.now) c.self.inside.tables.entries ≡ None = search rules in
    rw (← c.self.view_is) (sym (none_found names c.args.incarnation c.in-Some.name.now c.self.inside.tables.entries there absent c.self.invariant.0.1))

-- it is the table's
pub returns-then-table-incarnation : goal.returns-then-table-incarnation
returns-then-table-incarnation c =
    let names = c.self.inside.names.entries in
    let there : lookup (is_at (nat_cmp c.args.incarnation)) names ≡ Some c.in-Some.name.now = search rules in
    let found : lookup (name_is c.in-Some.name.now) c.self.inside.tables.entries ≡ Some c.in-Some-get.table.now = search rules in
    rw (← c.self.view_is) (sym (found_there names c.args.incarnation c.in-Some.name.now _ c.self.inside.tables.entries there found c.self.invariant.0 (eq-eqb _ _ c.if-table-incarnation.true)))

-- it is another's
pub returns-else-table-incarnation : goal.returns-else-table-incarnation
returns-else-table-incarnation c =
    let names = c.self.inside.names.entries in
    let there : lookup (is_at (nat_cmp c.args.incarnation)) names ≡ Some c.in-Some.name.now = search rules in
    let found : lookup (name_is c.in-Some.name.now) c.self.inside.tables.entries ≡ Some c.in-Some-get.table.now = search rules in
    rw (← c.self.view_is) (sym (other_there names c.args.incarnation c.in-Some.name.now _ c.self.inside.tables.entries there found c.self.invariant.0 (not_here _ _ c.if-table-incarnation.false)))
