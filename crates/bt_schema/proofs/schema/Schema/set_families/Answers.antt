use Rattle.std.proofs.Common.{◌≡◌, Some, None, sym, ap, ◌∙◌, subst, refl, rules}
use Rattle.std.specs.Prelude.{IsSome}
use Rattle.std.specs.Ordering.{nat_cmp}
use Rattle.std.specs.Map.{lookup, set_value}
use Rattle.std.specs.BTreeMap.{is_at}
use Rattle.std.specs.Option.{option_copied_mut}
use Rattle.bt_schema.specs.Schema.{changed_at, name_is, table_at, with_families}
use Rattle.bt_schema.proofs.Altered.{named, found_named, changed_there, indexed_changed}
use Rattle.bt_schema.proofs.Named.{named_changed}
use Rattle.bt_schema.proofs.schema.Schema.set_families.Goals as goal

-- a table that is there has a name at its incarnation
pub unreachable-requires : goal.unreachable-requires
unreachable-requires c =
    let names = c.self.inside.names.entries in
    let tables = c.self.inside.tables.entries in
    let some : IsSome (table_at c.args.incarnation tables) = subst (λ s. IsSome (table_at c.args.incarnation s)) (sym c.self.view_is) c.requires in
    let absent : lookup (is_at (nat_cmp c.args.incarnation)) names ≡ None = search rules in
    named names c.args.incarnation tables some c.self.invariant.0 absent

-- and is found by it
pub unreachable-requires-in_default-get_mut : goal.unreachable-requires-in_default-get_mut
unreachable-requires-in_default-get_mut c =
    let names = c.self.inside.names.entries in
    let tables = c.self.inside.tables.entries in
    let name = c.in-Some.name.now in
    let some : IsSome (table_at c.args.incarnation tables) = subst (λ s. IsSome (table_at c.args.incarnation s)) (sym c.self.view_is) c.requires in
    let there : lookup (is_at (nat_cmp c.args.incarnation)) names ≡ Some name = search rules in
    let absent : lookup (name_is name) tables ≡ None = search rules in
    found_named names c.args.incarnation name tables some c.self.invariant.0 there absent

-- it alone changes
pub returns : goal.returns
returns c =
    let names = c.self.inside.names.entries in
    let tables = c.self.inside.tables.entries in
    let name = c.in-Some.name.now in
    let info = c.in-Some-get_mut.table.now in
    let change = with_families c.args.families in
    let some : IsSome (table_at c.args.incarnation tables) = subst (λ s. IsSome (table_at c.args.incarnation s)) (sym c.self.view_is) c.requires in
    let there : lookup (is_at (nat_cmp c.args.incarnation)) names ≡ Some name = search rules in
    let found : lookup (name_is name) tables ≡ Some info = sym c.get_mut.ensures.value ∙ ap option_copied_mut c.in-Some-get_mut.is in
    let written : (c.get_mut.follows.lender (with_families c.args.families info)).entries ≡ set_value (name_is name) tables (with_families c.args.families info) = search rules in
    written ∙ changed_there names c.args.incarnation name info change tables some c.self.invariant.0 there found ∙ ap (changed_at c.args.incarnation change) c.self.view_is

-- and keeps its incarnation
pub invariant_of-self : goal.invariant_of-self
invariant_of-self c =
    let names = c.self.inside.names.entries in
    let tables = c.self.inside.tables.entries in
    let name = c.in-Some.name.now in
    let info = c.in-Some-get_mut.table.now in
    let change = with_families c.args.families in
    let some : IsSome (table_at c.args.incarnation tables) = subst (λ s. IsSome (table_at c.args.incarnation s)) (sym c.self.view_is) c.requires in
    let there : lookup (is_at (nat_cmp c.args.incarnation)) names ≡ Some name = search rules in
    let found : lookup (name_is name) tables ≡ Some info = sym c.get_mut.ensures.value ∙ ap option_copied_mut c.in-Some-get_mut.is in
    let written : (c.get_mut.follows.lender (with_families c.args.families info)).entries ≡ set_value (name_is name) tables (with_families c.args.families info) = search rules in
    let changed : (c.get_mut.follows.lender (with_families c.args.families info)).entries ≡ changed_at c.args.incarnation change tables = written ∙ changed_there names c.args.incarnation name info change tables some c.self.invariant.0 there found in
    rw changed (indexed_changed names c.args.incarnation change (λ t. refl) tables c.self.invariant.0, named_changed c.args.incarnation change (λ t. refl) tables c.self.invariant.1)
