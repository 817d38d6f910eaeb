use Rattle.std.proofs.Common.{◌≡◌, ℕ, false, Some, None, sym, ap, subst, ◌∙◌, rules}
use Rattle.std.specs.Prelude.{IsSome}
use Rattle.std.specs.Ordering.{nat_cmp}
use Rattle.std.specs.Map.{lookup}
use Rattle.std.specs.BTreeMap.{is_at}
use Rattle.bt_schema.specs.Schema.{table_at, without}
use Rattle.bt_schema.specs.Indexed.{HasItsName, IsIndexed}
use Rattle.bt_schema.proofs.Indexes.{still_indexed}
use Rattle.bt_schema.proofs.Altered.{named, without_there, gone, all_without}
use Rattle.bt_schema.proofs.schema.Schema.remove.Goals as goal

-- a table that is there has a name at its incarnation
pub unreachable-requires : goal.unreachable-requires
unreachable-requires c =
    let names = c.self.inside.names.entries in
    let tables = c.self.inside.tables.entries in
    let some : IsSome (table_at c.args.incarnation tables) = subst (λ s. IsSome (table_at c.args.incarnation s)) (sym c.self.view_is) c.requires in
    let absent : lookup (is_at (nat_cmp c.args.incarnation)) names ≡ None = search rules in
    named names c.args.incarnation tables some c.self.invariant.0 absent

-- it alone goes
pub returns : goal.returns
returns c =
    let names = c.self.inside.names.entries in
    let tables = c.self.inside.tables.entries in
    let some : IsSome (table_at c.args.incarnation tables) = subst (λ s. IsSome (table_at c.args.incarnation s)) (sym c.self.view_is) c.requires in
    let there : lookup (is_at (nat_cmp c.args.incarnation)) names ≡ Some c.in-Some.name = search rules in
    c.remove-2.ensures.entries ∙ without_there names c.args.incarnation c.in-Some.name tables some c.self.invariant.0 there ∙ ap (without c.args.incarnation) c.self.view_is

-- the names of the others stay
pub invariant_of-self : goal.invariant_of-self
invariant_of-self c =
    let names = c.self.inside.names.entries in
    let tables = c.self.inside.tables.entries in
    let some : IsSome (table_at c.args.incarnation tables) = subst (λ s. IsSome (table_at c.args.incarnation s)) (sym c.self.view_is) c.requires in
    let there : lookup (is_at (nat_cmp c.args.incarnation)) names ≡ Some c.in-Some.name = search rules in
    let left : c.remove-2.new.self.entries ≡ without c.args.incarnation tables = c.remove-2.ensures.entries ∙ without_there names c.args.incarnation c.in-Some.name tables some c.self.invariant.0 there in
    let kept : (q : ℕ) → is_at (nat_cmp c.args.incarnation) q ≡ false → lookup (is_at (nat_cmp q)) c.remove.new.self.entries ≡ lookup (is_at (nat_cmp q)) names = λ q e. search rules in
    ((c.remove-2.ensures.ordered, rw left (still_indexed c.args.incarnation names c.remove.new.self.entries kept (without c.args.incarnation tables) (gone names c.args.incarnation tables) (all_without names c.args.incarnation (IsIndexed names) tables c.self.invariant.0.1))), rw left (all_without names c.args.incarnation HasItsName tables c.self.invariant.1))
