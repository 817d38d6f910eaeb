use Rattle.std.proofs.Common.{◌≡◌, ℕ, List, false, Some, None, refl, ap, ◌∙◌, rules}
use Rattle.std.specs.Ordering.{nat_cmp}
use Rattle.std.specs.Map.{lookup}
use Rattle.std.specs.BTreeMap.{is_at}
use Rattle.bt_schema.specs.Schema.{name_is, table_at}
use Rattle.bt_schema.proofs.Indexes.{still_indexed, all_insert}
use Rattle.bt_schema.proofs.Named.{named_insert}
use Rattle.bt_schema.proofs.schema.Schema.add.Goals as goal

-- a name more leaves the tables where they are
pub invariant_of-self-in_err-insert-2 : goal.invariant_of-self-in_err-insert-2
invariant_of-self-in_err-insert-2 c =
    let tables = c.self.inside.tables.entries in
    let incarnation = c.args.table.incarnation in
    let kept : (q : ℕ) → is_at (nat_cmp incarnation) q ≡ false → lookup (is_at (nat_cmp q)) c.insert.new.self.entries ≡ lookup (is_at (nat_cmp q)) c.self.inside.names.entries = λ q e. search rules in
    let none : table_at incarnation tables ≡ None = ap (table_at incarnation) c.self.view_is ∙ c.requires.new in
    rw c.in_err-insert-2.ensures.err ((c.self.invariant.0.0, still_indexed incarnation c.self.inside.names.entries c.insert.new.self.entries kept tables none c.self.invariant.0.1), c.self.invariant.1)

-- the new table has its name at its incarnation
pub invariant_of-self-2 : goal.invariant_of-self-2
invariant_of-self-2 c =
    let tables = c.self.inside.tables.entries in
    let names = c.insert.new.self.entries in
    let table = c.args.table in
    let kept : (q : ℕ) → is_at (nat_cmp table.incarnation) q ≡ false → lookup (is_at (nat_cmp q)) names ≡ lookup (is_at (nat_cmp q)) c.self.inside.names.entries = λ q e. search rules in
    let none : table_at table.incarnation tables ≡ None = ap (table_at table.incarnation) c.self.view_is ∙ c.requires.new in
    let absent : lookup (name_is table.name) tables ≡ None = ap (lookup (name_is table.name)) c.self.view_is ∙ c.requires.absent in
    let name : c.in_ok-name.name ≡ table.name = c.in_ok-name.ensures in
    let indexed : c.in_ok-indexed.indexed ≡ table.name = c.in_ok-indexed.ensures in
    let put : lookup (is_at (nat_cmp table.incarnation)) names ≡ Some c.in_ok-indexed.indexed = search rules in
    let there : lookup (is_at (nat_cmp table.incarnation)) names ≡ Some table.name = put ∙ ap (λ (n : List ℕ). Some n) indexed in
    let still = still_indexed table.incarnation c.self.inside.names.entries names kept tables none c.self.invariant.0.1 in
    ((c.in_ok-insert-2.ensures.ordered, rw (c.in_ok-insert-2.ensures.entries, name) (all_insert names table.name table there tables absent still)), rw (c.in_ok-insert-2.ensures.entries, name) (named_insert table.name table refl tables absent c.self.invariant.1))

pub returns-clause-ok : goal.returns-clause-ok
returns-clause-ok c =
    let name : c.in_ok-name.name ≡ c.args.table.name = c.in_ok-name.ensures in
    rw (c.in_ok-insert-2.ensures.entries, name, c.self.view_is) refl
