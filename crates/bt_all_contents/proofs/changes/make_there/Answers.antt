use Rattle.std.proofs.Common.{◌≡◌, ◌∙◌, [], Some, ap, sym, subst, rules}
use Rattle.std.specs.Map.{lookup, set_value}
use Rattle.std.specs.Ordering.{nat_cmp}
use Rattle.std.specs.BTreeMap.{is_at}
use Rattle.std.specs.Option.{option_copied_mut}
use Rattle.std.specs.Prelude.{unwrap_or}
use Rattle.std.proofs.lemmas.Cmp.{nat_cmp_total}
use Rattle.std.proofs.lemmas.Map.Steps.{set_value_same}
use Rattle.bt_all_contents.specs.AllContents.{rows_of}
use Rattle.bt_contents.specs.Contents.{Contents, row_at, with_entry, with_row}
use Rattle.bt_all_contents.proofs.AllRows.{elsewhere, found_table, rows_sorted, tables_over}
use Rattle.bt_contents.proofs.Lists.{over_list}
use Rattle.bt_all_contents.proofs.changes.make_there.Goals as goal

-- where memory was short, the table has the rows that it had
pub returns-in_err-make_places-clause-err : goal.returns-in_err-make_places-clause-err
returns-in_err-make_places-clause-err c =
    let all = c.args.tables.now.entries in
    let i = c.args.at.now.0 in
    let found : lookup (is_at (nat_cmp i)) all ≡ Some c.in-Some.rows.now = sym c.get_mut.ensures.value ∙ ap option_copied_mut c.in-Some.is in
    let written : (c.get_mut.follows.lender c.make_places.new.self).entries ≡ set_value (is_at (nat_cmp i)) all c.make_places.new.self = search rules in
    let same : (c.get_mut.follows.lender c.make_places.new.self).entries ≡ all = written ∙ ap (set_value (is_at (nat_cmp i)) all) c.in_err-make_places.ensures.err ∙ set_value_same (is_at (nat_cmp i)) all c.in-Some.rows.now found in
    search (rules, same)

pub returns-in_err-make_places-clause-tables : goal.returns-in_err-make_places-clause-tables
returns-in_err-make_places-clause-tables c =
    let all = c.args.tables.now.entries in
    let i = c.args.at.now.0 in
    let table = found_table all c.in-Some.rows.now c.requires.tables c.in-Some.ensures.member in
    let written : (c.get_mut.follows.lender c.make_places.new.self).entries ≡ set_value (is_at (nat_cmp i)) all c.make_places.new.self = search rules in
    rw written (tables_over i c.make_places.new.self all c.requires.tables c.in_err-make_places.ensures.table (rw c.in_err-make_places.ensures.err table.1))

-- the row has places
pub returns-clause-tables : goal.returns-clause-tables
returns-clause-tables c =
    let all = c.args.tables.now.entries in
    let i = c.args.at.now.0 in
    let table = found_table all c.in-Some.rows.now c.requires.tables c.in-Some.ensures.member in
    let written : (c.get_mut.follows.lender c.make_places.new.self).entries ≡ set_value (is_at (nat_cmp i)) all c.make_places.new.self = search rules in
    rw written (tables_over i c.make_places.new.self all c.requires.tables c.in_ok-make_places.ensures.table (c.in_ok-make_places.ensures.filled table.1))

pub returns-clause-elsewhere : goal.returns-clause-elsewhere
returns-clause-elsewhere c =
    let all = c.args.tables.now.entries in
    let i = c.args.at.now.0 in
    let key = c.args.at.now.1 in
    let new = c.make_places.new.self in
    let table = found_table all c.in-Some.rows.now c.requires.tables c.in-Some.ensures.member in
    let found : lookup (is_at (nat_cmp i)) all ≡ Some c.in-Some.rows.now = sym c.get_mut.ensures.value ∙ ap option_copied_mut c.in-Some.is in
    let rows : rows_of i all ≡ c.in-Some.rows.now = ap (λ o. unwrap_or o []) found in
    let written : (c.get_mut.follows.lender new).entries ≡ set_value (is_at (nat_cmp i)) all new = search rules in
    let changed : (c.get_mut.follows.lender new).entries ≡ with_entry nat_cmp i new all = written ∙ over_list nat_cmp_total i new all c.in-Some.rows.now c.get_mut.ensures.ordered found (c.in_ok-make_places.ensures.filled table.1) in
    let put : new ≡ with_row key (row_at key new) (rows_of i all) = subst (λ (rs : Contents). new ≡ with_row key (row_at key new) rs) (sym rows) c.in_ok-make_places.ensures.row in
    elsewhere i key new all (c.get_mut.follows.lender new).entries c.get_mut.ensures.ordered (rows_sorted all i c.requires.tables) changed (row_at key new) put
