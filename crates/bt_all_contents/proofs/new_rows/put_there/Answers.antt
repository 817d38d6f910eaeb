use Rattle.std.proofs.Common.{◌≡◌, ◌<◌, ◌∙◌, [], None, Some, false, ap, length, sym, rules}
use Rattle.std.specs.Map.{lookup, set_value}
use Rattle.std.specs.Ordering.{nat_cmp}
use Rattle.std.specs.BTreeMap.{is_at}
use Rattle.std.specs.Option.{option_copied_mut}
use Rattle.std.specs.Prelude.{unwrap_or}
use Rattle.std.proofs.lemmas.Cmp.{nat_cmp_total, nat_list_cmp_total}
use Rattle.std.proofs.lemmas.Map.Steps.{set_value_same}
use Rattle.bt_row.specs.Keys.{cells_of}
use Rattle.bt_all_contents.specs.AllContents.{cells_there, rows_of}
use Rattle.bt_contents.specs.Contents.{Contents, with_entry, with_row}
use Rattle.bt_all_contents.proofs.AllRows.{elsewhere, found_table, here, rows_sorted, tables_new, tables_over}
use Rattle.bt_contents.proofs.Lists.{over_list, some_with, with_filled}
use Rattle.bt_contents.proofs.Rows.{cells_filled, filled_of}
use Rattle.bt_all_contents.proofs.new_rows.put_there.Goals as goal

-- the table has the row
pub returns-in_ok-put-in-Some-clause-tables : goal.returns-in_ok-put-in-Some-clause-tables
returns-in_ok-put-in-Some-clause-tables c =
    let all = c.args.tables.now.entries in
    let i = c.args.at.0 in
    let key = c.args.at.1 in
    let es = c.args.row.cells.entries in
    let not_empty : c.is_empty.result ≡ false = search rules in
    let filled = filled_of c.is_empty.result es c.is_empty.ensures not_empty in
    let new = c.put.new.self in
    let found : lookup (is_at (nat_cmp i)) all ≡ Some c.in-Some.rows.now = sym c.get_mut.ensures.value ∙ ap option_copied_mut c.in-Some.is in
    let put : new ≡ with_row key (cells_of es) (rows_of i all) = c.in_ok-put-in-Some.ensures.ok ∙ ap (λ (rs : Contents). with_row key (cells_of es) rs) (sym (ap (λ o. unwrap_or o []) found)) in
    let some : 0 < length new = rw put (some_with nat_list_cmp_total key (cells_of es) (rows_of i all) (cells_filled es filled)) in
    let written : (c.get_mut.follows.lender new).entries ≡ set_value (is_at (nat_cmp i)) all new = search rules in
    rw written (tables_over i new all c.requires.tables c.in_ok-put-in-Some.ensures.table some)

pub returns-in_ok-put-in-Some-clause-elsewhere : goal.returns-in_ok-put-in-Some-clause-elsewhere
returns-in_ok-put-in-Some-clause-elsewhere c =
    let all = c.args.tables.now.entries in
    let i = c.args.at.0 in
    let key = c.args.at.1 in
    let es = c.args.row.cells.entries in
    let not_empty : c.is_empty.result ≡ false = search rules in
    let filled = filled_of c.is_empty.result es c.is_empty.ensures not_empty in
    let new = c.put.new.self in
    let found : lookup (is_at (nat_cmp i)) all ≡ Some c.in-Some.rows.now = sym c.get_mut.ensures.value ∙ ap option_copied_mut c.in-Some.is in
    let put : new ≡ with_row key (cells_of es) (rows_of i all) = c.in_ok-put-in-Some.ensures.ok ∙ ap (λ (rs : Contents). with_row key (cells_of es) rs) (sym (ap (λ o. unwrap_or o []) found)) in
    let some : 0 < length new = rw put (some_with nat_list_cmp_total key (cells_of es) (rows_of i all) (cells_filled es filled)) in
    let written : (c.get_mut.follows.lender new).entries ≡ set_value (is_at (nat_cmp i)) all new = search rules in
    let changed : (c.get_mut.follows.lender new).entries ≡ with_entry nat_cmp i new all = written ∙ over_list nat_cmp_total i new all c.in-Some.rows.now c.get_mut.ensures.ordered found some in
    elsewhere i key new all (c.get_mut.follows.lender new).entries c.get_mut.ensures.ordered (rows_sorted all i c.requires.tables) changed (cells_of es) put

pub returns-in_ok-put-in-Some-clause-ok : goal.returns-in_ok-put-in-Some-clause-ok
returns-in_ok-put-in-Some-clause-ok c =
    let all = c.args.tables.now.entries in
    let i = c.args.at.0 in
    let key = c.args.at.1 in
    let es = c.args.row.cells.entries in
    let not_empty : c.is_empty.result ≡ false = search rules in
    let filled = filled_of c.is_empty.result es c.is_empty.ensures not_empty in
    let new = c.put.new.self in
    let found : lookup (is_at (nat_cmp i)) all ≡ Some c.in-Some.rows.now = sym c.get_mut.ensures.value ∙ ap option_copied_mut c.in-Some.is in
    let put : new ≡ with_row key (cells_of es) (rows_of i all) = c.in_ok-put-in-Some.ensures.ok ∙ ap (λ (rs : Contents). with_row key (cells_of es) rs) (sym (ap (λ o. unwrap_or o []) found)) in
    let some : 0 < length new = rw put (some_with nat_list_cmp_total key (cells_of es) (rows_of i all) (cells_filled es filled)) in
    let written : (c.get_mut.follows.lender new).entries ≡ set_value (is_at (nat_cmp i)) all new = search rules in
    let changed : (c.get_mut.follows.lender new).entries ≡ with_entry nat_cmp i new all = written ∙ over_list nat_cmp_total i new all c.in-Some.rows.now c.get_mut.ensures.ordered found some in
    here i key new all (c.get_mut.follows.lender new).entries c.get_mut.ensures.ordered (rows_sorted all i c.requires.tables) changed es put

-- where memory was short, it has the rows that it had
pub returns-in_err-put-in-Some-clause-tables : goal.returns-in_err-put-in-Some-clause-tables
returns-in_err-put-in-Some-clause-tables c =
    let all = c.args.tables.now.entries in
    let i = c.args.at.0 in
    let table = found_table all c.in-Some.rows.now c.requires.tables c.in-Some.ensures.member in
    let written : (c.get_mut.follows.lender c.put.new.self).entries ≡ set_value (is_at (nat_cmp i)) all c.put.new.self = search rules in
    rw written (tables_over i c.put.new.self all c.requires.tables c.in_err-put-in-Some.ensures.table (rw c.in_err-put-in-Some.ensures.err table.1))

pub returns-in_err-put-in-Some-clause-elsewhere : goal.returns-in_err-put-in-Some-clause-elsewhere
returns-in_err-put-in-Some-clause-elsewhere c =
    let all = c.args.tables.now.entries in
    let i = c.args.at.0 in
    let found : lookup (is_at (nat_cmp i)) all ≡ Some c.in-Some.rows.now = sym c.get_mut.ensures.value ∙ ap option_copied_mut c.in-Some.is in
    let written : (c.get_mut.follows.lender c.put.new.self).entries ≡ set_value (is_at (nat_cmp i)) all c.put.new.self = search rules in
    let same : (c.get_mut.follows.lender c.put.new.self).entries ≡ all = written ∙ ap (set_value (is_at (nat_cmp i)) all) c.in_err-put-in-Some.ensures.err ∙ set_value_same (is_at (nat_cmp i)) all c.in-Some.rows.now found in
    λ a other. ap (λ ts. cells_there ts a) same

-- a new table has the row
pub returns-in_ok-insert-in-None-clause-tables : goal.returns-in_ok-insert-in-None-clause-tables
returns-in_ok-insert-in-None-clause-tables c =
    let all = c.args.tables.now.entries in
    let i = c.args.at.0 in
    let key = c.args.at.1 in
    let es = c.args.row.cells.entries in
    let not_empty : c.is_empty.result ≡ false = search rules in
    let filled = filled_of c.is_empty.result es c.is_empty.ensures not_empty in
    let new = c.put-in-None.new.self in
    let unchanged : (c.get_mut.follows.lender-at-none).entries ≡ all = search rules in
    let absent : lookup (is_at (nat_cmp i)) all ≡ None = sym c.get_mut.ensures.value ∙ ap option_copied_mut c.in-None.is in
    let put : new ≡ with_row key (cells_of es) (rows_of i all) = c.in_ok-put-in-None.ensures.ok ∙ ap (λ (rs : Contents). with_row key (cells_of es) rs) (c.new-rows.ensures ∙ sym (ap (λ o. unwrap_or o []) absent)) in
    let some : 0 < length new = rw put (some_with nat_list_cmp_total key (cells_of es) (rows_of i all) (cells_filled es filled)) in
    rw (c.in_ok-insert-in-None.ensures.entries, unchanged) (tables_new i new all c.requires.tables c.in_ok-put-in-None.ensures.table some)

pub returns-in_ok-insert-in-None-clause-elsewhere : goal.returns-in_ok-insert-in-None-clause-elsewhere
returns-in_ok-insert-in-None-clause-elsewhere c =
    let all = c.args.tables.now.entries in
    let i = c.args.at.0 in
    let key = c.args.at.1 in
    let es = c.args.row.cells.entries in
    let not_empty : c.is_empty.result ≡ false = search rules in
    let filled = filled_of c.is_empty.result es c.is_empty.ensures not_empty in
    let new = c.put-in-None.new.self in
    let unchanged : (c.get_mut.follows.lender-at-none).entries ≡ all = search rules in
    let absent : lookup (is_at (nat_cmp i)) all ≡ None = sym c.get_mut.ensures.value ∙ ap option_copied_mut c.in-None.is in
    let put : new ≡ with_row key (cells_of es) (rows_of i all) = c.in_ok-put-in-None.ensures.ok ∙ ap (λ (rs : Contents). with_row key (cells_of es) rs) (c.new-rows.ensures ∙ sym (ap (λ o. unwrap_or o []) absent)) in
    let some : 0 < length new = rw put (some_with nat_list_cmp_total key (cells_of es) (rows_of i all) (cells_filled es filled)) in
    let changed : c.insert.new.self.entries ≡ with_entry nat_cmp i new all = rw (c.in_ok-insert-in-None.ensures.entries, unchanged) (sym (with_filled nat_cmp_total i new all some)) in
    elsewhere i key new all c.insert.new.self.entries c.requires.tables.sorted (rows_sorted all i c.requires.tables) changed (cells_of es) put

pub returns-in_ok-insert-in-None-clause-ok : goal.returns-in_ok-insert-in-None-clause-ok
returns-in_ok-insert-in-None-clause-ok c =
    let all = c.args.tables.now.entries in
    let i = c.args.at.0 in
    let key = c.args.at.1 in
    let es = c.args.row.cells.entries in
    let not_empty : c.is_empty.result ≡ false = search rules in
    let filled = filled_of c.is_empty.result es c.is_empty.ensures not_empty in
    let new = c.put-in-None.new.self in
    let unchanged : (c.get_mut.follows.lender-at-none).entries ≡ all = search rules in
    let absent : lookup (is_at (nat_cmp i)) all ≡ None = sym c.get_mut.ensures.value ∙ ap option_copied_mut c.in-None.is in
    let put : new ≡ with_row key (cells_of es) (rows_of i all) = c.in_ok-put-in-None.ensures.ok ∙ ap (λ (rs : Contents). with_row key (cells_of es) rs) (c.new-rows.ensures ∙ sym (ap (λ o. unwrap_or o []) absent)) in
    let some : 0 < length new = rw put (some_with nat_list_cmp_total key (cells_of es) (rows_of i all) (cells_filled es filled)) in
    let changed : c.insert.new.self.entries ≡ with_entry nat_cmp i new all = rw (c.in_ok-insert-in-None.ensures.entries, unchanged) (sym (with_filled nat_cmp_total i new all some)) in
    here i key new all c.insert.new.self.entries c.requires.tables.sorted (rows_sorted all i c.requires.tables) changed es put
