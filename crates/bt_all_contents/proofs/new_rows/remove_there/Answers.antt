use Rattle.std.proofs.Common.{◌≡◌, ◌∙◌, [], Some, false, ap, sym, rules}
use Rattle.std.specs.Map.{lookup, set_value}
use Rattle.std.specs.Ordering.{nat_cmp}
use Rattle.std.specs.BTreeMap.{is_at}
use Rattle.std.specs.Option.{option_copied_mut}
use Rattle.std.specs.Prelude.{unwrap_or}
use Rattle.std.proofs.lemmas.Cmp.{nat_cmp_total}
use Rattle.bt_all_contents.specs.AllContents.{rows_of}
use Rattle.bt_contents.specs.Contents.{Contents, with_entry, with_row}
use Rattle.bt_all_contents.proofs.AllRows.{one_gone, rows_sorted, tables_over, tables_without}
use Rattle.bt_row.proofs.Entries.{remove_set}
use Rattle.bt_contents.proofs.Lists.{gone_list, over_list}
use Rattle.bt_contents.proofs.Rows.{filled_of}
use Rattle.bt_all_contents.proofs.new_rows.remove_there.Goals as goal

-- the last row is gone, and so is the table
pub returns-then-is_empty-clause-tables : goal.returns-then-is_empty-clause-tables
returns-then-is_empty-clause-tables c =
    let all = c.args.tables.now.entries in
    let i = c.args.at.now.0 in
    let key = c.args.at.now.1 in
    let new = c.remove.new.self in
    let found : lookup (is_at (nat_cmp i)) all ≡ Some c.in-Some.rows.now = sym c.get_mut.ensures.value ∙ ap option_copied_mut c.in-Some.is in
    let put : new ≡ with_row key [] (rows_of i all) = c.remove.ensures.row ∙ ap (λ (rs : Contents). with_row key [] rs) (sym (ap (λ o. unwrap_or o []) found)) in
    let written : (c.get_mut.follows.lender new).entries ≡ set_value (is_at (nat_cmp i)) all new = search rules in
    rw (c.remove-then-is_empty.ensures.entries, written, remove_set (is_at (nat_cmp i)) all new) (tables_without i all c.requires)

pub returns-then-is_empty-clause-rows : goal.returns-then-is_empty-clause-rows
returns-then-is_empty-clause-rows c =
    let all = c.args.tables.now.entries in
    let i = c.args.at.now.0 in
    let key = c.args.at.now.1 in
    let new = c.remove.new.self in
    let found : lookup (is_at (nat_cmp i)) all ≡ Some c.in-Some.rows.now = sym c.get_mut.ensures.value ∙ ap option_copied_mut c.in-Some.is in
    let put : new ≡ with_row key [] (rows_of i all) = c.remove.ensures.row ∙ ap (λ (rs : Contents). with_row key [] rs) (sym (ap (λ o. unwrap_or o []) found)) in
    let written : (c.get_mut.follows.lender new).entries ≡ set_value (is_at (nat_cmp i)) all new = search rules in
    let bare : new ≡ [] = search rules in
    let changed : c.remove-then-is_empty.new.self.entries ≡ with_entry nat_cmp i new all = rw (c.remove-then-is_empty.ensures.entries, written) (gone_list nat_cmp_total i new all bare) in
    one_gone i key new all c.remove-then-is_empty.new.self.entries c.get_mut.ensures.ordered (rows_sorted all i c.requires) changed put

-- there are rows
pub returns-else-is_empty-clause-tables : goal.returns-else-is_empty-clause-tables
returns-else-is_empty-clause-tables c =
    let all = c.args.tables.now.entries in
    let i = c.args.at.now.0 in
    let key = c.args.at.now.1 in
    let new = c.remove.new.self in
    let found : lookup (is_at (nat_cmp i)) all ≡ Some c.in-Some.rows.now = sym c.get_mut.ensures.value ∙ ap option_copied_mut c.in-Some.is in
    let put : new ≡ with_row key [] (rows_of i all) = c.remove.ensures.row ∙ ap (λ (rs : Contents). with_row key [] rs) (sym (ap (λ o. unwrap_or o []) found)) in
    let written : (c.get_mut.follows.lender new).entries ≡ set_value (is_at (nat_cmp i)) all new = search rules in
    let not_empty : c.is_empty.result ≡ false = search rules in
    let filled = filled_of c.is_empty.result new c.is_empty.ensures.empty not_empty in
    rw written (tables_over i new all c.requires c.remove.ensures.table filled)

pub returns-else-is_empty-clause-rows : goal.returns-else-is_empty-clause-rows
returns-else-is_empty-clause-rows c =
    let all = c.args.tables.now.entries in
    let i = c.args.at.now.0 in
    let key = c.args.at.now.1 in
    let new = c.remove.new.self in
    let found : lookup (is_at (nat_cmp i)) all ≡ Some c.in-Some.rows.now = sym c.get_mut.ensures.value ∙ ap option_copied_mut c.in-Some.is in
    let put : new ≡ with_row key [] (rows_of i all) = c.remove.ensures.row ∙ ap (λ (rs : Contents). with_row key [] rs) (sym (ap (λ o. unwrap_or o []) found)) in
    let written : (c.get_mut.follows.lender new).entries ≡ set_value (is_at (nat_cmp i)) all new = search rules in
    let not_empty : c.is_empty.result ≡ false = search rules in
    let filled = filled_of c.is_empty.result new c.is_empty.ensures.empty not_empty in
    let changed : (c.get_mut.follows.lender new).entries ≡ with_entry nat_cmp i new all = written ∙ over_list nat_cmp_total i new all c.in-Some.rows.now c.get_mut.ensures.ordered found filled in
    one_gone i key new all (c.get_mut.follows.lender new).entries c.get_mut.ensures.ordered (rows_sorted all i c.requires) changed put
