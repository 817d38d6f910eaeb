use Rattle.std.proofs.Common.{◌≡◌, ◌∙◌, [], Some, false, ap, sym, subst, rules}
use Rattle.std.specs.Map.{lookup, set_value}
use Rattle.std.specs.Ordering.{nat_cmp}
use Rattle.std.specs.BTreeMap.{is_at}
use Rattle.std.specs.Option.{option_copied_mut}
use Rattle.std.specs.Prelude.{unwrap_or}
use Rattle.std.proofs.lemmas.Cmp.{nat_cmp_total}
use Rattle.bt_all_contents.specs.AllContents.{rows_of}
use Rattle.bt_contents.specs.Contents.{Contents, row_at, with_entry, with_row}
use Rattle.bt_all_contents.proofs.AllRows.{elsewhere, rows_sorted, tables_over, tables_without}
use Rattle.bt_row.proofs.Entries.{remove_set}
use Rattle.bt_contents.proofs.Lists.{gone_list, over_list}
use Rattle.bt_contents.proofs.Rows.{filled_of}
use Rattle.bt_all_contents.proofs.changes.settle_there.Goals as goal

-- the last row is gone, and so is the table
pub returns-then-is_empty-clause-tables : goal.returns-then-is_empty-clause-tables
returns-then-is_empty-clause-tables c =
    let all = c.args.tables.now.entries in
    let i = c.args.at.now.0 in
    let written : (c.get_mut.follows.lender c.settle.new.self).entries ≡ set_value (is_at (nat_cmp i)) all c.settle.new.self = search rules in
    rw (c.remove.ensures.entries, written, remove_set (is_at (nat_cmp i)) all c.settle.new.self) (tables_without i all c.requires.tables)

pub returns-then-is_empty-clause-elsewhere : goal.returns-then-is_empty-clause-elsewhere
returns-then-is_empty-clause-elsewhere c =
    let all = c.args.tables.now.entries in
    let i = c.args.at.now.0 in
    let key = c.args.at.now.1 in
    let found : lookup (is_at (nat_cmp i)) all ≡ Some c.in-Some.rows.now = sym c.get_mut.ensures.value ∙ ap option_copied_mut c.in-Some.is in
    let rows : rows_of i all ≡ c.in-Some.rows.now = ap (λ o. unwrap_or o []) found in
    let written : (c.get_mut.follows.lender c.settle.new.self).entries ≡ set_value (is_at (nat_cmp i)) all c.settle.new.self = search rules in
    let bare : c.settle.new.self ≡ [] = search rules in
    let changed : c.remove.new.self.entries ≡ with_entry nat_cmp i c.settle.new.self all = rw (c.remove.ensures.entries, written) (gone_list nat_cmp_total i c.settle.new.self all bare) in
    let put : c.settle.new.self ≡ with_row key (row_at key c.settle.new.self) (rows_of i all) = subst (λ (rs : Contents). c.settle.new.self ≡ with_row key (row_at key c.settle.new.self) rs) (sym rows) c.settle.ensures.row in
    elsewhere i key c.settle.new.self all c.remove.new.self.entries c.get_mut.ensures.ordered (rows_sorted all i c.requires.tables) changed (row_at key c.settle.new.self) put

-- there are rows
pub returns-else-is_empty-clause-tables : goal.returns-else-is_empty-clause-tables
returns-else-is_empty-clause-tables c =
    let all = c.args.tables.now.entries in
    let i = c.args.at.now.0 in
    let written : (c.get_mut.follows.lender c.settle.new.self).entries ≡ set_value (is_at (nat_cmp i)) all c.settle.new.self = search rules in
    let not_empty : c.is_empty.result ≡ false = search rules in
    let filled = filled_of c.is_empty.result c.settle.new.self c.is_empty.ensures.empty not_empty in
    rw written (tables_over i c.settle.new.self all c.requires.tables c.settle.ensures.table filled)

pub returns-else-is_empty-clause-elsewhere : goal.returns-else-is_empty-clause-elsewhere
returns-else-is_empty-clause-elsewhere c =
    let all = c.args.tables.now.entries in
    let i = c.args.at.now.0 in
    let key = c.args.at.now.1 in
    let found : lookup (is_at (nat_cmp i)) all ≡ Some c.in-Some.rows.now = sym c.get_mut.ensures.value ∙ ap option_copied_mut c.in-Some.is in
    let rows : rows_of i all ≡ c.in-Some.rows.now = ap (λ o. unwrap_or o []) found in
    let written : (c.get_mut.follows.lender c.settle.new.self).entries ≡ set_value (is_at (nat_cmp i)) all c.settle.new.self = search rules in
    let not_empty : c.is_empty.result ≡ false = search rules in
    let filled = filled_of c.is_empty.result c.settle.new.self c.is_empty.ensures.empty not_empty in
    let changed : (c.get_mut.follows.lender c.settle.new.self).entries ≡ with_entry nat_cmp i c.settle.new.self all = written ∙ over_list nat_cmp_total i c.settle.new.self all c.in-Some.rows.now c.get_mut.ensures.ordered found filled in
    let put : c.settle.new.self ≡ with_row key (row_at key c.settle.new.self) (rows_of i all) = subst (λ (rs : Contents). c.settle.new.self ≡ with_row key (row_at key c.settle.new.self) rs) (sym rows) c.settle.ensures.row in
    elsewhere i key c.settle.new.self all (c.get_mut.follows.lender c.settle.new.self).entries c.get_mut.ensures.ordered (rows_sorted all i c.requires.tables) changed (row_at key c.settle.new.self) put
