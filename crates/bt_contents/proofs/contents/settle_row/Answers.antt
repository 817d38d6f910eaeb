use Rattle.std.proofs.Common.{◌≡◌, ◌∙◌, [], Some, None, false, ap, sym, subst, rules}
use Rattle.std.specs.Map.{lookup, set_value}
use Rattle.std.specs.Option.{option_copied_mut}
use Rattle.bt_row.specs.declared.cell_key.CellKey.{CellKey}
use Rattle.bt_contents.specs.Contents.{key_is, seen, with_row}
use Rattle.bt_row.specs.Keys.{Keyed, cells_of}
use Rattle.bt_row.specs.Plans.{CanSettle, settled, value_at}
use Rattle.bt_contents.proofs.Rows.{absent_itself, filled_of, gone_row, held_gone, held_over, keyed_absent, keyed_after, keyed_found, over_row, row_is, settled_none}
use Rattle.bt_contents.proofs.contents.settle_row.Goals as goal

-- there is no row, and none is left
pub returns-in_default-clause-row : goal.returns-in_default-clause-row
returns-in_default-clause-row c =
    let rows = c.args.rows.now.entries in
    let k = c.args.key.now in
    let unchanged : (c.get_mut.follows.lender-at-none).entries ≡ rows = search rules in
    let absent : lookup (key_is k) rows ≡ None = sym c.get_mut.ensures.value ∙ ap option_copied_mut c.in_default.is in
    rw unchanged (absent_itself k rows absent)

pub returns-in_default-clause-values : goal.returns-in_default-clause-values
returns-in_default-clause-values c =
    let rows = c.args.rows.now.entries in
    let k = c.args.key.now in
    let unchanged : (c.get_mut.follows.lender-at-none).entries ≡ rows = search rules in
    let absent : lookup (key_is k) rows ≡ None = sym c.get_mut.ensures.value ∙ ap option_copied_mut c.in_default.is in
    let cells = keyed_absent k rows absent in
    λ (j : CellKey). rw (unchanged, cells) (settled_none c.args.ending c.args.plan (subst (CanSettle c.args.ending c.args.plan) cells c.requires.can) j)

pub settle-requires-clause-can : goal.settle-requires-clause-can
settle-requires-clause-can c =
    let rows = c.args.rows.now.entries in
    let k = c.args.key.now in
    let found : lookup (key_is k) rows ≡ Some c.in-Some.row.now = sym c.get_mut.ensures.value ∙ ap option_copied_mut c.in-Some.is in
    subst (CanSettle c.args.ending c.args.plan) (keyed_found k rows c.in-Some.row.now found) c.requires.can

-- the last cell is gone
pub returns-then-is_empty-clause-row : goal.returns-then-is_empty-clause-row
returns-then-is_empty-clause-row c =
    let rows = c.args.rows.now.entries in
    let k = c.args.key.now in
    let written : (c.get_mut.follows.lender c.settle.new.self).entries ≡ set_value (key_is k) rows c.settle.new.self = search rules in
    let bare : c.settle.new.self.cells.entries ≡ [] = search rules in
    let after : seen c.remove.new.self.entries ≡ with_row k (cells_of c.settle.new.self.cells.entries) (seen rows) = rw (c.remove.ensures.entries, written) (gone_row k rows c.settle.new.self bare) in
    row_is k rows c.get_mut.ensures.ordered c.settle.new.self (seen c.remove.new.self.entries) after

pub returns-then-is_empty-clause-values : goal.returns-then-is_empty-clause-values
returns-then-is_empty-clause-values c =
    let rows = c.args.rows.now.entries in
    let k = c.args.key.now in
    let found : lookup (key_is k) rows ≡ Some c.in-Some.row.now = sym c.get_mut.ensures.value ∙ ap option_copied_mut c.in-Some.is in
    let written : (c.get_mut.follows.lender c.settle.new.self).entries ≡ set_value (key_is k) rows c.settle.new.self = search rules in
    let bare : c.settle.new.self.cells.entries ≡ [] = search rules in
    let after : seen c.remove.new.self.entries ≡ with_row k (cells_of c.settle.new.self.cells.entries) (seen rows) = rw (c.remove.ensures.entries, written) (gone_row k rows c.settle.new.self bare) in
    let cells = keyed_after k rows c.get_mut.ensures.ordered c.settle.new.self (seen c.remove.new.self.entries) after in
    λ (j : CellKey). ap (λ (es : Keyed). value_at es j) cells ∙ c.settle.ensures.values j ∙ ap (λ (es : Keyed). settled c.args.ending c.args.plan es j) (sym (keyed_found k rows c.in-Some.row.now found))

pub returns-then-is_empty-clause-held : goal.returns-then-is_empty-clause-held
returns-then-is_empty-clause-held c =
    let rows = c.args.rows.now.entries in
    let k = c.args.key.now in
    let written : (c.get_mut.follows.lender c.settle.new.self).entries ≡ set_value (key_is k) rows c.settle.new.self = search rules in
    rw (c.remove.ensures.entries, written) (held_gone k rows c.settle.new.self c.requires.held)

-- there are cells
pub returns-else-is_empty-clause-row : goal.returns-else-is_empty-clause-row
returns-else-is_empty-clause-row c =
    let rows = c.args.rows.now.entries in
    let k = c.args.key.now in
    let found : lookup (key_is k) rows ≡ Some c.in-Some.row.now = sym c.get_mut.ensures.value ∙ ap option_copied_mut c.in-Some.is in
    let written : (c.get_mut.follows.lender c.settle.new.self).entries ≡ set_value (key_is k) rows c.settle.new.self = search rules in
    let not_empty : c.is_empty.result ≡ false = search rules in
    let filled = filled_of c.is_empty.result c.settle.new.self.cells.entries c.is_empty.ensures not_empty in
    row_is k rows c.get_mut.ensures.ordered c.settle.new.self (seen (c.get_mut.follows.lender c.settle.new.self).entries) (ap seen written ∙ over_row k rows c.in-Some.row.now c.settle.new.self c.get_mut.ensures.ordered found filled)

pub returns-else-is_empty-clause-values : goal.returns-else-is_empty-clause-values
returns-else-is_empty-clause-values c =
    let rows = c.args.rows.now.entries in
    let k = c.args.key.now in
    let found : lookup (key_is k) rows ≡ Some c.in-Some.row.now = sym c.get_mut.ensures.value ∙ ap option_copied_mut c.in-Some.is in
    let written : (c.get_mut.follows.lender c.settle.new.self).entries ≡ set_value (key_is k) rows c.settle.new.self = search rules in
    let not_empty : c.is_empty.result ≡ false = search rules in
    let filled = filled_of c.is_empty.result c.settle.new.self.cells.entries c.is_empty.ensures not_empty in
    let cells = keyed_after k rows c.get_mut.ensures.ordered c.settle.new.self (seen (c.get_mut.follows.lender c.settle.new.self).entries) (ap seen written ∙ over_row k rows c.in-Some.row.now c.settle.new.self c.get_mut.ensures.ordered found filled) in
    λ (j : CellKey). ap (λ (es : Keyed). value_at es j) cells ∙ c.settle.ensures.values j ∙ ap (λ (es : Keyed). settled c.args.ending c.args.plan es j) (sym (keyed_found k rows c.in-Some.row.now found))

pub returns-else-is_empty-clause-held : goal.returns-else-is_empty-clause-held
returns-else-is_empty-clause-held c =
    let rows = c.args.rows.now.entries in
    let k = c.args.key.now in
    let written : (c.get_mut.follows.lender c.settle.new.self).entries ≡ set_value (key_is k) rows c.settle.new.self = search rules in
    let not_empty : c.is_empty.result ≡ false = search rules in
    let filled = filled_of c.is_empty.result c.settle.new.self.cells.entries c.is_empty.ensures not_empty in
    rw written (held_over k rows c.settle.new.self c.requires.held c.settle.ensures.sound filled)
