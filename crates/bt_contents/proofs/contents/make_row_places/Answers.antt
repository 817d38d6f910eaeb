use Rattle.std.proofs.Common.{◌≡◌, ◌∙◌, Some, None, ap, sym, subst, rules}
use Rattle.std.specs.Map.{lookup, set_value}
use Rattle.std.specs.Option.{option_copied_mut}
use Rattle.bt_row.specs.declared.cell_key.CellKey.{CellKey}
use Rattle.bt_contents.specs.Contents.{key_is, seen}
use Rattle.bt_row.specs.Keys.{Keyed}
use Rattle.bt_row.specs.Plans.{IsPlan, placed, value_at}
use Rattle.bt_contents.proofs.Rows.{found_held, held_over, keyed_after, keyed_found, none_there, over_row, places_filled, row_is, same_row, some_after}
use Rattle.bt_contents.proofs.contents.make_row_places.Goals as goal

pub make_places-requires-clause-plan : goal.make_places-requires-clause-plan
make_places-requires-clause-plan c =
    let rows = c.args.rows.now.entries in
    let k = c.args.key.now in
    let found : lookup (key_is k) rows ≡ Some c.in-Some.row.now = sym c.get_mut.ensures.value ∙ ap option_copied_mut c.in-Some.is in
    subst (IsPlan c.args.plan.now) (keyed_found k rows c.in-Some.row.now found) c.requires.plan

-- a row that has cells is there
pub unreachable-requires : goal.unreachable-requires
unreachable-requires c =
    let rows = c.args.rows.now.entries in
    let k = c.args.key.now in
    let absent : lookup (key_is k) rows ≡ None = sym c.get_mut.ensures.value ∙ ap option_copied_mut c.in-None.is in
    none_there k rows absent c.requires.there

-- where memory was short, the row has what it had
pub returns-in_err-make_places-in-Some-clause-err : goal.returns-in_err-make_places-in-Some-clause-err
returns-in_err-make_places-in-Some-clause-err c =
    let rows = c.args.rows.now.entries in
    let k = c.args.key.now in
    let found : lookup (key_is k) rows ≡ Some c.in-Some.row.now = sym c.get_mut.ensures.value ∙ ap option_copied_mut c.in-Some.is in
    let written : (c.get_mut.follows.lender c.make_places.new.self).entries ≡ set_value (key_is k) rows c.make_places.new.self = search rules in
    let same : seen (c.get_mut.follows.lender c.make_places.new.self).entries ≡ seen rows = ap seen written ∙ same_row k rows c.in-Some.row.now c.make_places.new.self found c.in_err-make_places-in-Some.ensures.err in
    search (rules, same)

pub returns-in_err-make_places-in-Some-clause-held : goal.returns-in_err-make_places-in-Some-clause-held
returns-in_err-make_places-in-Some-clause-held c =
    let rows = c.args.rows.now.entries in
    let k = c.args.key.now in
    let row = found_held rows c.in-Some.row.now c.requires.held c.in-Some.ensures.member in
    let written : (c.get_mut.follows.lender c.make_places.new.self).entries ≡ set_value (key_is k) rows c.make_places.new.self = search rules in
    rw written (held_over k rows c.make_places.new.self c.requires.held c.in_err-make_places-in-Some.ensures.sound (rw c.in_err-make_places-in-Some.ensures.err row.1))

-- the row has places
pub returns-clause-row : goal.returns-clause-row
returns-clause-row c =
    let rows = c.args.rows.now.entries in
    let k = c.args.key.now in
    let new = c.make_places.new.self in
    let row = found_held rows c.in-Some.row.now c.requires.held c.in-Some.ensures.member in
    let found : lookup (key_is k) rows ≡ Some c.in-Some.row.now = sym c.get_mut.ensures.value ∙ ap option_copied_mut c.in-Some.is in
    let written : (c.get_mut.follows.lender new).entries ≡ set_value (key_is k) rows new = search rules in
    let filled = places_filled c.args.plan.now.outcomes.entries c.in-Some.row.now.cells.entries new.cells.entries row.1 c.in_ok-make_places-in-Some.ensures.values in
    row_is k rows c.get_mut.ensures.ordered new (seen (c.get_mut.follows.lender new).entries) (ap seen written ∙ over_row k rows c.in-Some.row.now new c.get_mut.ensures.ordered found filled)

pub returns-clause-values : goal.returns-clause-values
returns-clause-values c =
    let rows = c.args.rows.now.entries in
    let k = c.args.key.now in
    let new = c.make_places.new.self in
    let row = found_held rows c.in-Some.row.now c.requires.held c.in-Some.ensures.member in
    let found : lookup (key_is k) rows ≡ Some c.in-Some.row.now = sym c.get_mut.ensures.value ∙ ap option_copied_mut c.in-Some.is in
    let written : (c.get_mut.follows.lender new).entries ≡ set_value (key_is k) rows new = search rules in
    let filled = places_filled c.args.plan.now.outcomes.entries c.in-Some.row.now.cells.entries new.cells.entries row.1 c.in_ok-make_places-in-Some.ensures.values in
    let cells = keyed_after k rows c.get_mut.ensures.ordered new (seen (c.get_mut.follows.lender new).entries) (ap seen written ∙ over_row k rows c.in-Some.row.now new c.get_mut.ensures.ordered found filled) in
    λ (j : CellKey). ap (λ (es : Keyed). value_at es j) cells ∙ c.in_ok-make_places-in-Some.ensures.values j ∙ ap (λ (es : Keyed). placed c.args.plan.now.outcomes.entries (value_at es) j) (sym (keyed_found k rows c.in-Some.row.now found))

pub returns-clause-held : goal.returns-clause-held
returns-clause-held c =
    let rows = c.args.rows.now.entries in
    let k = c.args.key.now in
    let new = c.make_places.new.self in
    let row = found_held rows c.in-Some.row.now c.requires.held c.in-Some.ensures.member in
    let written : (c.get_mut.follows.lender new).entries ≡ set_value (key_is k) rows new = search rules in
    let filled = places_filled c.args.plan.now.outcomes.entries c.in-Some.row.now.cells.entries new.cells.entries row.1 c.in_ok-make_places-in-Some.ensures.values in
    rw written (held_over k rows new c.requires.held c.in_ok-make_places-in-Some.ensures.sound filled)

-- there are rows still
pub returns-clause-filled : goal.returns-clause-filled
returns-clause-filled c =
    let rows = c.args.rows.now.entries in
    let k = c.args.key.now in
    let new = c.make_places.new.self in
    let row = found_held rows c.in-Some.row.now c.requires.held c.in-Some.ensures.member in
    let found : lookup (key_is k) rows ≡ Some c.in-Some.row.now = sym c.get_mut.ensures.value ∙ ap option_copied_mut c.in-Some.is in
    let written : (c.get_mut.follows.lender new).entries ≡ set_value (key_is k) rows new = search rules in
    let filled = places_filled c.args.plan.now.outcomes.entries c.in-Some.row.now.cells.entries new.cells.entries row.1 c.in_ok-make_places-in-Some.ensures.values in
    λ some. some_after k rows c.get_mut.ensures.ordered new (seen (c.get_mut.follows.lender new).entries) (ap seen written ∙ over_row k rows c.in-Some.row.now new c.get_mut.ensures.ordered found filled) filled
