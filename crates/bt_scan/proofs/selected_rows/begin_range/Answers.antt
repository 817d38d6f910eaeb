use Rattle.std.proofs.Common.{rules, ◌≡◌, ◌<◌, ◌≤◌, [], drop, length, get_or, sym, ap, ◌∙◌, subst}
use Rattle.std.proofs.lemmas.List.{drop_all}
use Rattle.bt_scan.specs.Selection.{AreSorted, Takes, selected}
use Rattle.bt_scan.proofs.Selected.{none_selected, range_begun, range_skipped}
use Rattle.bt_scan.proofs.selected_rows.begin_range.Goals as goal

-- the range has no rows
pub loop-range-preserved : goal.loop-range-preserved
loop-range-preserved c =
    let lt : c.loop-range.looked_up < length c.args.set.now = search rules in
    let is : get_or c.args.set.now c.loop-range.looked_up c.in-Some-get.range.now ≡ c.in-Some-get.range.now = search rules in
    let sorted : AreSorted c.in-Some.table.now = rw c.in-Some.is at c.requires in
    let taken = subst (λ o. Takes o c.rows_in-found.result c.take_row.new.rows) c.in_default-2.is c.in_ok-key.ensures in (
      range_skipped c.loop-range.looked_up c.args.set.now c.in-Some-get.range.now c.in-Some.table.now lt is c.ranges-ranges.ensures.apart sorted (sym (ap (λ u. u.rows) c.rows_in-found.ensures) ∙ taken.0) ∙ c.loop-range.invariant.0,
      c.loop-range.invariant.1,
    )

-- its first row is at hand, and its others stand before those of the later ranges
pub returns-in-Some-2 : goal.returns-in-Some-2
returns-in-Some-2 c =
    let lt : c.loop-range.looked_up < length c.args.set.now = search rules in
    let is : get_or c.args.set.now c.loop-range.looked_up c.in-Some-get.range.now ≡ c.in-Some-get.range.now = search rules in
    let sorted : AreSorted c.in-Some.table.now = rw c.in-Some.is at c.requires in
    let taken = subst (λ o. Takes o c.rows_in-found.result c.take_row.new.rows) c.in-Some-2.is c.in_ok-key.ensures in
    rw c.in-Some.is (
      sym c.loop-range.invariant.0
          ∙ range_begun c.loop-range.looked_up c.args.set.now c.in-Some-get.range.now c.in-Some.table.now lt is c.ranges-ranges.ensures.apart sorted
          (c.in-Some-2.key, c.take_row.new.rows.cells) c.take_row.new.rows.rows (sym (ap (λ u. u.rows) c.rows_in-found.ensures) ∙ taken.0),
      taken.1,
      taken.2,
    )

-- no range is left
pub returns : goal.returns
returns c =
    let past : length c.args.set.now ≤ c.loop-range.looked_up = search rules in
    let none : selected (drop c.loop-range.looked_up c.args.set.now) c.in-Some.table.now ≡ [] = ap (λ rs. selected rs c.in-Some.table.now) (drop_all c.loop-range.looked_up c.args.set.now past) ∙ none_selected c.in-Some.table.now in
    rw c.in-Some.is (sym c.loop-range.invariant.0 ∙ none, none, c.loop-range.invariant.1)
