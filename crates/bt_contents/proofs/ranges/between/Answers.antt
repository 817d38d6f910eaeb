use Rattle.std.proofs.Common.{ℕ, List, Some, None, sym, ◌∙◌, subst}
use Rattle.std.specs.List.Sorted.{IsStrictlySortedBy}
use Rattle.std.specs.Map.{keys_of}
use Rattle.std.specs.Ordering.{nat_cmp}
use Rattle.std.specs.Cmp.Lexicographic.{slice_cmp}
use Rattle.bt_row.specs.declared.row.Row.{Row}
use Rattle.bt_contents.proofs.Within.{none_pass, less_of, not_gt, backwards, between_sorted}
use Rattle.bt_contents.proofs.ranges.between.Goals as goal

-- no key is at or past the start
pub returns-in_default-clause-rows : goal.returns-in_default-clause-rows
returns-in_default-clause-rows c = rw c.in_default.is (sym (none_pass c.args.rows.now.entries))

pub returns-in_default-clause-sorted : goal.returns-in_default-clause-sorted
unfolding IsStrictlySortedBy
returns-in_default-clause-sorted c = tt

-- the rows of a map stand in the order of their keys
pub returns-in_default-end-clause-sorted : goal.returns-in_default-end-clause-sorted
returns-in_default-end-clause-sorted c =
    subst (λ (rs : List (List ℕ × Row)). IsStrictlySortedBy (slice_cmp nat_cmp) (keys_of rs)) (sym (c.range.ensures.between tt)) (between_sorted (Some c.in-Some.start.now) None c.args.rows.now.entries c.range.ensures.ordered)

-- the range runs backwards
pub returns-then-lt-clause-rows : goal.returns-then-lt-clause-rows
returns-then-lt-clause-rows c =
    rw (c.in-Some.is, c.in-Some-end.is) (sym (backwards c.in-Some.start.now c.in-Some-end.end.now c.args.rows.now.entries (less_of _ (sym c.lt.ensures ∙ c.if-lt.true))))

pub returns-then-lt-clause-sorted : goal.returns-then-lt-clause-sorted
unfolding IsStrictlySortedBy
returns-then-lt-clause-sorted c = tt

pub range-requires-2 : goal.range-requires-2
range-requires-2 c = not_gt c.in-Some-end.end.now c.in-Some.start.now (sym c.lt.ensures ∙ c.if-lt.false)

pub returns-clause-sorted : goal.returns-clause-sorted
returns-clause-sorted c =
    subst (λ (rs : List (List ℕ × Row)). IsStrictlySortedBy (slice_cmp nat_cmp) (keys_of rs)) (sym (c.range-2.ensures.between tt)) (between_sorted (Some c.in-Some.start.now) (Some c.in-Some-end.end.now) c.args.rows.now.entries c.range-2.ensures.ordered)
