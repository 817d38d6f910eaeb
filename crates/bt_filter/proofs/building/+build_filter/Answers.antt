use Rattle.std.proofs.Common.{rules, ◌≡◌, ◌≤◌, cond, map, take, length-append, arith, refl, subst, inl, inr}
use Rattle.std.proofs.lemmas.Bool.{cases_Bool}
use Rattle.bt_filter.specs.declared.asked.AskedFilter.{the_lemmas}
use Rattle.bt_filter.specs.Building.{filter_of}
use Rattle.bt_filter.specs.Flaws.{IsOutcome, checks_of, nodes_of_all}
use Rattle.bt_filter.proofs.Numbered.{labels_so_far, room, nodes_more, labels_more, filters_more, length_of_condition, checks_of_condition, filter_of_condition}
use Rattle.bt_filter.proofs.building.+build_filter.Goals as goal

pub build_all-loop-filter-preserved : goal.build_all-loop-filter-preserved
build_all-loop-filter-preserved t c =
    let fs = c.args.filters.now in
    let i = c.loop-filter.filter-index in
    let g = c.filter-item.result in
    let lt = c.loop-filter-test.true in
    let is = c.filter-item.is in
    let now = c.loop-filter.invariant in
    let made = c.build_filter-built.ensures in
    let one : (c.from-labels.result ≡ cond c.build_filter-built.result.1 1 0) × (c.from-labels.result ≤ 1) = elim (cases_Bool c.build_filter-built.result.1) [
      | inl labelled ↦ let e : c.from-labels.result ≡ 1 = rw labelled at c.from-labels.ensures in (rw labelled e, omega (arith, e))
      | inr plain ↦ let e : c.from-labels.result ≡ 0 = rw plain at c.from-labels.ensures in (rw plain e, omega (arith, e))
    ] in
    let nodes = nodes_more fs i g c.args.below lt is in
    record {
      next = rw nodes (omega (arith, made.next, now.next, length-append (nodes_of_all (map checks_of (take i fs)) c.args.below) ((checks_of g).nodes c.args.below)));
      labels = labels_so_far _ _ _ _ _ _ now.labels one.0 made.label (labels_more fs i g lt is);
      few = omega (arith, now.few, one.1);
      built = rw (filters_more fs i g lt is) (c.pushed-list.ensures.built (map filter_of (take i fs)) (filter_of g) now.built made.built);
      checked = rw nodes (c.pushed-list.ensures.checked c.args.next.now (nodes_of_all (map checks_of (take i fs)) c.args.below) ((checks_of g).nodes c.args.below) now.checked
          (subst (λ n. IsOutcome c.build_filter-built.result.0 n ((checks_of g).nodes c.args.below)) now.next made.checked));
    }

pub build_filter-returns-in-Condition-clause-label : goal.build_filter-returns-in-Condition-clause-label
build_filter-returns-in-Condition-clause-label t c =
    rw (
      checks_of_condition c.args.filter.now c.in-Condition.predicate c.in-Condition.matched c.in-Condition.unmatched c.in-Condition.is,
      c.build_part-predicate.ensures.label,
      c.build_part-matched.ensures.label,
      c.build_part-unmatched.ensures.label,
    ) refl

pub build_filter-returns-in-Condition-clause-built : goal.build_filter-returns-in-Condition-clause-built
build_filter-returns-in-Condition-clause-built t c =
    rw (filter_of_condition c.args.filter.now c.in-Condition.predicate c.in-Condition.matched c.in-Condition.unmatched c.in-Condition.is)
    (c.condition.ensures.built _ _ _ c.build_part-predicate.ensures.built c.build_part-matched.ensures.built c.build_part-unmatched.ensures.built)

pub build_filter-returns-in-Condition-clause-checked : goal.build_filter-returns-in-Condition-clause-checked
build_filter-returns-in-Condition-clause-checked t c =
    rw (checks_of_condition c.args.filter.now c.in-Condition.predicate c.in-Condition.matched c.in-Condition.unmatched c.in-Condition.is)
    (c.condition.ensures.checked c.args.next.now _ _ _ c.build_part-predicate.ensures.checked
    (rw (← c.build_part-predicate.ensures.next) c.build_part-matched.ensures.checked)
    (rw (← c.build_part-predicate.ensures.next, ← c.build_part-matched.ensures.next) c.build_part-unmatched.ensures.checked))

pub build_all-build_filter-built-requires : goal.build_all-build_filter-built-requires
build_all-build_filter-built-requires t c = (
  search (rules, the_lemmas),
  omega (arith, c.requires, c.loop-filter.invariant.next, room c.args.filters.now c.loop-filter.filter-index c.filter-item.result c.args.below c.loop-filter-test.true c.filter-item.is),
)

pub build_filter-build_part-unmatched-requires : goal.build_filter-build_part-unmatched-requires
build_filter-build_part-unmatched-requires t c = (
  search (rules, the_lemmas),
  omega (arith, c.requires, c.build_part-predicate.ensures.next, c.build_part-matched.ensures.next, length_of_condition c.args.filter.now c.in-Condition.predicate c.in-Condition.matched c.in-Condition.unmatched c.args.below c.in-Condition.is),
)

pub build_filter-returns-in-Condition-clause-next : goal.build_filter-returns-in-Condition-clause-next
build_filter-returns-in-Condition-clause-next t c =
    omega (
      arith,
      c.build_part-predicate.ensures.next,
      c.build_part-matched.ensures.next,
      c.build_part-unmatched.ensures.next,
      length_of_condition c.args.filter.now c.in-Condition.predicate c.in-Condition.matched c.in-Condition.unmatched c.args.below c.in-Condition.is,
    )
